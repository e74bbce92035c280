-- Databases by version, and the states that fit a schema in front.
use Rattle.std.specs.Prelude.{◌≡◌, ℕ, List, [], ◌∷◌, length, slice_get, Option, Some, None, ⊤}
use Rattle.lt_face.specs.State.{State}
use Rattle.lt_model.specs.Schema.{Schema}
use Rattle.lt_base.specs.Tables.{Table}

-- the database of now, or that of a version; none where the version isn't there
abbrev pub database_of : List Table → List (List Table) → Option ℕ → Option (List Table)
database_of now versions None = Some now
database_of now versions (Some version) = slice_get versions version

-- the state's relations are the first of the schema's, each as wide
abbrev pub IsFront : Schema → State → Type 0
IsFront schema [] = ⊤
IsFront [] (relation ∷ state) = ⊥
IsFront (heading ∷ schema) (relation ∷ state) = (relation.width ≡ length heading.1) × IsFront schema state
