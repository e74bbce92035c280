-- What is answered to an item.
use Rattle.std.proofs.Common.{◌≡◌, ◌∷◌, ℕ, List, [], refl}
use Rattle.std.specs.Prelude.{codes}
use Rattle.lt_model.specs.declared.kind.Kind.{Kind}
use Rattle.lt_model.specs.declared.syntax.Item.{Item}
use Rattle.lt_model.specs.declared.syntax.Item.TheVariants.{Relation, Batch, Show}
use Rattle.lt_model.specs.Report.{Text, bad_text, line}
use Rattle.lt_hearing.specs.Answered.{acknowledged}

-- a declaration that has a code is answered by it
pub told_code : (name : Text) (kinds : List Kind) (keys : ℕ) (t : Text) (code : ℕ) → t ≡ bad_text code → acknowledged (Relation name kinds keys) t ≡ bad_text code
told_code name kinds keys t code e = rw e refl

-- one that is taken by its name
pub told_name : (name : Text) (kinds : List Kind) (keys : ℕ) (t : Text) → t ≡ [] → acknowledged (Relation name kinds keys) t ≡ line (codes "relation" ∷ name ∷ [])
told_name name kinds keys t e = rw e refl

-- any other item by what the report says
pub told_plain : (item : Item) (t : Text) → ((name : Text) (kinds : List Kind) (keys : ℕ) → item ≡ Relation name kinds keys → ⊥) → acknowledged item t ≡ t
told_plain (Relation name kinds keys) t other = absurd (other name kinds keys refl)
told_plain (Batch programs) t other = refl
told_plain (Show name version) t other = refl
