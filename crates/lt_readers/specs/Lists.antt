-- Histories of what was posted.
use Rattle.std.specs.Prelude.{◌≡◌, ℕ, ◌+◌, ◌≤◌, List, [], ◌∷◌, Option, Some, None, slice_get}
use Rattle.lt_face.specs.State.{State}
use Rattle.lt_model.specs.Fits.{IsWide}
use Rattle.lt_base.specs.Tables.{state_of}
use Rattle.lt_readers.specs.declared.version.Version.{Version}

abbrev pub last_of : List Version → Option Version
last_of [] = None
last_of (v ∷ []) = Some v
last_of (v ∷ (w ∷ rest)) = last_of (w ∷ rest)

-- the version is the last of the list
abbrev pub EndsIn : List Version → Version → Type 0
EndsIn log v = last_of log ≡ Some v

-- the relations of the one are there in the other, and as wide
abbrev pub HasRelations : State → State → Type 0
HasRelations s t = (relation width : ℕ) → IsWide s relation width → IsWide t relation width

-- behind so many others: the number is that much greater than the first, and the bound is the same and isn't passed
abbrev pub Follows : Version → ℕ → Version → Type 0
Follows first i v = (v.number ≡ first.number + i) × (v.most ≡ first.most) × (v.number ≤ v.most) × HasRelations (state_of first.db) (state_of v.db)

-- numbers rise by one, none is above the bound, and all have the first one's relations
abbrev pub IsHistory : List Version → Type 0
IsHistory log = (first : Version) → slice_get log 0 ≡ Some first → (i : ℕ) (v : Version) → slice_get log i ≡ Some v → Follows first i v

-- the version may come next: its number is one greater, the bound is the same and isn't passed, and the relations are there
abbrev pub MayFollow : List Version → Version → Type 0
MayFollow log w = (last : Version) × EndsIn log last × (w.number ≡ last.number + 1) × (w.most ≡ last.most) × (w.number ≤ w.most) × HasRelations (state_of last.db) (state_of w.db)
