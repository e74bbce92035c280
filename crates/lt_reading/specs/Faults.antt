-- A script is a list of items. The fault of a token, said over all scripts and no reader.
use Rattle.std.specs.Prelude.{◌≡◌, ℕ, false, List, [], ◌∷◌, ◌++◌}
use Rattle.std.specs.List.{flat_map, AllByRecursion}
use Rattle.lt_reading.specs.Reading.{Cause, not_allowed as disallowed, too_many as excessive, too_large as oversized, too_full as overfull}
use Rattle.lt_reading.specs.Language.{Level, formed, few, fine, full, Language, Marks}

-- The tokens are these items.
pub record Derives {T A : Type 0} (L : Language T A) (level : Level) (ts : List T) (items : List A) : Type 0 where
  pub each : AllByRecursion (L.Holds level) items
  pub spelled : ts ≡ flat_map L.spell items

-- Some items begin so.
abbrev pub IsOpen : {T A : Type 0} → Language T A → Level → List T → Type 0
IsOpen {T} {A} L level ts = (more : List T) × (items : List A) × Derives L level (ts ++ more) items

-- The token behind these has this fault: no script has it there; or none within the limits, though a comma, or another token that
-- is spared, isn't blamed itself for asking for one too many; or none with numbers in range; or it closes what has too much in it.
pub data Faulty {T A : Type 0} (m : Marks T) (L : Language T A) (before : List T) (t : T) : ℕ → Type 0 where
  not_allowed : (IsOpen L formed (before ++ t ∷ []) → ⊥) → Faulty m L before t 2
  too_many : IsOpen L formed (before ++ t ∷ []) → m.spared t ≡ false → (IsOpen L few (before ++ t ∷ []) → ⊥) → Faulty m L before t 6
  too_large : m.IsNumber t → IsOpen L few (before ++ t ∷ []) → (IsOpen L fine (before ++ t ∷ []) → ⊥) → Faulty m L before t 3
  too_full : t ≡ m.closing → IsOpen L fine (before ++ t ∷ []) → (IsOpen L full (before ++ t ∷ []) → ⊥) → Faulty m L before t 6

-- the code of a reader's stop at a token
abbrev pub code_of : Cause → ℕ
code_of disallowed = 2
code_of excessive = 6
code_of oversized = 3
code_of overfull = 6

-- no token of these has a fault
abbrev pub NoFault : {T A : Type 0} → Marks T → Language T A → List T → Type 0
NoFault {T} m L ts = (before : List T) (t : T) (after : List T) (code : ℕ) → ts ≡ before ++ t ∷ after → Faulty m L before t code → ⊥
