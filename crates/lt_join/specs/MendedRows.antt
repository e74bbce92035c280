-- Slices of some keys that were joined anew, put among others.
use Rattle.std.specs.Prelude.{◌≡◌, ℕ, List, ◌⊎◌}
use Rattle.lt_face.specs.Lists.{IsIn}
use Rattle.lt_query.specs.Lists.{IsRising}
use Rattle.lt_sense.specs.ByKey.{KeySense}
use Rattle.lt_join.specs.Slices.{KeyRows, Slice, row_keys, rows_at, sense_keys, slice_of}

-- the slice of this sense is new, of one of these keys, or it was there, and its rows are as they were
abbrev pub IsNewOrOld : (Slice → Type 0) → List ℕ → List KeySense → List KeyRows → List KeyRows → KeySense → Type 0
IsNewOrOld IsNew keys others old rows s = (IsIn s.key keys × IsNew (slice_of rows s)) ⊎ (IsIn s others × (rows_at s.key rows ≡ rows_at s.key old))

-- the other slices stay, each of the keys has a slice, and those are as the word says
pub record AreJoinedIn (IsNew : Slice → Type 0) (keys : List ℕ) (others : List KeySense) (old : List KeyRows) (senses : List KeySense) (rows : List KeyRows) : Type 0 where
  pub senses_rise : IsRising (sense_keys senses)
  pub rows_rise : IsRising (row_keys rows)
  pub stay : (s : KeySense) → IsIn s others → IsIn s senses
  pub each : (s : KeySense) → IsIn s senses → IsNewOrOld IsNew keys others old rows s
  pub has : (k : ℕ) → IsIn k keys → IsIn k (sense_keys senses)
  pub rows_from : (k : ℕ) → IsIn k (row_keys rows) → IsIn k keys ⊎ IsIn k (row_keys old)
