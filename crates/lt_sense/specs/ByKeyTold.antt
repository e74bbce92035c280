-- Ranges that tell which keys a row touches.
use Rattle.std.specs.Prelude.{◌≡◌, ◌<◌, ◌≤◌, ℕ, Bool, true, false, not, ◌&&◌, ◌||◌, ◌==◌, List, [], ◌∷◌, length, get_or}
use Rattle.std.specs.List.{list_any, AllByRecursion}
use Rattle.lt_face.specs.State.{Row, permuted}
use Rattle.lt_sense.specs.declared.covering.KeptGap.{KeptGap}
use Rattle.lt_sense.specs.declared.spans.Spans.{Spans}
use Rattle.lt_sense.specs.ByKeyRest.{KeyLists}
use Rattle.lt_sense.specs.ByKey.{ByKey, gap_at, have_at, has_key, touches, IsAskableAt}
use Rattle.lt_sense.specs.Clipped.{begins}
use Rattle.lt_sense.specs.Gathered.{ranges_in}
use Rattle.lt_sense.specs.Sense.{gap_covers, lies_in}
use Rattle.lt_sense.specs.Spans.{have, ranges_of, AreBelowEnd}

-- whether the cells begin with one of the keys
abbrev pub begins_in : List ℕ → Row → Bool
begins_in keys [] = false
begins_in keys (x ∷ xs) = has_key keys x

-- so many keys lie below the bound, and no others
pub record IsBelowPlace (keys : List ℕ) (bound place : ℕ) : Type 0 where
  pub within : place ≤ length keys
  pub before : (i : ℕ) → i < place → get_or keys i 0 < bound
  pub behind : (i : ℕ) → place ≤ i → i < length keys → bound ≤ get_or keys i 0

-- the first of the keys from lo on, or hi where that comes first
pub record IsNextOf (keys : List ℕ) (lo hi next : ℕ) : Type 0 where
  pub from : lo ≤ next
  pub upto : next ≤ hi
  pub none : (k : ℕ) → lo ≤ k → k < next → has_key keys k ≡ false
  pub there : next < hi → has_key keys next ≡ true

-- ---- ranges with their rows' first cells

-- the ranges have the same rows, at the same keys
abbrev pub TellSame : List KeptGap → List KeptGap → Type 0
TellSame one other = (key relation : ℕ) (row : Row) → AreBelowEnd row → have_at key one relation row ≡ have_at key other relation row

-- the later ranges have the rows of the earlier ones at their keys, and those of one range more
abbrev pub TellAlso : List KeptGap → List KeptGap → KeptGap → Type 0
TellAlso old new range = (key relation : ℕ) (row : Row) → AreBelowEnd row → have_at key new relation row ≡ (have_at key old relation row || gap_at key range relation row)

-- and those of the ranges that came
abbrev pub TellAll : List KeptGap → List KeptGap → List KeptGap → Type 0
TellAll old new more = (key relation : ℕ) (row : Row) → AreBelowEnd row → have_at key new relation row ≡ (have_at key old relation row || have_at key more relation row)

-- and those that don't begin with one of the keys
abbrev pub TellBut : List ℕ → List KeptGap → List KeptGap → Type 0
TellBut keys old new = (key relation : ℕ) (row : Row) → AreBelowEnd row → have_at key new relation row ≡ (have_at key old relation row && not (has_key keys key))

-- the later ranges have the rows of the earlier ones, and those of one range more that don't begin with one of the keys
abbrev pub HaveBut : List ℕ → List KeptGap → List KeptGap → KeptGap → Type 0
HaveBut keys old new range = (relation : ℕ) (row : Row) → AreBelowEnd row → have new relation row ≡ (have old relation row || (gap_covers range relation row && not (begins_in keys (permuted range.columns row))))

-- and those of the ranges that came
abbrev pub HaveAllBut : List ℕ → List KeptGap → List KeptGap → List KeptGap → Type 0
HaveAllBut keys old new ranges =
    (relation : ℕ) (row : Row) → AreBelowEnd row → have new relation row ≡ (have old relation row || list_any (λ (range : KeptGap). gap_covers range relation row && not (begins_in keys (permuted range.columns row))) ranges)

-- each row that begins with the prefix, with a next cell from lo to below hi, begins with the key
abbrev pub AllBegin : ℕ → Row → ℕ → ℕ → Type 0
AllBegin key prefix lo hi = (cells : Row) → lies_in prefix lo hi cells ≡ true → begins key cells ≡ true

-- each row of the ranges begins with the key
abbrev pub AreUnder : ℕ → Spans → Type 0
AreUnder key s = (relation : ℕ) (row : Row) → have (ranges_of s) relation row ≡ true → begins key (permuted s.columns row) ≡ true

-- ---- what stands by key

abbrev pub rest_at : ℕ → KeyLists → ℕ → Row → Bool
rest_at key part relation row = part.key == key && have (ranges_in part.lists) relation row

abbrev pub rests_at : ℕ → List KeyLists → ℕ → Row → Bool
rests_at key rest relation row = list_any (λ (part : KeyLists). rest_at key part relation row) rest

-- those of the ones and the others
abbrev pub RestAll : List KeyLists → List KeyLists → List KeyLists → Type 0
RestAll old new more = (key relation : ℕ) (row : Row) → AreBelowEnd row → rests_at key new relation row ≡ (rests_at key old relation row || rests_at key more relation row)

-- whether what stands by some key has the row
abbrev pub have_rest : List KeyLists → ℕ → Row → Bool
have_rest rest relation row = list_any (λ (part : KeyLists). have (ranges_in part.lists) relation row) rest

-- one more, unless it is of one of the keys
abbrev pub RestAlsoBut : List ℕ → List KeyLists → List KeyLists → KeyLists → Type 0
RestAlsoBut keys old new part = (key relation : ℕ) (row : Row) → AreBelowEnd row → rests_at key new relation row ≡ (rests_at key old relation row || (rest_at key part relation row && not (has_key keys key)))

-- those of other keys
abbrev pub RestBut : List ℕ → List KeyLists → List KeyLists → Type 0
RestBut keys old new = (key relation : ℕ) (row : Row) → AreBelowEnd row → rests_at key new relation row ≡ (rests_at key old relation row && not (has_key keys key))

-- ---- both

abbrev pub tells : List Spans → List KeyLists → ℕ → ℕ → Row → Bool
tells lists rest key relation row = have_at key (ranges_in lists) relation row || rests_at key rest relation row

-- lists, and ranges that are of the key beside them, have also the rows of the ranges that came
abbrev pub DivideIn : List KeptGap → List KeptGap → List KeptGap → List KeptGap → ℕ → List KeptGap → Type 0
DivideIn old others new more key came = (k relation : ℕ) (row : Row) → AreBelowEnd row
    → (have_at k new relation row || (key == k && have more relation row)) ≡ ((have_at k old relation row || (key == k && have others relation row)) || (key == k && have came relation row))

-- lists and what stands by key have also the rows of the ranges that came, at the key
abbrev pub TakeIn : List Spans → List KeyLists → List Spans → List KeyLists → ℕ → List KeptGap → Type 0
TakeIn old rest new more key came = (k relation : ℕ) (row : Row) → AreBelowEnd row → tells new more k relation row ≡ (tells old rest k relation row || (key == k && have came relation row))

-- and those of others
abbrev pub TellBoth : List Spans → List KeyLists → List Spans → List KeyLists → List Spans → List KeyLists → Type 0
TellBoth old rest new more lists others = (k relation : ℕ) (row : Row) → AreBelowEnd row → tells new more k relation row ≡ (tells old rest k relation row || tells lists others k relation row)

-- the root gaps have no prefix, and for rows that may be asked for the ranges tell just which keys they touch
pub record IsToldByKey (seen : ByKey) (lists : List Spans) (rest : List KeyLists) : Type 0 where
  pub root_hits : seen.root.hits ≡ []
  pub rooted : AllByRecursion (λ (gap : KeptGap). gap.prefix ≡ []) seen.root.gaps
  pub told : (key relation : ℕ) (row : Row) → IsAskableAt seen key relation row → touches seen key relation row ≡ tells lists rest key relation row
