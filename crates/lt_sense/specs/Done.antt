-- Lists of ranges that are done, and the first of several rows that a sense covers.
use Rattle.std.specs.Prelude.{◌≡◌, ◌≤◌, ℕ, true, List, [], slice_get, take, Some}
use Rattle.std.specs.List.{AllByRecursion}
use Rattle.lt_face.specs.Lists.{AreInOrder}
use Rattle.lt_face.specs.State.{Row}
use Rattle.lt_sense.specs.declared.spans.Spans.{Spans}
use Rattle.lt_sense.specs.Kept.{Sense}
use Rattle.lt_sense.specs.Sense.{covers}
use Rattle.lt_sense.specs.Spans.{stills, IsSpans}
use Rattle.lt_sense.specs.Spots.{AreUncovered}
use Rattle.lt_sense.specs.Gathered.{IsAskable}
use Rattle.lt_sense.specs.Apart.{IsApart}

-- nothing of the list grows any more, and its ranges stand in order
pub record IsDone (s : Spans) : Type 0 where
  pub sound : IsSpans s
  pub ordered : AreInOrder IsApart (stills s)
  pub at : s.at ≡ []
  pub none : s.hi ≤ s.lo

-- each of the changed rows may be asked for
abbrev pub AreAskable : Sense → List (ℕ × Row) → Type 0
AreAskable sense changes = AllByRecursion (λ (change : ℕ × Row). IsAskable sense change.0 change.1) changes

-- the row at this place is covered, and none before it is
pub record IsFirstPlace (sense : Sense) (changes : List (ℕ × Row)) (place : ℕ) : Type 0 where
  pub change : ℕ × Row
  pub is_there : slice_get changes place ≡ Some change
  pub covered : covers sense change.0 change.1 ≡ true
  pub before : AreUncovered sense (take place changes)
