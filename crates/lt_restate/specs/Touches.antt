-- What touches a statement, and what a restatement leaves.
use Rattle.std.specs.Prelude.{◌≡◌, ℕ, zero, suc, ◌+◌, ◌<◌, Bool, true, if◌then◌else◌, List, [], ◌∷◌, length, Option, Some, None, slice_get, ◌⊎◌, ⊤}
use Rattle.std.specs.List.{AllByRecursion}
use Rattle.std.specs.Ordering.{nat_cmp}
use Rattle.std.specs.declared.cmp.Ordering.{Ordering}
use Rattle.std.specs.declared.cmp.Ordering.TheVariants.{Less, Greater}
use Rattle.lt_face.specs.Lists.{IsIn}
use Rattle.lt_face.specs.Rows.{row_cmp, by_order}
use Rattle.lt_face.specs.State.{Row, State, AgreeOn}
use Rattle.lt_sense.specs.Sense.{covers, AgreeWhereCovered}
use Rattle.lt_base.specs.Tables.{Table, state_of}
use Rattle.lt_model.specs.declared.normal.Stmt.{Stmt}
use Rattle.lt_model.specs.Fits.{FitMarks}
use Rattle.lt_model.specs.Run.{run as run_of}
use Rattle.lt_program.specs.Run.{AreReplied}
use Rattle.lt_program.specs.Part.{Part}
use Rattle.lt_program.specs.Tally.{TallyView, IsRun, ends_at, has_ended, cost_on, state_before, sense_of, is_sliced_at, mending_on, IsMendedPart}
use Rattle.lt_restate.specs.declared.touch.Touch.{Touch}
use Rattle.lt_restate.specs.Changes.{is_disturbed, touched_on}
use Rattle.lt_restate.specs.Spots.{IsSpotOf}

-- by relation, then by row
abbrev pub change_cmp : ℕ × Row → ℕ × Row → Ordering
change_cmp a b = by_order (nat_cmp a.0 b.0) Less (row_cmp a.1 b.1) Greater

-- Of a statement with j before it, its old part, and the states before it: the touch names the first row on which these
-- don't agree and that the part's sense covers, and what covers it.
pub record IsTouchOn (j : ℕ) (part : Part) (s t : State) (touch : Touch) : Type 0 where
  pub numbered : touch.statement ≡ j + 1
  pub changed : AgreeOn s t touch.relation touch.row → ⊥
  pub covered : covers (sense_of part) touch.relation touch.row ≡ true
  pub by_spot : IsSpotOf (sense_of part) s touch.relation touch.row touch.spot
  pub first : (relation : ℕ) (row : Row) → covers (sense_of part) relation row ≡ true → change_cmp (relation, row) (touch.relation, touch.row) ≡ Less → AgreeOn s t relation row

-- the state before a statement in a tally
abbrev pub before : ℕ → TallyView → State
before j t = state_before j t.program (state_of t.base)

-- a statement that both tallies evaluated, the old one with this part, was touched so
pub record IsTouch (old new : TallyView) (touch : Touch) : Type 0 where
  pub place : ℕ
  pub part : Part
  pub in_old : slice_get old.parts place ≡ Some part
  pub in_new : place < length new.parts
  pub touches : IsTouchOn place part (before place old) (before place new) touch

-- the statement with j before it has a touch
abbrev pub HasTouch : List Touch → ℕ → Type 0
HasTouch touches j = (touch : Touch) × IsIn touch touches × (touch.statement ≡ j + 1)

-- a statement without a touch: no row that its old sense covers changed, and its old part stays
pub record IsKept (old new : TallyView) (j : ℕ) (part : Part) : Type 0 where
  pub agree : AgreeWhereCovered (sense_of part) (before j old) (before j new)
  pub same : slice_get new.parts j ≡ Some part

-- each touch is of a later statement than those before it
abbrev pub AreInOrder : List Touch → Type 0
AreInOrder [] = ⊤
AreInOrder (touch ∷ touches) = AllByRecursion (λ (later : Touch). touch.statement < later.statement) touches × AreInOrder touches

-- where the statement with j before it is kept by slices, its new part is the old one mended at the keys that the changes touch
abbrev pub AreMendedAt : TallyView → TallyView → ℕ → Type 0
AreMendedAt old new j =
    (was is : Part) → is_sliced_at (slice_get old.program j) ≡ true → slice_get old.parts j ≡ Some was → slice_get new.parts j ≡ Some is → IsMendedPart (touched_on was (before j old) (before j new)) was is

-- A touch for each statement, evaluated in both tallies, whose old sense covers a changed row. Of those kept by slices only the
-- touched keys' slices are new. The parts of the others are as they were.
pub record AreTouches (old new : TallyView) (touches : List Touch) : Type 0 where
  pub each : AllByRecursion (IsTouch old new) touches
  pub in_order : AreInOrder touches
  pub mended : (j : ℕ) → HasTouch touches j → AreMendedAt old new j
  pub others : (j : ℕ) (part : Part) → slice_get old.parts j ≡ Some part → j < length new.parts → HasTouch touches j ⊎ IsKept old new j part

-- ---- moves

abbrev pub is_part_disturbed : Option Part → State → State → Bool
is_part_disturbed None s t = true
is_part_disturbed (Some part) s t = is_disturbed (sense_of part) s t

-- whether the statement with j before it is evaluated where the program is restated on a state: it has a touch, or the old
-- tally didn't reach it
abbrev pub is_evaluated : TallyView → State → ℕ → Bool
is_evaluated old next j = is_part_disturbed (slice_get old.parts j) (before j old) (state_before j old.program next)

-- The moves that it may take then, where the state before it was one and is another: where it has an old part and is kept by
-- slices, what the joins of the touched keys' slices may take, else what that of its body may.
abbrev pub cost_after : Option Part → Option Stmt → State → State → ℕ
cost_after None stmt s t = cost_on stmt t
cost_after (Some part) stmt s t = if is_sliced_at stmt then mending_on (touched_on part s t) stmt t else cost_on stmt t

abbrev pub cost_at : TallyView → State → ℕ → ℕ
cost_at old next j = if is_evaluated old next j then cost_after (slice_get old.parts j) (slice_get old.program j) (before j old) (state_before j old.program next) else 0

-- the moves that those of the first n statements may take
abbrev pub cost_again : TallyView → State → ℕ → ℕ
cost_again old next zero = 0
cost_again old next (suc n) = cost_again old next n + cost_at old next n

-- ---- a whole restatement

-- The tally is the whole run of the old tally's program on the next database, by these touches. A statement that counts as touched
-- has a touch, and without any the program ends where it did, with the same parts.
pub record IsRestatement (old : TallyView) (next : List Table) (new : TallyView) (named : List Touch) : Type 0 where
  pub program : new.program ≡ old.program
  pub base : new.base ≡ next
  pub ended : has_ended new ≡ true
  pub run : IsRun new
  pub evaluated : length new.parts ≡ ends_at old.program (state_of next)
  pub reply : new.reply ≡ (run_of old.program (state_of next)).0
  pub marks : new.marks ≡ (run_of old.program (state_of next)).1
  pub fits : FitMarks (state_of next) new.marks
  pub printed : AreReplied new.reply
  pub touches : AreTouches old new named
  pub again : (j : ℕ) → j < length old.parts → j < length new.parts → is_evaluated old (state_of next) j ≡ true → HasTouch named j
  pub same_end : named ≡ [] → new.parts ≡ old.parts
