use Rattle.std.proofs.Common.{ℕ, List, length, refl, sym, ap, ◌∙◌, subst}
use Rattle.lt_face.specs.State.{Row}
use Rattle.lt_model.specs.Marks.{laid}
use Rattle.lt_base.specs.Tables.{state_of}
use Rattle.lt_program.specs.Tally.{sense_of}
use Rattle.lt_restate.specs.Bases.{AreRowsOf}
use Rattle.lt_restate.specs.Covered.{AreCoveredChanges}
use Rattle.lt_restate.proofs.First.{none_touches, first_row, first_touches}
use Rattle.lt_restate.proofs.touched.touch_of.Goals as goal

pub returns-then-rows-eq0-clause-none : goal.returns-then-rows-eq0-clause-none
returns-then-rows-eq0-clause-none c = λ t are.
    none_touches c.args.part.now c.args.changes.now (ap (λ (l : List (ℕ × Row)). length l) (sym c.as_slice-rows.ensures) ∙ c.if-rows-eq0.true) (laid (state_of c.args.old.now.base) c.args.past.now) t are

pub spot_of-requires-clause-row : goal.spot_of-requires-clause-row
spot_of-requires-clause-row c =
    first_row c.args.part.now c.as_slice-rows.result.now c.first_place.result c.first_place.ensures.first c.index-rows-first_place.result c.first_place.ensures.within c.index-rows-first_place.is (state_of c.args.old.now.base)
    (subst (AreRowsOf (state_of c.args.old.now.base)) (sym c.as_slice-rows.ensures) c.requires.rows)

pub returns-clause-some : goal.returns-clause-some
returns-clause-some c = λ t are.
    first_touches c.args.part.now c.as_slice-rows.result.now c.first_place.result c.first_place.ensures.first c.index-rows-first_place.result c.first_place.ensures.within c.index-rows-first_place.is c.args.place c.spot_of.result c.copy_row.result c.copy_row.ensures _ refl
    (laid (state_of c.args.old.now.base) c.args.past.now) t (c.spot_of.ensures (sense_of c.args.part.now) c.requires.tight)
    (subst (AreCoveredChanges (sense_of c.args.part.now) (laid (state_of c.args.old.now.base) c.args.past.now) t) (sym c.as_slice-rows.ensures) are)
