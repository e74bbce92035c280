use Rattle.std.proofs.Common.{◌≡◌, ◌⊎◌, ◌+◌, ◌≤◌, ◌∙◌, ℕ, List, length, true, refl, sym, ap, subst, arith}
use Rattle.lt_face.specs.State.{Row, AgreeOn}
use Rattle.lt_base.specs.Tables.{Table, state_of}
use Rattle.lt_program.specs.Part.{Part}
use Rattle.lt_program.proofs.TallyCosts.{ends_here}
use Rattle.lt_restate.specs.Touches.{AreTouches, cost_again}
use Rattle.lt_restate.specs.Bases.{widths}
use Rattle.lt_restate.specs.Walked.{is_named}
use Rattle.lt_restate.proofs.Costing.{cost_step, cost_refused, still_step}
use Rattle.lt_restate.proofs.Endings.{ends_alike, restated}
use Rattle.lt_restate.proofs.restating.restate_marks.Goals as goal

pub begun-requires-clause-bases : goal.begun-requires-clause-bases
begun-requires-clause-bases g c =
    subst (λ (b : List Table). (relation : ℕ) (row : Row) → AgreeOn (state_of c.args.old.now.base) (state_of b) relation row ⊎ ((is_named c.args.old_on.now relation row ≡ true) ⊎ (is_named c.args.new_on.now relation row ≡ true))) (sym c.in_ok-new.ensures.base) c.requires.marked

pub statements-preserved : goal.statements-preserved
statements-preserved g c = record {
  under_way = c.in_ok-step.ensures.under_way;
  base = c.in_ok-step.ensures.one.base ∙ c.statements.invariant.base;
  moves = cost_step c.args.old.now c.statements.new c.step.new.new c.args.next.now c.args.moves.now c.statements.moves c.step.new.moves c.in_ok-step.ensures.one c.statements.invariant.base c.statements.invariant.moves c.step.ensures.moves;
  rises = omega (arith, c.statements.invariant.rises, c.step.ensures.rises);
  still = still_step c.args.old.now c.statements.new c.step.new.new c.args.moves.now c.statements.moves c.step.new.moves c.statements.walk.touches c.step.new.walk.touches c.in_ok-step.ensures.one c.statements.invariant.still c.in_ok-step.ensures.quiet c.in_ok-step.ensures.still;
}

pub returns-clause-restated : goal.returns-clause-restated
returns-clause-restated g c =
    restated c.args.old.now c.statements.new c.args.next.now c.statements.walk.touches c.statements.invariant.under_way.program c.statements.invariant.base c.statements.invariant.under_way.old_run c.statements.invariant.under_way.run c.requires.ended (sym c.statements-test.ensures.value)
    (c.statements-test.ensures.reply refl) (c.statements-test.ensures.marks refl) c.statements-test.ensures.fits c.statements-test.ensures.printed c.statements.invariant.under_way.touches

pub returns-clause-still : goal.returns-clause-still
returns-clause-still g c = λ none.
    let same = ends_alike c.args.old.now c.statements.new c.statements.invariant.under_way.old_run c.statements.invariant.under_way.run c.statements.invariant.under_way.program c.requires.ended (sym c.statements-test.ensures.value)
    (subst (AreTouches c.args.old.now c.statements.new) none c.statements.invariant.under_way.touches) in
    c.statements.invariant.still none (let e : length c.statements.new.parts ≡ length c.args.old.now.parts = ap (λ (l : List Part). length l) same in omega arith)

pub returns-clause-moves : goal.returns-clause-moves
returns-clause-moves g c =
    subst (λ n. c.statements.moves ≤ c.args.moves.now + cost_again c.args.old.now (state_of c.args.next.now) n)
    (ends_here c.statements.new c.statements.invariant.under_way.run (sym c.statements-test.ensures.value) c.args.old.now.program c.args.next.now c.statements.invariant.under_way.program c.statements.invariant.base) c.statements.invariant.moves

pub returns-in_err-step-clause-moves : goal.returns-in_err-step-clause-moves
returns-in_err-step-clause-moves g c =
    cost_refused c.args.old.now c.statements.new c.args.next.now c.args.moves.now c.statements.moves c.step.new.moves c.statements.invariant.under_way.run (sym c.statements-test.ensures.value) c.statements.invariant.under_way.program c.statements.invariant.base c.statements.invariant.moves c.step.ensures.moves

pub returns-in_err-step-clause-rises : goal.returns-in_err-step-clause-rises
returns-in_err-step-clause-rises g c = omega (arith, c.statements.invariant.rises, c.step.ensures.rises)

pub begun-requires-clause-relations : goal.begun-requires-clause-relations
begun-requires-clause-relations g c = ap (λ (b : List Table). widths (state_of b)) c.in_ok-new.ensures.base ∙ c.requires.relations
