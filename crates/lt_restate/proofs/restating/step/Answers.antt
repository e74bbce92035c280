use Rattle.std.proofs.Common.{length, arith}
use Rattle.lt_restate.proofs.Costing.{cost_first}
use Rattle.lt_restate.proofs.Steps.{step_agree, step_part, tight_by, agree_by, touch_by}
use Rattle.lt_restate.proofs.Ways.{way_first}
use Rattle.lt_restate.proofs.restating.step.Goals as goal

pub next_changes-requires-clause-part : goal.next_changes-requires-clause-part
next_changes-requires-clause-part g c = (step_part c.args.old.now c.args.new.now c.parts.result.now c.evaluated-place.result c.index-parts-place.result c.parts.ensures.parts c.evaluated-place.ensures (let lt = c.if-place-evaluated.false in let long = c.evaluated.ensures in omega (arith, lt, long)) c.index-parts-place.is)

pub touch_of-requires-clause-few : goal.touch_of-requires-clause-few
touch_of-requires-clause-few g c = omega (arith, c.requires.under_way.few, c.requires.under_way.old_run.evaluated, c.evaluated.ensures, c.evaluated-place.ensures)

pub touch_of-requires-clause-tight : goal.touch_of-requires-clause-tight
touch_of-requires-clause-tight g c =
    tight_by c.args.old.now c.args.new.now c.args.old_on.now c.args.new_on.now c.args.walk.now c.requires.under_way c.index-parts-place.result
    (step_part c.args.old.now c.args.new.now c.parts.result.now c.evaluated-place.result c.index-parts-place.result c.parts.ensures.parts c.evaluated-place.ensures (let lt = c.if-place-evaluated.false in let long = c.evaluated.ensures in omega (arith, lt, long)) c.index-parts-place.is) c.part.result.now c.part.ensures

pub keep_next-requires-clause-agree : goal.keep_next-requires-clause-agree
keep_next-requires-clause-agree g c =
    step_agree c.args.old.now c.args.new.now c.parts.result.now c.evaluated-place.result c.index-parts-place.result c.parts.ensures.parts c.evaluated-place.ensures (let lt = c.if-place-evaluated.false in let long = c.evaluated.ensures in omega (arith, lt, long)) c.index-parts-place.is
    (agree_by c.args.old.now c.args.new.now c.args.old_on.now c.args.new_on.now c.args.walk.now c.requires.under_way c.index-parts-place.result
    (step_part c.args.old.now c.args.new.now c.parts.result.now c.evaluated-place.result c.index-parts-place.result c.parts.ensures.parts c.evaluated-place.ensures (let lt = c.if-place-evaluated.false in let long = c.evaluated.ensures in omega (arith, lt, long)) c.index-parts-place.is) c.part.result.now c.part.ensures c.in_ok-changes.changes c.in_ok-changes.ensures.changes c.in-None.ensures.none)

pub evaluate_again-requires-clause-part : goal.evaluate_again-requires-clause-part
evaluate_again-requires-clause-part g c = (step_part c.args.old.now c.args.new.now c.parts.result.now c.evaluated-place.result c.index-parts-place.result c.parts.ensures.parts c.evaluated-place.ensures (let lt = c.if-place-evaluated.false in let long = c.evaluated.ensures in omega (arith, lt, long)) c.index-parts-place.is)

pub evaluate_again-requires-clause-touch : goal.evaluate_again-requires-clause-touch
evaluate_again-requires-clause-touch g c =
    touch_by c.args.old.now c.args.new.now c.args.old_on.now c.args.new_on.now c.args.walk.now c.requires.under_way c.index-parts-place.result
    (step_part c.args.old.now c.args.new.now c.parts.result.now c.evaluated-place.result c.index-parts-place.result c.parts.ensures.parts c.evaluated-place.ensures (let lt = c.if-place-evaluated.false in let long = c.evaluated.ensures in omega (arith, lt, long)) c.index-parts-place.is) c.part.result.now c.part.ensures c.in_ok-changes.changes c.in_ok-changes.ensures.changes c.evaluated-place.result c.evaluated-place.ensures c.in-Some.touch c.in-Some.ensures.some

pub returns-then-place-evaluated-clause-under_way : goal.returns-then-place-evaluated-clause-under_way
returns-then-place-evaluated-clause-under_way g c =
    way_first c.args.old.now c.args.new.now c.evaluate.new.self c.args.old_on.now c.args.new_on.now c.args.walk.now c.requires.under_way c.in_ok-evaluate.ensures.one
    (let past = c.if-place-evaluated.true in let long = c.evaluated.ensures in let here = c.evaluated-place.ensures in omega (arith, past, long, here))

pub returns-then-place-evaluated-clause-moves : goal.returns-then-place-evaluated-clause-moves
returns-then-place-evaluated-clause-moves g c =
    cost_first c.args.old.now c.args.new.now (length c.args.new.now.parts) c.args.moves.now c.evaluate.new.moves c.requires.under_way.program
    (let past = c.if-place-evaluated.true in let long = c.evaluated.ensures in let here = c.evaluated-place.ensures in omega (arith, past, long, here))
    c.evaluate.ensures.moves
