use Rattle.std.proofs.Common.{◌≡◌, ◌+◌, ◌<◌, List, length, get_or, ap, ◌∙◌}
use Rattle.std.proofs.lemmas.Option.{slice_get_within}
use Rattle.std.specs.Arc.{arc_value}
use Rattle.lt_model.specs.declared.normal.Stmt.{Stmt}
use Rattle.lt_query.specs.Planned.{plans_of}
use Rattle.lt_query.proofs.KeptPlans.{plan_there}
use Rattle.lt_program.proofs.Sounds.{sound_fits, statement_evaluates, next_is, sound_next, one_more, cost_told}
use Rattle.lt_program.proofs.tally.Tally.evaluate_by.Goals as goal

pub evaluate-requires-clause-plan : goal.evaluate-requires-clause-plan
evaluate-requires-clause-plan g c =
    let program = arc_value c.self.inside.prog in
    let there = next_is program c.statements.result.now c.self.inside.base c.self.inside.course c.args.self.now c.len-number.result c.index-statements-number.result c.self.view_is c.self.invariant c.requires.going (c.statements.ensures ∙ c.deref.ensures) c.len-number.ensures c.index-statements-number.is in
    let below : c.len-number.result < length program = rw c.len-number.ensures (slice_get_within program (length c.self.inside.course.parts) c.index-statements-number.result there) in
    let are : c.plans.result.now ≡ plans_of program = c.plans.ensures ∙ ap plans_of c.deref-2.ensures in
    let at : c.index-statements-number.result ≡ get_or program c.len-number.result c.index-statements-number.result = c.index-statements-number.is ∙ ap (λ (xs : List Stmt). get_or xs c.len-number.result c.index-statements-number.result) (c.statements.ensures ∙ c.deref.ensures) in
    plan_there program c.plans.result.now c.len-number.result c.index-statements-number.result c.index-plans-number.result are below at c.index-plans-number.is

pub evaluate-requires-clause-can_evaluate : goal.evaluate-requires-clause-can_evaluate
evaluate-requires-clause-can_evaluate g c =
    let program = arc_value c.self.inside.prog in
    let there = next_is program c.statements.result.now c.self.inside.base c.self.inside.course c.args.self.now c.len-number.result c.index-statements-number.result c.self.view_is c.self.invariant c.requires.going (c.statements.ensures ∙ c.deref.ensures) c.len-number.ensures c.index-statements-number.is in
    statement_evaluates c.self.inside.base program (length c.self.inside.course.parts) c.index-statements-number.result there c.self.invariant.wide c.self.invariant.fits c.self.invariant.indexes

pub evaluate-requires-clause-marks : goal.evaluate-requires-clause-marks
evaluate-requires-clause-marks g c = sound_fits (arc_value c.self.inside.prog) c.self.inside.base c.self.inside.course c.self.invariant

pub invariant_of-self-2 : goal.invariant_of-self-2
invariant_of-self-2 g c =
    let there = next_is (arc_value c.self.inside.prog) c.statements.result.now c.self.inside.base c.self.inside.course c.args.self.now c.len-number.result c.index-statements-number.result c.self.view_is c.self.invariant c.requires.going (c.statements.ensures ∙ c.deref.ensures) c.len-number.ensures c.index-statements-number.is in
    sound_next (arc_value c.self.inside.prog) c.self.inside.base c.self.inside.course c.evaluate.new.self c.args.self.now c.len-number.result c.index-statements-number.result c.self.view_is c.self.invariant c.requires.going c.len-number.ensures there
    c.in_ok-evaluate.ensures.ok c.in_ok-evaluate.ensures.laid

pub returns-clause-one : goal.returns-clause-one
returns-clause-one g c =
    let there = next_is (arc_value c.self.inside.prog) c.statements.result.now c.self.inside.base c.self.inside.course c.args.self.now c.len-number.result c.index-statements-number.result c.self.view_is c.self.invariant c.requires.going (c.statements.ensures ∙ c.deref.ensures) c.len-number.ensures c.index-statements-number.is in
    let sound = sound_next (arc_value c.self.inside.prog) c.self.inside.base c.self.inside.course c.evaluate.new.self c.args.self.now c.len-number.result c.index-statements-number.result c.self.view_is c.self.invariant c.requires.going c.len-number.ensures there
    c.in_ok-evaluate.ensures.ok c.in_ok-evaluate.ensures.laid in
    one_more (arc_value c.self.inside.prog) c.self.inside.base c.self.inside.course c.evaluate.new.self c.args.self.now (c.len-number.result + 1) c.index-statements-number.result c.self.view_is c.in_ok-evaluate.ensures.ok sound

pub returns-clause-moves : goal.returns-clause-moves
returns-clause-moves g c =
    let there = next_is (arc_value c.self.inside.prog) c.statements.result.now c.self.inside.base c.self.inside.course c.args.self.now c.len-number.result c.index-statements-number.result c.self.view_is c.self.invariant c.requires.going (c.statements.ensures ∙ c.deref.ensures) c.len-number.ensures c.index-statements-number.is in
    cost_told (g.J.Joiner.most c.args.by.now) (arc_value c.self.inside.prog) c.self.inside.base c.self.inside.course c.args.self.now c.index-statements-number.result c.args.moves.now c.evaluate.new.moves c.self.view_is c.self.invariant there c.evaluate.ensures.cost
