use Rattle.std.proofs.Common.{◌≡◌, List, get_or, ap, ◌∙◌}
use Rattle.lt_base.specs.Tables.{state_of}
use Rattle.lt_model.specs.declared.normal.Stmt.{Stmt}
use Rattle.lt_query.proofs.KeptPlans.{plan_there}
use Rattle.lt_program.proofs.Followed.{planned_on}
use Rattle.lt_program.proofs.Firsts.{first_there, can_evaluate, cost_here, is_state_now, fits_here, back_here, one_more}
use Rattle.lt_program.proofs.Recalls.{outcome_ordered}
use Rattle.lt_program.proofs.going.Going.go_on.Goals as goal

pub outcome_alone-requires-clause-plan : goal.outcome_alone-requires-clause-plan
outcome_alone-requires-clause-plan g c =
    let there = first_there c.args.prog.now c.statements.result.now c.args.number c.index-statements-number.result c.statements.ensures c.requires.more c.index-statements-number.is in
    let can = can_evaluate c.args.prog.now c.requires.under_way.0 c.args.keeps c.requires.under_way.1 c.args.number c.args.self.now c.args.db.now c.requires.under_way.2 c.index-statements-number.result there in
    let at : c.index-statements-number.result ≡ get_or c.args.prog.now c.args.number c.index-statements-number.result = c.index-statements-number.is ∙ ap (λ (xs : List Stmt). get_or xs c.args.number c.index-statements-number.result) c.statements.ensures in
    planned_on (state_of c.args.db.now) c.index-statements-number.result c.index-plans-number.result can.wide can.fits
    (plan_there c.args.prog.now c.plans.result.now c.args.number c.index-statements-number.result c.index-plans-number.result c.plans.ensures c.requires.more at c.index-plans-number.is)

pub outcome_alone-requires-clause-can_evaluate : goal.outcome_alone-requires-clause-can_evaluate
outcome_alone-requires-clause-can_evaluate g c =
    let there = first_there c.args.prog.now c.statements.result.now c.args.number c.index-statements-number.result c.statements.ensures c.requires.more c.index-statements-number.is in
    can_evaluate c.args.prog.now c.requires.under_way.0 c.args.keeps c.requires.under_way.1 c.args.number c.args.self.now c.args.db.now c.requires.under_way.2 c.index-statements-number.result there

pub accept-requires-clause-state : goal.accept-requires-clause-state
accept-requires-clause-state g c = is_state_now c.args.prog.now c.requires.under_way.0 c.args.keeps c.requires.under_way.1 c.args.number c.args.self.now c.args.db.now c.requires.under_way.2

pub accept-requires-clause-ordered : goal.accept-requires-clause-ordered
accept-requires-clause-ordered g c = outcome_ordered c.index-statements-number.result (state_of c.args.db.now) c.in_ok-outcome.outcome c.in_ok-outcome.ensures.outcome

pub accept-requires-clause-fits : goal.accept-requires-clause-fits
accept-requires-clause-fits g c =
    let there = first_there c.args.prog.now c.statements.result.now c.args.number c.index-statements-number.result c.statements.ensures c.requires.more c.index-statements-number.is in
    fits_here c.args.prog.now c.requires.under_way.0 c.args.keeps c.requires.under_way.1 c.args.number c.args.self.now c.args.db.now c.requires.under_way.2 c.index-statements-number.result there c.in_ok-outcome.outcome c.in_ok-outcome.ensures.outcome

pub accept-requires-clause-back : goal.accept-requires-clause-back
accept-requires-clause-back g c = λ refused.
    let there = first_there c.args.prog.now c.statements.result.now c.args.number c.index-statements-number.result c.statements.ensures c.requires.more c.index-statements-number.is in
    (state_of c.requires.under_way.0, back_here c.args.prog.now c.requires.under_way.0 c.args.keeps c.requires.under_way.1 c.args.number c.args.self.now c.args.db.now c.requires.under_way.2 c.index-statements-number.result there c.in_ok-outcome.outcome c.in_ok-outcome.ensures.outcome c.requires.going refused)

pub returns-clause-under_way : goal.returns-clause-under_way
returns-clause-under_way g c = λ base refusing logged way.
    let there = first_there c.args.prog.now c.statements.result.now c.args.number c.index-statements-number.result c.statements.ensures c.requires.more c.index-statements-number.is in
    one_more c.args.prog.now base c.args.keeps refusing c.args.number c.args.self.now c.args.db.now way c.index-statements-number.result there c.in_ok-outcome.outcome c.in_ok-outcome.ensures.outcome c.args.logs c.accept.new.self c.accept.new.db c.requires.going logged c.in_ok-accept.ensures

pub returns-clause-cost : goal.returns-clause-cost
returns-clause-cost g c =
    let there = first_there c.args.prog.now c.statements.result.now c.args.number c.index-statements-number.result c.statements.ensures c.requires.more c.index-statements-number.is in
    cost_here c.args.prog.now c.requires.under_way.0 c.args.keeps c.requires.under_way.1 c.args.number c.args.self.now c.args.db.now c.requires.under_way.2 c.index-statements-number.result there (g.J.Joiner.most c.args.by.now) c.args.moves.now c.outcome_alone.new.moves c.outcome_alone.ensures.cost

pub returns-in_err-outcome-clause-cost : goal.returns-in_err-outcome-clause-cost
returns-in_err-outcome-clause-cost g c =
    let there = first_there c.args.prog.now c.statements.result.now c.args.number c.index-statements-number.result c.statements.ensures c.requires.more c.index-statements-number.is in
    cost_here c.args.prog.now c.requires.under_way.0 c.args.keeps c.requires.under_way.1 c.args.number c.args.self.now c.args.db.now c.requires.under_way.2 c.index-statements-number.result there (g.J.Joiner.most c.args.by.now) c.args.moves.now c.outcome_alone.new.moves c.outcome_alone.ensures.cost

pub returns-in_err-accept-clause-cost : goal.returns-in_err-accept-clause-cost
returns-in_err-accept-clause-cost g c =
    let there = first_there c.args.prog.now c.statements.result.now c.args.number c.index-statements-number.result c.statements.ensures c.requires.more c.index-statements-number.is in
    cost_here c.args.prog.now c.requires.under_way.0 c.args.keeps c.requires.under_way.1 c.args.number c.args.self.now c.args.db.now c.requires.under_way.2 c.index-statements-number.result there (g.J.Joiner.most c.args.by.now) c.args.moves.now c.outcome_alone.new.moves c.outcome_alone.ensures.cost
