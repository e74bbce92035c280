use Rattle.std.proofs.Common.{◌≡◌, ◌/◌, ap, sym, subst, ◌∙◌, arith, Some, None}
use Rattle.lt_net.specs.Net.{State}
use Rattle.lt_circuit.specs.Line.{number_code}
use Rattle.lt_circuit.specs.LineJob.{line_task_claim}
use Rattle.lt_circuit.specs.Row.{HasChangedClaim, row_of}
use Rattle.lt_circuit.proofs.LineClaims.{changed_claim}
use Rattle.lt_circuit.proofs.LineSteps.{abandon_line, held_busy, is_some, line_end_fits, line_own_alone, line_own_inside, task_leaf_there}
use Rattle.lt_circuit.proofs.Steps.{other_claim}
use Rattle.lt_circuit.proofs.line.Line.abandon.Goals as goal

pub number_code-code-requires : goal.number_code-code-requires
number_code-code-requires g c =
    let cl = rw (← c.self.view_is, ← c.job.view_is) at c.requires.claim in
    let inside = line_own_inside _ _ _ _ _ _ _ _ _ c.self.invariant c.args.worker (line_task_claim c.job.inside.task) cl in
    let code = ap number_code c.name-name.ensures in
    omega (arith, inside, code, c.count-segments.ensures.count, c.count-segments.ensures.few)

pub abandon_at-held-requires-clause-job : goal.abandon_at-held-requires-clause-job
abandon_at-held-requires-clause-job g c =
    let cl = rw (← c.self.view_is, ← c.job.view_is) at c.requires.claim in
    let claim = line_task_claim c.job.inside.task in
    rw (c.number_code-code.ensures ∙ ap number_code c.name-name.ensures) (is_some _ _ _ _ _ _ _ _ _ c.self.invariant claim.job (held_busy _ _ _ _ _ _ _ _ _ c.self.invariant c.args.worker claim cl))

pub abandon_at-held-requires-clause-alone : goal.abandon_at-held-requires-clause-alone
abandon_at-held-requires-clause-alone g c =
    let cl = rw (← c.self.view_is, ← c.job.view_is) at c.requires.claim in
    rw (c.number_code-code.ensures ∙ ap number_code c.name-name.ensures) (line_own_alone _ _ _ _ _ _ _ _ _ c.self.invariant c.args.worker (line_task_claim c.job.inside.task) cl)

pub give_back-used-requires : goal.give_back-used-requires
give_back-used-requires g c = λ leaf e.
    let cl = rw (← c.self.view_is, ← c.job.view_is) at c.requires.claim in
    task_leaf_there _ _ _ _ _ _ _ _ _ c.self.invariant c.args.worker c.job.inside.task cl leaf e

pub push_reserved-requires : goal.push_reserved-requires
push_reserved-requires g c =
    let cl = rw (← c.self.view_is, ← c.job.view_is) at c.requires.claim in
    line_end_fits _ _ _ _ _ _ _ _ _ c.self.invariant c.args.worker (line_task_claim c.job.inside.task) cl

pub invariant_of-self : goal.invariant_of-self
invariant_of-self g c =
    let cl = rw (← c.self.view_is, ← c.job.view_is) at c.requires.claim in
    let w = rw (← c.self.view_is, ← c.job.view_is) at c.requires.work in
    let ok = rw w at c.job.invariant in
    let row = c.self.inside.row in
    let claim = line_task_claim c.job.inside.task in
    let code = c.number_code-code.ensures ∙ ap number_code c.name-name.ensures in
    let st = c.abandon_at-held.ensures.state claim (sym code) in
    let k = c.abandon_at-held.ensures.changed in
    let inside = line_own_inside _ _ _ _ _ _ _ _ _ c.self.invariant c.args.worker claim cl in
    let at : c.number_code-code.result / 2048 ≡ claim.job / 2048 = ap (λ n. n / 2048) code in
    let changed : HasChangedClaim (claim.job / 2048) c.args.worker None row c.abandon_at-held.new.self =
    subst (λ s. HasChangedClaim s c.args.worker None row c.abandon_at-held.new.self) at
    (subst (HasChangedClaim (c.number_code-code.result / 2048) c.args.worker None row) (sym k.1) (changed_claim row (c.number_code-code.result / 2048) c.args.worker None k.0 (omega (arith, inside, at)) k.2)) in
    rw (c.push_reserved.ensures.items, c.push_reserved.ensures.len, c.push_reserved.ensures.capacity, c.give_back-used.ensures, code)
    (abandon_line _ _ _ _ _ _ _ _ _ c.self.invariant c.args.worker c.job.inside.task c.abandon_at-held.new.self cl c.abandon_at-held.ensures.sizes st changed ok)

pub returns-clause-state : goal.returns-clause-state
returns-clause-state g c =
    rw (← c.self.view_is, ← c.job.view_is) (c.abandon_at-held.ensures.state (line_task_claim c.job.inside.task) (sym (c.number_code-code.ensures ∙ ap number_code c.name-name.ensures)))

pub returns-clause-others : goal.returns-clause-others
returns-clause-others g c =
    rw (← c.self.view_is) (λ v ne. ap (λ (s : State). s.claim v) (c.abandon_at-held.ensures.state (line_task_claim c.job.inside.task) (sym (c.number_code-code.ensures ∙ ap number_code c.name-name.ensures)))
    ∙ other_claim (row_of c.self.inside.row).claim c.args.worker None v ne)
