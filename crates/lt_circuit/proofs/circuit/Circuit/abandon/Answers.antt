use Rattle.std.proofs.Common.{ap, sym, ◌∙◌, arith, None}
use Rattle.lt_net.specs.Net.{State}
use Rattle.lt_circuit.specs.Board.{state_of}
use Rattle.lt_net.specs.Codes.{code_of}
use Rattle.lt_circuit.specs.Job.{task_name}
use Rattle.lt_circuit.proofs.Steps.{other_claim, claim_of_task, abandon_circuit, task_busy, is_inside, leaf_there, end_fits}
use Rattle.lt_circuit.proofs.circuit.Circuit.abandon.Goals as goal

pub abandon-held-requires-clause-job : goal.abandon-held-requires-clause-job
abandon-held-requires-clause-job g c =
    let cl = rw (← c.self.view_is, ← c.job.view_is) at c.requires.claim in
    let task = c.job.inside.task in
    let k = is_inside _ _ _ _ _ _ _ _ _ c.self.invariant (task_name task) (task_busy _ _ _ _ _ _ _ _ _ c.self.invariant c.args.worker task cl) in
    omega (arith, k, ap code_of c.name-name.ensures)

pub give_back-used-requires : goal.give_back-used-requires
give_back-used-requires g c =
    let cl = rw (← c.self.view_is, ← c.job.view_is) at c.requires.claim in
    let task = c.job.inside.task in
    leaf_there _ _ _ _ _ _ _ _ _ c.self.invariant (task_name task) (task_busy _ _ _ _ _ _ _ _ _ c.self.invariant c.args.worker task cl)

pub push_reserved-requires : goal.push_reserved-requires
push_reserved-requires g c =
    let cl = rw (← c.self.view_is, ← c.job.view_is) at c.requires.claim in
    end_fits _ _ _ _ _ _ _ _ _ c.self.invariant c.args.worker (claim_of_task c.job.inside.task) cl

pub invariant_of-self : goal.invariant_of-self
invariant_of-self g c =
    let cl = rw (← c.self.view_is, ← c.job.view_is) at c.requires.claim in
    let w = rw (← c.self.view_is, ← c.job.view_is) at c.requires.work in
    let ok = rw w at c.job.invariant in
    let code = ap code_of c.name-name.ensures in
    let st = c.abandon-held.ensures.state (claim_of_task c.job.inside.task) (sym code) in
    rw (c.push_reserved.ensures.items, c.push_reserved.ensures.len, c.push_reserved.ensures.capacity, c.give_back-used.ensures, c.name-name.ensures)
    (abandon_circuit _ _ _ _ _ _ _ _ _ c.self.invariant c.args.worker c.job.inside.task c.abandon-held.new.self cl c.abandon-held.ensures.leaves st c.abandon-held.ensures.claims ok c.requires.worker)

pub returns-clause-state : goal.returns-clause-state
returns-clause-state g c =
    rw (← c.self.view_is, ← c.job.view_is) (c.abandon-held.ensures.state (claim_of_task c.job.inside.task) (sym (ap code_of c.name-name.ensures)))

pub returns-clause-others : goal.returns-clause-others
returns-clause-others g c =
    rw (← c.self.view_is) (λ v ne. ap (λ (s : State). s.claim v) (c.abandon-held.ensures.state (claim_of_task c.job.inside.task) (sym (ap code_of c.name-name.ensures)))
    ∙ other_claim (state_of c.self.inside.board).claim c.args.worker None v ne)
