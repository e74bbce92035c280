use Rattle.std.proofs.Common.{ap, ◌∙◌, refl, None}
use Rattle.lt_net.specs.Net.{State, read}
use Rattle.lt_circuit.specs.Board.{state_of}
use Rattle.lt_net.specs.Tree.{inputs_of, tree_of}
use Rattle.lt_net.proofs.Codes.{job_of-code}
use Rattle.lt_circuit.specs.Job.{done_name}
use Rattle.lt_circuit.proofs.Steps.{other_claim, claim_of_done, finish_circuit, done_busy, is_own, is_there, kept, end_fits}
use Rattle.lt_circuit.proofs.circuit.Circuit.finish.Goals as goal

pub store-stood-requires-clause-job : goal.store-stood-requires-clause-job
store-stood-requires-clause-job g c =
    let cl = rw (← c.self.view_is, ← c.output.view_is) at c.requires.claim in
    let did = c.output.inside.did in
    is_there _ _ _ _ _ _ _ _ _ c.self.invariant (done_name did) (done_busy _ _ _ _ _ _ _ _ _ c.self.invariant c.args.worker did cl)

pub store-stood-requires-clause-current : goal.store-stood-requires-clause-current
store-stood-requires-clause-current g c = λ running.
    let cl = rw (← c.self.view_is, ← c.output.view_is) at c.requires.claim in
    let did = c.output.inside.did in
    let b = c.self.inside.board in
    (kept _ _ _ _ _ _ _ _ _ c.self.invariant).current c.args.worker (claim_of_done did) cl running
    ∙ ap (λ name. read (state_of b).value (inputs_of (tree_of b.leaves) name)) (job_of-code (done_name did) (is_own _ _ _ _ _ _ _ _ _ c.self.invariant (done_name did) (done_busy _ _ _ _ _ _ _ _ _ c.self.invariant c.args.worker did cl)))

pub store-stood-requires-clause-tallies : goal.store-stood-requires-clause-tallies
store-stood-requires-clause-tallies g c = c.self.invariant.tallies_long

pub push_reserved-requires : goal.push_reserved-requires
push_reserved-requires g c =
    let cl = rw (← c.self.view_is, ← c.output.view_is) at c.requires.claim in
    end_fits _ _ _ _ _ _ _ _ _ c.self.invariant c.args.worker (claim_of_done c.output.inside.did) cl

pub invariant_of-self : goal.invariant_of-self
invariant_of-self g c =
    let cl = rw (← c.self.view_is, ← c.output.view_is) at c.requires.claim in
    let w = rw (← c.self.view_is, ← c.output.view_is) at c.requires.work in
    let ok = rw w at c.output.invariant in
    let st = c.store-stood.ensures.state _ (claim_of_done c.output.inside.did) refl refl ok.gave in
    rw (c.push_reserved.ensures.items, c.push_reserved.ensures.len, c.push_reserved.ensures.capacity, c.store-stood.ensures.tallies, c.name-job.ensures)
    (finish_circuit _ _ _ _ _ _ _ _ _ c.self.invariant c.args.worker c.output.inside.did c.store-stood.new.board cl c.store-stood.ensures.leaves st c.store-stood.ensures.claims ok c.requires.worker)

pub returns-clause-state : goal.returns-clause-state
returns-clause-state g c =
    let w = rw (← c.self.view_is, ← c.output.view_is) at c.requires.work in
    let ok = rw w at c.output.invariant in
    rw (← c.self.view_is, ← c.output.view_is) (c.store-stood.ensures.state _ (claim_of_done c.output.inside.did) refl refl ok.gave)

pub returns-clause-others : goal.returns-clause-others
returns-clause-others g c =
    let w = rw (← c.self.view_is, ← c.output.view_is) at c.requires.work in
    let ok = rw w at c.output.invariant in
    rw (← c.self.view_is) (λ v ne. ap (λ (s : State). s.claim v) (c.store-stood.ensures.state _ (claim_of_done c.output.inside.did) refl refl ok.gave)
    ∙ other_claim (state_of c.self.inside.board).claim c.args.worker None v ne)
