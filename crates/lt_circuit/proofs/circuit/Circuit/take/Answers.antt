use Rattle.std.proofs.Common.{◌≡◌, ◌+◌, ◌≤◌, ◌++◌, ◌∷◌, [], None, length, ap, sym, ◌∙◌, subst, arith}
use Rattle.std.specs.Arc.{arc_value}
use Rattle.std.specs.Vec.{vec_len, vec_capacity}
use Rattle.std.specs.List.{AllByRecursion}
use Rattle.lt_net.specs.declared.job.JobState.TheVariants.{Pending}
use Rattle.lt_circuit.specs.declared.entry.Event.TheVariants.{Claim}
use Rattle.lt_net.specs.Net.{read}
use Rattle.lt_net.specs.Tree.{inputs_of, tree_of}
use Rattle.lt_net.specs.Codes.{code_of}
use Rattle.lt_circuit.specs.Board.{inputs_list, standing, state_of}
use Rattle.lt_net.proofs.Fitting.{all_read}
use Rattle.lt_circuit.proofs.Steps.{all_fit, claim_circuit, is_inside, is_own, is_there, leaf_there, pending_busy, roomier}
use Rattle.lt_circuit.proofs.Tasks.{from_fits, inputs_long, is_claimed}
use Rattle.lt_circuit.proofs.circuit.Circuit.take.Goals as goal

pub capture-requires : goal.capture-requires
capture-requires g c =
    let b = c.self.inside.board in
    let pending : (state_of b).status (code_of c.args.name) ≡ Pending = rw (← c.self.view_is) at c.requires.pending in
    let free : (state_of b).claim c.args.worker ≡ None = rw (← c.self.view_is) at c.requires.free in
    is_there _ _ _ _ _ _ _ _ _ c.self.invariant c.args.name (pending_busy _ _ _ _ _ _ _ _ _ c.self.invariant c.args.worker c.args.name free pending)

pub hold-requires-clause-job : goal.hold-requires-clause-job
hold-requires-clause-job g c =
    let b = c.self.inside.board in
    let pending : (state_of b).status (code_of c.args.name) ≡ Pending = rw (← c.self.view_is) at c.requires.pending in
    let free : (state_of b).claim c.args.worker ≡ None = rw (← c.self.view_is) at c.requires.free in
    let k = is_inside _ _ _ _ _ _ _ _ _ c.self.invariant c.args.name (pending_busy _ _ _ _ _ _ _ _ _ c.self.invariant c.args.worker c.args.name free pending) in
    k

pub take_task-task-requires-clause-leaf : goal.take_task-task-requires-clause-leaf
take_task-task-requires-clause-leaf g c =
    let b = c.self.inside.board in
    let pending : (state_of b).status (code_of c.args.name) ≡ Pending = rw (← c.self.view_is) at c.requires.pending in
    let free : (state_of b).claim c.args.worker ≡ None = rw (← c.self.view_is) at c.requires.free in
    leaf_there _ _ _ _ _ _ _ _ _ c.self.invariant c.args.name (pending_busy _ _ _ _ _ _ _ _ _ c.self.invariant c.args.worker c.args.name free pending)

pub invariant_of-result : goal.invariant_of-result
invariant_of-result g c =
    let b = c.self.inside.board in
    let name = c.args.name in
    let w = arc_value c.self.inside.work in
    let laws = g.met.W.LeafWork in
    let pending : (state_of b).status (code_of c.args.name) ≡ Pending = rw (← c.self.view_is) at c.requires.pending in
    let free : (state_of b).claim c.args.worker ≡ None = rw (← c.self.view_is) at c.requires.free in
    let busy = pending_busy _ _ _ _ _ _ _ _ _ c.self.invariant c.args.worker name free pending in
    let cells = (all_fit _ _ _ _ _ _ _ _ _ c.self.invariant (laws.empty_fits w) (laws.then_fits w) (laws.does_fits w)).cells in
    let given : inputs_list c.in_ok-captured.captured.given ≡ read (state_of b).value (inputs_of (tree_of b.leaves) name) = ap inputs_list c.in_ok-captured.ensures.given ∙ c.in_ok-captured.ensures.held in
    let long = ap length given ∙ inputs_long (tree_of b.leaves) name (state_of b).value (is_there _ _ _ _ _ _ _ _ _ c.self.invariant name busy) in
    let all = subst (AllByRecursion (g.W.LeafWork.fits w)) (sym given) (all_read (g.W.LeafWork.fits w) (state_of b).value (inputs_of (tree_of b.leaves) name) cells) in
    rw (c.in_ok-work.ensures, c.take_task-task.ensures.task)
    (from_fits c.self.inside.tallies.items code_of (g.W.LeafWork.stands_for w) (g.W.LeafWork.fits w) (state_of b) c.self.invariant.are_tallies (g.W.LeafWork.has w) name c.in_ok-captured.captured.given long all
    (λ l e. c.self.invariant.leaves_there l (omega (arith, leaf_there _ _ _ _ _ _ _ _ _ c.self.invariant name busy l e, c.self.invariant.tallies_long))))

pub invariant_of-self-2 : goal.invariant_of-self-2
invariant_of-self-2 g c =
    let b = c.self.inside.board in
    let name = c.args.name in
    let does = g.W.LeafWork.does (arc_value c.self.inside.work) in
    let pending : (state_of b).status (code_of c.args.name) ≡ Pending = rw (← c.self.view_is) at c.requires.pending in
    let free : (state_of b).claim c.args.worker ≡ None = rw (← c.self.view_is) at c.requires.free in
    let room : vec_len c.self.inside.journal + standing b.claims + 2 ≤ vec_capacity c.reserve.new.self = omega (arith, c.in_ok-reserve.ensures.ok, c.in_flight-in_flight.ensures.count) in
    let r = claim_circuit _ _ _ _ _ _ _ _ _ c.self.invariant c.args.worker name free pending c.hold.new.self c.hold.ensures.claims.0 (vec_capacity c.reserve.new.self) c.hold.ensures.leaves (c.hold.ensures.state does) c.hold.ensures.claims.1 room c.requires.worker in
    rw (c.push_reserved.ensures.items, c.push_reserved.ensures.len, c.push_reserved.ensures.capacity, c.in_ok-reserve.ensures.items, c.in_ok-reserve.ensures.len, c.take_task-task.ensures.tallies) r

pub returns-clause-ok : goal.returns-clause-ok
returns-clause-ok g c =
    let b = c.self.inside.board in
    let name = c.args.name in
    let w = arc_value c.self.inside.work in
    let does = g.W.LeafWork.does w in
    let pending : (state_of b).status (code_of c.args.name) ≡ Pending = rw (← c.self.view_is) at c.requires.pending in
    let free : (state_of b).claim c.args.worker ≡ None = rw (← c.self.view_is) at c.requires.free in
    let busy = pending_busy _ _ _ _ _ _ _ _ _ c.self.invariant c.args.worker name free pending in
    let given : inputs_list c.in_ok-captured.captured.given ≡ read (state_of b).value (inputs_of (tree_of b.leaves) name) = ap inputs_list c.in_ok-captured.ensures.given ∙ c.in_ok-captured.ensures.held in
    let long = ap length given ∙ inputs_long (tree_of b.leaves) name (state_of b).value (is_there _ _ _ _ _ _ _ _ _ c.self.invariant name busy) in
    let more = c.push_reserved.ensures.items ∙ ap (λ xs. xs ++ record { worker = c.args.worker; job = name; event = Claim } ∷ []) c.in_ok-reserve.ensures.items in
    rw (← c.self.view_is) (is_claimed (g.W.LeafWork.stands_for w) (g.W.LeafWork.fits w) does w (arc_value c.in_ok-work.work) b c.hold.new.self c.self.inside.journal.items c.push_reserved.new.self.items
    c.self.inside.tallies.items c.self.invariant.are_tallies c.args.worker name c.in_ok-captured.captured.given c.take_task-task.result c.take_task-task.new.tallies.items
    (is_own _ _ _ _ _ _ _ _ _ c.self.invariant name busy) c.in_ok-work.ensures c.take_task-task.ensures.task c.hold.ensures.leaves pending long given (c.hold.ensures.state does) more c.take_task-task.ensures.tallies)

pub invariant_of-self : goal.invariant_of-self
invariant_of-self g c =
    rw (c.in_err-reserve.ensures.items, c.in_err-reserve.ensures.len) (roomier _ _ _ _ _ _ _ _ _ c.self.invariant (vec_capacity c.reserve.new.self) c.in_err-reserve.ensures.capacity)

pub push_reserved-requires : goal.push_reserved-requires
push_reserved-requires g c = omega (arith, c.in_ok-reserve.ensures.ok, c.in_ok-reserve.ensures.len)
