use Rattle.std.proofs.Common.{◌≡◌, ◌+◌, ◌/◌, ◌≤◌, ◌++◌, ◌∷◌, [], Some, None, length, ap, sym, ◌∙◌, subst, arith}
use Rattle.std.specs.Arc.{arc_value}
use Rattle.std.specs.Vec.{vec_len, vec_capacity}
use Rattle.std.specs.List.{AllByRecursion}
use Rattle.lt_net.specs.declared.job.JobState.TheVariants.{Pending}
use Rattle.lt_net.specs.Line.{line_inputs, line_job}
use Rattle.lt_net.specs.Net.{read}
use Rattle.lt_net.proofs.Fitting.{all_read}
use Rattle.lt_circuit.specs.declared.entry.Event.TheVariants.{Claim}
use Rattle.lt_circuit.specs.Board.{inputs_list}
use Rattle.lt_circuit.specs.Job.{arity, tallies_left, task_from}
use Rattle.lt_circuit.specs.Row.{HasChangedClaim, row_of, sizes, standing_in}
use Rattle.lt_circuit.proofs.LineClaims.{changed_claim}
use Rattle.lt_circuit.proofs.LineSteps.{claim_line, is_in_row, is_some, line_busy, roomier_line}
use Rattle.lt_circuit.proofs.LineTables.{line_all_fit}
use Rattle.lt_circuit.proofs.LineTasks.{is_line_claimed, line_code_is, line_from_fits, line_leaf_is_there}
use Rattle.lt_circuit.proofs.Numbers.{line_long}
use Rattle.lt_circuit.proofs.line.Line.take.Goals as goal

pub capture-requires : goal.capture-requires
capture-requires g c =
    let row = c.self.inside.row in
    let pending : (row_of row).status c.args.code ≡ Pending = rw (← c.self.view_is) at c.requires.pending in
    let free : (row_of row).claim c.args.worker ≡ None = rw (← c.self.view_is) at c.requires.free in
    is_some _ _ _ _ _ _ _ _ _ c.self.invariant c.args.code (line_busy _ _ _ _ _ _ _ _ _ c.self.invariant c.args.worker c.args.code free pending)

pub hold_at-requires-clause-job : goal.hold_at-requires-clause-job
hold_at-requires-clause-job g c =
    let row = c.self.inside.row in
    let pending : (row_of row).status c.args.code ≡ Pending = rw (← c.self.view_is) at c.requires.pending in
    let free : (row_of row).claim c.args.worker ≡ None = rw (← c.self.view_is) at c.requires.free in
    is_some _ _ _ _ _ _ _ _ _ c.self.invariant c.args.code (line_busy _ _ _ _ _ _ _ _ _ c.self.invariant c.args.worker c.args.code free pending)

pub name_at-requires : goal.name_at-requires
name_at-requires g c =
    let row = c.self.inside.row in
    let pending : (row_of row).status c.args.code ≡ Pending = rw (← c.self.view_is) at c.requires.pending in
    let free : (row_of row).claim c.args.worker ≡ None = rw (← c.self.view_is) at c.requires.free in
    let inside = is_in_row _ _ _ _ _ _ _ _ _ c.self.invariant c.args.code (line_busy _ _ _ _ _ _ _ _ _ c.self.invariant c.args.worker c.args.code free pending) in
    omega (arith, inside, c.count-segments.ensures.count, c.count-segments.ensures.few)

pub take_task-task-requires-clause-leaf : goal.take_task-task-requires-clause-leaf
take_task-task-requires-clause-leaf g c =
    let row = c.self.inside.row in
    let pending : (row_of row).status c.args.code ≡ Pending = rw (← c.self.view_is) at c.requires.pending in
    let free : (row_of row).claim c.args.worker ≡ None = rw (← c.self.view_is) at c.requires.free in
    λ leaf e. line_leaf_is_there _ _ _ _ _ _ _ _ _ c.self.invariant c.args.worker c.args.code free pending leaf (sym c.name_at.ensures ∙ e)

pub take_task-task-requires-clause-inputs : goal.take_task-task-requires-clause-inputs
take_task-task-requires-clause-inputs g c =
    let row = c.self.inside.row in
    let pending : (row_of row).status c.args.code ≡ Pending = rw (← c.self.view_is) at c.requires.pending in
    let free : (row_of row).claim c.args.worker ≡ None = rw (← c.self.view_is) at c.requires.free in
    let some = is_some _ _ _ _ _ _ _ _ _ c.self.invariant c.args.code (line_busy _ _ _ _ _ _ _ _ _ c.self.invariant c.args.worker c.args.code free pending) in
    let given : inputs_list c.in_ok-captured.captured.given ≡ read (row_of row).value (line_inputs (sizes row) (line_job c.args.code)) = ap inputs_list c.in_ok-captured.ensures.given ∙ c.in_ok-captured.ensures.held in
    ap length given ∙ line_long (sizes row) c.self.invariant.small.few c.args.code some (row_of row).value ∙ ap arity (sym c.name_at.ensures)

pub invariant_of-result : goal.invariant_of-result
invariant_of-result g c =
    let row = c.self.inside.row in
    let w = arc_value c.self.inside.work in
    let laws = g.met.W.LeafWork in
    let pending : (row_of row).status c.args.code ≡ Pending = rw (← c.self.view_is) at c.requires.pending in
    let free : (row_of row).claim c.args.worker ≡ None = rw (← c.self.view_is) at c.requires.free in
    let some = is_some _ _ _ _ _ _ _ _ _ c.self.invariant c.args.code (line_busy _ _ _ _ _ _ _ _ _ c.self.invariant c.args.worker c.args.code free pending) in
    let given : inputs_list c.in_ok-captured.captured.given ≡ read (row_of row).value (line_inputs (sizes row) (line_job c.args.code)) = ap inputs_list c.in_ok-captured.ensures.given ∙ c.in_ok-captured.ensures.held in
    let long = ap length given ∙ line_long (sizes row) c.self.invariant.small.few c.args.code some (row_of row).value in
    let cells = (line_all_fit _ _ _ _ _ _ _ _ _ c.self.invariant (laws.empty_fits w) (laws.then_fits w) (laws.does_fits w)).cells in
    let all = subst (AllByRecursion (g.W.LeafWork.fits w)) (sym given) (all_read (g.W.LeafWork.fits w) (row_of row).value (line_inputs (sizes row) (line_job c.args.code)) cells) in
    rw (c.in_ok-work.ensures, c.take_task-task.ensures.task, c.name_at.ensures)
    (line_from_fits _ _ _ _ _ _ _ _ _ c.self.invariant c.args.worker c.args.code free pending c.in_ok-captured.captured.given long all)

pub invariant_of-self-2 : goal.invariant_of-self-2
invariant_of-self-2 g c =
    let row = c.self.inside.row in
    let does = g.W.LeafWork.does (arc_value c.self.inside.work) in
    let pending : (row_of row).status c.args.code ≡ Pending = rw (← c.self.view_is) at c.requires.pending in
    let free : (row_of row).claim c.args.worker ≡ None = rw (← c.self.view_is) at c.requires.free in
    let inside = is_in_row _ _ _ _ _ _ _ _ _ c.self.invariant c.args.code (line_busy _ _ _ _ _ _ _ _ _ c.self.invariant c.args.worker c.args.code free pending) in
    let k = c.hold_at.ensures.changed in
    let changed = subst (HasChangedClaim (c.args.code / 2048) c.args.worker (Some k.1) row) (sym k.2) (changed_claim row (c.args.code / 2048) c.args.worker (Some k.1) k.0 inside k.3) in
    let room : vec_len c.self.inside.journal + standing_in row + 2 ≤ vec_capacity c.reserve.new.self = omega (arith, c.in_ok-reserve.ensures.ok, c.in_flight-in_flight.ensures) in
    let r = claim_line _ _ _ _ _ _ _ _ _ c.self.invariant c.args.worker c.args.code free pending c.hold_at.new.self k.1 (vec_capacity c.reserve.new.self) c.hold_at.ensures.sizes (c.hold_at.ensures.state does) changed room in
    rw (c.push_reserved.ensures.items, c.push_reserved.ensures.len, c.push_reserved.ensures.capacity, c.in_ok-reserve.ensures.items, c.in_ok-reserve.ensures.len, c.take_task-task.ensures.tallies, c.name_at.ensures) r

pub returns-clause-ok : goal.returns-clause-ok
returns-clause-ok g c =
    let row = c.self.inside.row in
    let w = arc_value c.self.inside.work in
    let does = g.W.LeafWork.does w in
    let pending : (row_of row).status c.args.code ≡ Pending = rw (← c.self.view_is) at c.requires.pending in
    let free : (row_of row).claim c.args.worker ≡ None = rw (← c.self.view_is) at c.requires.free in
    let some = is_some _ _ _ _ _ _ _ _ _ c.self.invariant c.args.code (line_busy _ _ _ _ _ _ _ _ _ c.self.invariant c.args.worker c.args.code free pending) in
    let given : inputs_list c.in_ok-captured.captured.given ≡ read (row_of row).value (line_inputs (sizes row) (line_job c.args.code)) = ap inputs_list c.in_ok-captured.ensures.given ∙ c.in_ok-captured.ensures.held in
    let long = ap length given ∙ line_long (sizes row) c.self.invariant.small.few c.args.code some (row_of row).value in
    let more = c.push_reserved.ensures.items ∙ ap (λ xs. xs ++ record { worker = c.args.worker; job = c.args.code; event = Claim } ∷ []) c.in_ok-reserve.ensures.items in
    rw (← c.self.view_is) (is_line_claimed _ _ _ _ _ _ _ _ _ c.self.invariant c.args.worker c.args.code free pending c.in_ok-captured.captured.given long given
    w (arc_value c.in_ok-work.work) c.hold_at.new.self c.push_reserved.new.self.items c.take_task-task.result c.take_task-task.new.tallies.items (c.take_task-task.ensures.task ∙ ap (λ n. task_from n c.in_ok-captured.captured.given c.self.inside.tallies.items) c.name_at.ensures)
    c.in_ok-work.ensures c.hold_at.ensures.sizes (c.hold_at.ensures.state does) more (c.take_task-task.ensures.tallies ∙ ap (λ n. tallies_left n c.self.inside.tallies.items) c.name_at.ensures))

pub returns-clause-code : goal.returns-clause-code
returns-clause-code g c =
    let row = c.self.inside.row in
    let w = arc_value c.self.inside.work in
    let pending : (row_of row).status c.args.code ≡ Pending = rw (← c.self.view_is) at c.requires.pending in
    let free : (row_of row).claim c.args.worker ≡ None = rw (← c.self.view_is) at c.requires.free in
    let some = is_some _ _ _ _ _ _ _ _ _ c.self.invariant c.args.code (line_busy _ _ _ _ _ _ _ _ _ c.self.invariant c.args.worker c.args.code free pending) in
    let given : inputs_list c.in_ok-captured.captured.given ≡ read (row_of row).value (line_inputs (sizes row) (line_job c.args.code)) = ap inputs_list c.in_ok-captured.ensures.given ∙ c.in_ok-captured.ensures.held in
    let long = ap length given ∙ line_long (sizes row) c.self.invariant.small.few c.args.code some (row_of row).value in
    line_code_is _ _ _ _ _ _ _ _ _ c.self.invariant c.args.worker c.args.code free pending c.in_ok-captured.captured.given long given
    w (arc_value c.in_ok-work.work) c.hold_at.new.self c.push_reserved.new.self.items c.take_task-task.result c.take_task-task.new.tallies.items (c.take_task-task.ensures.task ∙ ap (λ n. task_from n c.in_ok-captured.captured.given c.self.inside.tallies.items) c.name_at.ensures)

pub invariant_of-self : goal.invariant_of-self
invariant_of-self g c =
    rw (c.in_err-reserve.ensures.items, c.in_err-reserve.ensures.len) (roomier_line _ _ _ _ _ _ _ _ _ c.self.invariant (vec_capacity c.reserve.new.self) c.in_err-reserve.ensures.capacity)

pub push_reserved-requires : goal.push_reserved-requires
push_reserved-requires g c = omega (arith, c.in_ok-reserve.ensures.ok, c.in_ok-reserve.ensures.len)
