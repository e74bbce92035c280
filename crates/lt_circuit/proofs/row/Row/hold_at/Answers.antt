use Rattle.std.proofs.Common.{◌≡◌, ◌∙◌, ◌+◌, ◌*◌, ◌/◌, ◌%◌, true, ap, sym, subst, arith}
use Rattle.std.specs.Prelude.{◌==◌}
use Rattle.lt_net.specs.Codes.{code_of, job_of, IsOfTree}
use Rattle.lt_net.specs.Line.{line_net}
use Rattle.lt_net.specs.Net.{claimed, read}
use Rattle.lt_net.specs.Tree.{inputs_of, tree_of}
use Rattle.lt_net.proofs.Codes.{is_of_tree, job_of-code}
use Rattle.lt_net.proofs.Inside.{job_inside}
use Rattle.lt_net.proofs.Shape.{eq_false, eq_true}
use Rattle.lt_circuit.specs.Board.{state_of}
use Rattle.lt_circuit.specs.Row.{IsRow, row_of, segment_at, sizes}
use Rattle.lt_circuit.proofs.RowReads.{pass_read, read_inside, tree_read, tree_some}
use Rattle.lt_circuit.proofs.row.Row.hold_at.Goals as goal

pub hold_pass-requires-clause-segment : goal.hold_pass-requires-clause-segment
hold_pass-requires-clause-segment c = read_inside c.args.self.now c.args.code c.requires.job

pub hold_pass-requires-clause-inputs : goal.hold_pass-requires-clause-inputs
hold_pass-requires-clause-inputs c =
    let row : IsRow c.args.self.now = subst IsRow c.self.view_is c.self.invariant in
    let here : (c.args.code % 2048 == 2047) ≡ true = ap (λ k. k == 2047) c.if-place-eq-PASS.true ∙ eq_true 2047 in
    c.requires.inputs ∙ pass_read c.args.self.now row c.args.code here

pub returns-then-place-eq-PASS-clause-state : goal.returns-then-place-eq-PASS-clause-state
returns-then-place-eq-PASS-clause-state c = λ does.
    let e = c.if-place-eq-PASS.true in
    let whole : 2048 * (c.args.code / 2048) + 2047 ≡ c.args.code = omega (arith, e) in
    c.hold_pass.ensures.state does ∙ ap (claimed (line_net does (sizes c.args.self.now)) (row_of c.args.self.now) c.args.worker) whole

pub hold-requires-clause-segment : goal.hold-requires-clause-segment
hold-requires-clause-segment c = read_inside c.args.self.now c.args.code c.requires.job

pub hold-requires-clause-job : goal.hold-requires-clause-job
hold-requires-clause-job c =
    let other = eq_false (c.args.code % 2048) 2047 c.if-place-eq-PASS.false in
    let leaves = (segment_at c.args.self.now (c.args.code / 2048)).board.leaves in
    let inside = job_inside leaves (job_of (c.args.code % 2048)) (tree_some c.args.self.now c.args.code other c.requires.job) in
    let name = ap code_of c.of.ensures.name in
    omega (arith, inside, name)

pub hold-requires-clause-inputs : goal.hold-requires-clause-inputs
hold-requires-clause-inputs c = λ effect.
    let row : IsRow c.args.self.now = subst IsRow c.self.view_is c.self.invariant in
    let other = eq_false (c.args.code % 2048) 2047 c.if-place-eq-PASS.false in
    let board = (segment_at c.args.self.now (c.args.code / 2048)).board in
    c.requires.inputs ∙ tree_read c.args.self.now row c.args.code other
    ∙ ap (λ n. read (state_of board).value (inputs_of (tree_of board.leaves) n)) (sym c.of.ensures.name ∙ sym (job_of-code c.of.result (subst IsOfTree (sym c.of.ensures.name) (is_of_tree (c.args.code % 2048)))))

pub hold-requires-clause-prior : goal.hold-requires-clause-prior
hold-requires-clause-prior c =
    c.requires.prior ∙ ap (λ j. (state_of (segment_at c.args.self.now (c.args.code / 2048)).board).done j) (sym c.of.ensures.code)

pub returns-clause-state : goal.returns-clause-state
returns-clause-state c = λ does.
    let code = c.of.ensures.code in
    let whole : 2048 * (c.args.code / 2048) + code_of c.of.result ≡ c.args.code = omega (arith, code) in
    c.hold.ensures.state does ∙ ap (claimed (line_net does (sizes c.args.self.now)) (row_of c.args.self.now) c.args.worker) whole
