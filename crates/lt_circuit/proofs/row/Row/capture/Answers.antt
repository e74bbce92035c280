use Rattle.std.proofs.Common.{◌≡◌, ◌∙◌, ◌/◌, ◌%◌, ◌<◌, sym, length}
use Rattle.std.proofs.lemmas.List.{get_or_default}
use Rattle.std.proofs.lemmas.Result.{IfOk-weaker}
use Rattle.lt_net.specs.Net.{read}
use Rattle.lt_net.specs.Tree.{inputs_of, tree_of}
use Rattle.lt_net.proofs.Shape.{eq_false}
use Rattle.lt_circuit.specs.Board.{state_of}
use Rattle.lt_circuit.specs.Row.{no_segment, segment_at}
use Rattle.lt_circuit.proofs.RowReads.{read_inside, tree_read}
use Rattle.lt_circuit.proofs.row.Row.capture.Goals as goal

pub returns-clause-held : goal.returns-clause-held
returns-clause-held c =
    let vs = c.self.inside.segments.items in
    let s = c.args.code / 2048 in
    let inside : s < length vs = read_inside vs c.args.code (rw (← c.self.view_is) at c.requires) in
    let is : c.index-segment.result.now ≡ segment_at vs s = c.index-segment.ensures ∙ get_or_default vs s c.index-segment.result.now no_segment inside in
    let all = (λ i. read (state_of (is i).board).value (inputs_of (tree_of (is i).board.leaves) (c.of.ensures.name i))) ∙ sym (tree_read vs c.self.invariant c.args.code (eq_false (c.args.code % 2048) 2047 c.if-place-eq-PASS.false)) in
    rw (← c.self.view_is) (IfOk-weaker c.capture.result _ _ (λ captured e. e ∙ all) c.capture.ensures.held)
