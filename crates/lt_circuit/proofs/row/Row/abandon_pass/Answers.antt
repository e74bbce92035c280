use Rattle.std.proofs.Common.{◌≡◌, ◌∙◌, ap, arith, refl, set, None}
use Rattle.lt_net.specs.Net.{abandoned}
use Rattle.lt_circuit.specs.Segment.{SegmentView, segment_state}
use Rattle.lt_circuit.specs.Row.{no_segment, segment_at}
use Rattle.std.proofs.lemmas.List.{get_or_default}
use Rattle.lt_circuit.proofs.RowTables.{abandoned_row, sizes_same}
use Rattle.lt_circuit.proofs.row.Row.abandon_pass.Goals as goal

pub returns-clause-sizes : goal.returns-clause-sizes
returns-clause-sizes c =
    let vs = c.self.inside.segments.items in
    let inside = rw (← c.self.view_is) at c.requires.segment in
    let is : c.index_mut.result.now ≡ segment_at vs c.args.s = c.index_mut.ensures.value ∙ get_or_default vs c.args.s c.index_mut.result.now no_segment inside in
    rw (← c.self.view_is) (sizes_same vs c.args.s c.abandon_pass.new.self (c.abandon_pass.ensures.leaves ∙ ap (λ (v : SegmentView). v.board.leaves) is))

pub returns-clause-state : goal.returns-clause-state
returns-clause-state c = λ claim named.
    let vs = c.self.inside.segments.items in
    let inside = rw (← c.self.view_is) at c.requires.segment in
    let few = c.self.invariant.few c.args.s in
    let alone = rw (← c.self.view_is) at c.requires.alone in
    let is : c.index_mut.result.now ≡ segment_at vs c.args.s = c.index_mut.ensures.value ∙ get_or_default vs c.args.s c.index_mut.result.now no_segment inside in
    let e = c.abandon_pass.ensures.state claim named
    ∙ ap (λ (v : SegmentView). abandoned (segment_state v) c.args.worker claim) is in
    rw (← c.self.view_is) (abandoned_row vs c.self.invariant c.args.s c.args.worker inside c.abandon_pass.new.self claim (omega (arith, named)) alone e)

pub returns-clause-changed : goal.returns-clause-changed
returns-clause-changed c =
    let vs = c.self.inside.segments.items in
    let inside = rw (← c.self.view_is) at c.requires.segment in
    let is : c.index_mut.result.now ≡ segment_at vs c.args.s = c.index_mut.ensures.value ∙ get_or_default vs c.args.s c.index_mut.result.now no_segment inside in
    rw (← c.self.view_is) (c.abandon_pass.new.self, refl, c.abandon_pass.ensures.claims ∙ ap (λ (v : SegmentView). set v.board.claims c.args.worker None) is)
