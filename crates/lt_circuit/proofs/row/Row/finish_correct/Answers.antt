use Rattle.std.proofs.Common.{◌≡◌, ◌∙◌, ap, arith, refl, set, None}
use Rattle.lt_net.specs.Line.{effect_in}
use Rattle.lt_net.specs.Net.{finished}
use Rattle.lt_net.specs.Row.{passing_net}
use Rattle.lt_circuit.specs.Segment.{SegmentView, segment_state}
use Rattle.lt_circuit.specs.Row.{no_segment, segment_at}
use Rattle.std.proofs.lemmas.List.{get_or_default}
use Rattle.lt_circuit.proofs.RowTables.{finished_row, sizes_same}
use Rattle.lt_circuit.proofs.row.Row.finish_correct.Goals as goal

pub returns-clause-sizes : goal.returns-clause-sizes
returns-clause-sizes c =
    let vs = c.self.inside.segments.items in
    let inside = rw (← c.self.view_is) at c.requires.segment in
    let is : c.index_mut.result.now ≡ segment_at vs c.args.s = c.index_mut.ensures.value ∙ get_or_default vs c.args.s c.index_mut.result.now no_segment inside in
    rw (← c.self.view_is) (sizes_same vs c.args.s c.finish_correct.new.self (c.finish_correct.ensures.leaves ∙ ap (λ (v : SegmentView). v.board.leaves) is))

pub returns-clause-state : goal.returns-clause-state
returns-clause-state c = λ does claim left job ins gave.
    let vs = c.self.inside.segments.items in
    let inside = rw (← c.self.view_is) at c.requires.segment in
    let few = c.self.invariant.few c.args.s in
    let alone = rw (← c.self.view_is) at c.requires.alone in
    let node = rw (← c.self.view_is) at c.requires.node in
    let is : c.index_mut.result.now ≡ segment_at vs c.args.s = c.index_mut.ensures.value ∙ get_or_default vs c.args.s c.index_mut.result.now no_segment inside in
    let e = c.finish_correct.ensures.state (effect_in does c.args.s) claim left job ins gave
    ∙ ap (λ (v : SegmentView). finished (passing_net (effect_in does c.args.s) v.board.leaves v.on) (segment_state v) c.args.worker claim) is in
    rw (← c.self.view_is) (finished_row vs c.self.invariant does c.args.s c.args.worker inside c.finish_correct.new.self claim (omega (arith, job, node, few)) alone e)

pub returns-clause-changed : goal.returns-clause-changed
returns-clause-changed c =
    let vs = c.self.inside.segments.items in
    let inside = rw (← c.self.view_is) at c.requires.segment in
    let is : c.index_mut.result.now ≡ segment_at vs c.args.s = c.index_mut.ensures.value ∙ get_or_default vs c.args.s c.index_mut.result.now no_segment inside in
    rw (← c.self.view_is) (c.finish_correct.new.self, refl, c.finish_correct.ensures.claims ∙ ap (λ (v : SegmentView). set v.board.claims c.args.worker None) is)
