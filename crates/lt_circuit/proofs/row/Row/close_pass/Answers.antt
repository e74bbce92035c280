use Rattle.std.proofs.Common.{◌≡◌, ◌∙◌, ap, refl, set, None}
use Rattle.lt_net.specs.Row.{pass_closed}
use Rattle.lt_circuit.specs.Segment.{SegmentView, segment_state}
use Rattle.lt_circuit.specs.Row.{no_segment, segment_at}
use Rattle.std.proofs.lemmas.List.{get_or_default}
use Rattle.lt_circuit.proofs.row.Row.close_pass.Goals as goal

pub returns : goal.returns
returns c =
    let vs = c.self.inside.segments.items in
    let inside = rw (← c.self.view_is) at c.requires.segment in
    let is : c.index_mut.result.now ≡ segment_at vs c.args.s = c.index_mut.ensures.value ∙ get_or_default vs c.args.s c.index_mut.result.now no_segment inside in
    rw (← c.self.view_is) (record {
      row = (
        c.close_pass.new.self,
        refl,
        c.close_pass.ensures.leaves ∙ ap (λ (v : SegmentView). v.board.leaves) is,
        c.close_pass.ensures.on ∙ ap (λ (v : SegmentView). v.on) is,
        λ claim e. c.close_pass.ensures.state claim e ∙ ap (λ (v : SegmentView). pass_closed (segment_state v) c.args.worker claim) is,
        c.close_pass.ensures.claims ∙ ap (λ (v : SegmentView). set v.board.claims c.args.worker None) is,
      );
    })
