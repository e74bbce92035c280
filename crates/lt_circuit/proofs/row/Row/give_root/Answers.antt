use Rattle.std.proofs.Common.{◌≡◌, ◌∙◌, ap, refl}
use Rattle.lt_net.specs.Row.{given_root, passing_net}
use Rattle.lt_circuit.specs.Segment.{SegmentView, segment_state}
use Rattle.lt_circuit.specs.Row.{no_segment, segment_at}
use Rattle.std.proofs.lemmas.List.{get_or_default}
use Rattle.lt_circuit.proofs.row.Row.give_root.Goals as goal

pub returns : goal.returns
returns c =
    let vs = c.self.inside.segments.items in
    let inside = rw (← c.self.view_is) at c.requires.segment in
    let is : c.index_mut.result.now ≡ segment_at vs c.args.s = c.index_mut.ensures.value ∙ get_or_default vs c.args.s c.index_mut.result.now no_segment inside in
    rw (← c.self.view_is) (record {
      row = (
        c.give_root.new.self,
        refl,
        c.give_root.ensures.leaves ∙ ap (λ (v : SegmentView). v.board.leaves) is,
        λ effect. c.give_root.ensures.state effect ∙ ap (λ (v : SegmentView). given_root (passing_net effect v.board.leaves v.on) (segment_state v) c.args.correction) is,
        c.give_root.ensures.claims ∙ ap (λ (v : SegmentView). v.board.claims) is,
      );
    })
