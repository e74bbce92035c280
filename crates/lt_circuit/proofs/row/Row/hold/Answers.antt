use Rattle.std.proofs.Common.{◌≡◌, ◌∙◌, ap, sym, arith, refl, set, Some}
use Rattle.lt_net.specs.Codes.{code_of}
use Rattle.lt_net.specs.Line.{effect_in}
use Rattle.lt_net.specs.Net.{claimed, read}
use Rattle.lt_net.specs.Tree.{circuit_net, tree_of}
use Rattle.lt_circuit.specs.Board.{state_of}
use Rattle.lt_net.specs.Row.{passing_net}
use Rattle.lt_circuit.specs.Segment.{SegmentView, segment_state}
use Rattle.lt_circuit.specs.Row.{no_segment, segment_at}
use Rattle.std.proofs.lemmas.List.{get_or_default}
use Rattle.lt_circuit.proofs.RowTables.{claimed_row, sizes_same}
use Rattle.lt_circuit.proofs.row.Row.hold.Goals as goal

pub returns-clause-sizes : goal.returns-clause-sizes
returns-clause-sizes c =
    let vs = c.self.inside.segments.items in
    let inside = rw (← c.self.view_is) at c.requires.segment in
    let is : c.index_mut.result.now ≡ segment_at vs c.args.s = c.index_mut.ensures.value ∙ get_or_default vs c.args.s c.index_mut.result.now no_segment inside in
    rw (← c.self.view_is) (sizes_same vs c.args.s c.hold.new.self (c.hold.ensures.leaves ∙ ap (λ (v : SegmentView). v.board.leaves) is))

pub returns-clause-state : goal.returns-clause-state
returns-clause-state c = λ does.
    let vs = c.self.inside.segments.items in
    let inside = rw (← c.self.view_is) at c.requires.segment in
    let few = c.self.invariant.few c.args.s in
    let free = rw (← c.self.view_is) at c.requires.free in
    let job = rw (← c.self.view_is) at c.requires.job in
    let is : c.index_mut.result.now ≡ segment_at vs c.args.s = c.index_mut.ensures.value ∙ get_or_default vs c.args.s c.index_mut.result.now no_segment inside in
    let e = c.hold.ensures.state (effect_in does c.args.s)
    ∙ ap (λ (v : SegmentView). claimed (passing_net (effect_in does c.args.s) v.board.leaves v.on) (segment_state v) c.args.worker (code_of c.args.job)) is in
    rw (← c.self.view_is) (claimed_row vs c.self.invariant does c.args.s c.args.worker inside c.hold.new.self (code_of c.args.job) (omega (arith, job, few)) free e)

pub hold-requires-clause-inputs : goal.hold-requires-clause-inputs
hold-requires-clause-inputs c = λ effect.
    let vs = c.self.inside.segments.items in
    let inside = rw (← c.self.view_is) at c.requires.segment in
    let is : c.index_mut.result.now ≡ segment_at vs c.args.s = c.index_mut.ensures.value ∙ get_or_default vs c.args.s c.index_mut.result.now no_segment inside in
    let stood = rw (← c.self.view_is) at (c.requires.inputs effect) in
    stood ∙ ap (λ (v : SegmentView). read (state_of v.board).value ((circuit_net effect (tree_of v.board.leaves)).inputs (code_of c.args.job))) (sym is)

pub returns-clause-changed : goal.returns-clause-changed
returns-clause-changed c =
    let vs = c.self.inside.segments.items in
    let inside = rw (← c.self.view_is) at c.requires.segment in
    let is : c.index_mut.result.now ≡ segment_at vs c.args.s = c.index_mut.ensures.value ∙ get_or_default vs c.args.s c.index_mut.result.now no_segment inside in
    let k = c.hold.ensures.claims in
    rw (← c.self.view_is) (c.hold.new.self, k.0, refl, k.1 ∙ ap (λ (v : SegmentView). set v.board.claims c.args.worker (Some k.0)) is)
