use Rattle.std.proofs.Common.{◌≡◌, ◌∙◌, suc, ◌+◌, [], ap, subst, length, arith}
use Rattle.std.proofs.lemmas.List.{length-map}
use Rattle.lt_net.specs.Alone.{run_all}
use Rattle.lt_net.specs.LineAlone.{line_jobs}
use Rattle.lt_circuit.proofs.LineWay.{is_settled, segment_few, segment_next, within_bound}
use Rattle.lt_circuit.proofs.OnWay.{IsOnWay, later_then, way_start}
use Rattle.lt_circuit.specs.LineShape.{LineShape}
use Rattle.lt_circuit.specs.Row.{sizes}
use Rattle.std.specs.Prelude.{map}
use Rattle.lt_circuit.specs.Line.{line_event, line_state}
use Rattle.lt_circuit.specs.LineShape.{line_shape, line_shape_net}
use Rattle.lt_circuit.proofs.line.Line.settle_alone.Goals as goal

pub loop-s-init : goal.loop-s-init
loop-s-init g c = record {
  way = way_start line_shape_net (line_shape g.W.LeafWork.does c.args.self.now) (line_state c.args.self.now) (map line_event c.args.self.now.journal) [] c.requires.free;
  within = omega arith;
}

pub leaf_count-leaves-requires : goal.leaf_count-leaves-requires
leaf_count-leaves-requires g c =
    let same = ap (λ (x : LineShape _). length x.sizes) c.loop-s.invariant.way.shape in
    omega (arith, same, c.loop-s-test.true, c.segment_count-segments.ensures.value)

pub loop-s-preserved : goal.loop-s-preserved
loop-s-preserved g c =
    let sh = line_shape g.W.LeafWork.does c.args.self.now in
    let st = line_state c.args.self.now in
    let es = map line_event c.args.self.now.journal in
    let ok = c.in_ok-run_segment.ensures in
    let up : suc c.loop-s.s ≡ c.loop-s.s + 1 = omega arith in
    let next = segment_next c.loop-s.s c.leaf_count-leaves.result c.loop-s.invariant.way c.leaf_count-leaves.ensures.value ok.ran ok.free ok.shape ok.later ok.few in
    record {
      way = subst (λ k. IsOnWay line_shape_net sh st es (line_jobs (line_shape_net sh) (sizes c.args.self.now.row) k st)
          (line_shape g.W.LeafWork.does c.run_segment.new.self) (line_state c.run_segment.new.self) (map line_event c.run_segment.new.self.journal) []) up next;
      within = omega (arith, c.loop-s-test.true);
    }

pub returns-in_err-run_segment-clause-few : goal.returns-in_err-run_segment-clause-few
returns-in_err-run_segment-clause-few g c =
    let sh = line_shape g.W.LeafWork.does c.args.self.now in
    let st = line_state c.args.self.now in
    let es = map line_event c.args.self.now.journal in
    let here = length-map c.run_segment.new.self.journal line_event in
    let there = length-map c.args.self.now.journal line_event in
    let count = c.segment_count-segments.ensures in
    let few = within_bound sh count.sizes es st count.known c.requires.free (suc c.loop-s.s) (length (sizes c.args.self.now.row)) (length es) (length (map line_event c.run_segment.new.self.journal))
    (omega (arith, c.loop-s-test.true, count.value))
    (segment_few c.loop-s.s c.leaf_count-leaves.result c.loop-s.invariant.way c.leaf_count-leaves.ensures.value (length (map line_event c.run_segment.new.self.journal)) c.run_segment.ensures.few) in
    omega (arith, here, there, few)

pub returns-in_err-run_segment-clause-later : goal.returns-in_err-run_segment-clause-later
returns-in_err-run_segment-clause-later g c = later_then (map line_event c.args.self.now.journal) (map line_event c.loop-s.self.journal) (map line_event c.run_segment.new.self.journal) c.loop-s.invariant.way.later c.run_segment.ensures.later

pub returns-in_err-run_segment-clause-work : goal.returns-in_err-run_segment-clause-work
returns-in_err-run_segment-clause-work g c = ap (λ (x : LineShape _). x.work) (c.run_segment.ensures.shape ∙ c.loop-s.invariant.way.shape)

pub returns-in_err-run_segment-clause-sizes : goal.returns-in_err-run_segment-clause-sizes
returns-in_err-run_segment-clause-sizes g c = ap (λ (x : LineShape _). x.sizes) (c.run_segment.ensures.shape ∙ c.loop-s.invariant.way.shape)

pub returns-clause-ran : goal.returns-clause-ran
returns-clause-ran g c =
    let sh = line_shape g.W.LeafWork.does c.args.self.now in
    let st = line_state c.args.self.now in
    let es = map line_event c.args.self.now.journal in
    let count : c.loop-s.s ≡ length (sizes c.args.self.now.row) = omega (arith, c.loop-s-test.false, c.loop-s.invariant.within, c.segment_count-segments.ensures.value) in
    subst (λ k. line_state c.loop-s.self ≡ run_all (line_shape_net sh) st (line_jobs (line_shape_net sh) (sizes c.args.self.now.row) k st)) count c.loop-s.invariant.way.ran

pub returns-clause-settled : goal.returns-clause-settled
returns-clause-settled g c =
    let sh = line_shape g.W.LeafWork.does c.args.self.now in
    let st = line_state c.args.self.now in
    let es = map line_event c.args.self.now.journal in
    let all = c.segment_count-segments.ensures in
    let count : c.loop-s.s ≡ length (sizes c.args.self.now.row) = omega (arith, c.loop-s-test.false, c.loop-s.invariant.within, all.value) in
    is_settled sh all.sizes es st all.known c.requires.free (line_state c.loop-s.self)
    (subst (λ k. line_state c.loop-s.self ≡ run_all (line_shape_net sh) st (line_jobs (line_shape_net sh) (sizes c.args.self.now.row) k st)) count c.loop-s.invariant.way.ran)

pub returns-clause-few : goal.returns-clause-few
returns-clause-few g c =
    let sh = line_shape g.W.LeafWork.does c.args.self.now in
    let st = line_state c.args.self.now in
    let es = map line_event c.args.self.now.journal in
    let here = length-map c.loop-s.self.journal line_event in
    let there = length-map c.args.self.now.journal line_event in
    let all = c.segment_count-segments.ensures in
    let few = within_bound sh all.sizes es st all.known c.requires.free c.loop-s.s (length (sizes c.args.self.now.row)) (length es) (length (map line_event c.loop-s.self.journal))
    (omega (arith, c.loop-s.invariant.within, all.value)) (omega (arith, c.loop-s.invariant.way.few)) in
    omega (arith, here, there, few)

pub returns-clause-work : goal.returns-clause-work
returns-clause-work g c = ap (λ (x : LineShape _). x.work) c.loop-s.invariant.way.shape

pub returns-clause-sizes : goal.returns-clause-sizes
returns-clause-sizes g c = ap (λ (x : LineShape _). x.sizes) c.loop-s.invariant.way.shape
