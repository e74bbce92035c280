use Rattle.std.proofs.Common.{◌≡◌, ◌∙◌, ◌+◌, ◌*◌, ◌-◌, [], ◌∷◌, ap, sym, subst, length, arith}
use Rattle.lt_net.specs.Alone.{corrects_up, run_all}
use Rattle.lt_net.specs.LineAlone.{in_segment}
use Rattle.lt_circuit.proofs.OnWay.{IsOnWay, corrects_first, later_then, way_more, way_start, way_within}
use Rattle.std.specs.Prelude.{map}
use Rattle.lt_circuit.specs.Line.{line_event, line_state}
use Rattle.lt_circuit.specs.LineShape.{line_shape, line_shape_net}
use Rattle.lt_circuit.proofs.line.Line.run_corrects.Goals as goal

pub loop-v-preserved : goal.loop-v-preserved
loop-v-preserved g c =
    let rest = in_segment c.args.s (corrects_up (c.loop-v.v + 1) (c.args.count - (c.loop-v.v + 1))) in
    let code = 2048 * c.args.s + c.code.result in
    let split = ap (in_segment c.args.s) (corrects_first c.args.count c.loop-v.v c.loop-v-test.true) ∙ ap (λ k. (2048 * c.args.s + k) ∷ rest) (sym c.code.ensures) in
    let ok = c.in_ok-run_if_pending.ensures in
    way_more (code ∷ []) rest c.loop-v.invariant split ok.ran ok.free ok.shape ok.later ok.few

pub returns-in_err-run_if_pending-clause-later : goal.returns-in_err-run_if_pending-clause-later
returns-in_err-run_if_pending-clause-later g c = later_then (map line_event c.args.self.now.journal) (map line_event c.loop-v.self.journal) (map line_event c.run_if_pending.new.self.journal) c.loop-v.invariant.later c.run_if_pending.ensures.later

pub returns-in_err-run_if_pending-clause-few : goal.returns-in_err-run_if_pending-clause-few
returns-in_err-run_if_pending-clause-few g c =
    let rest = in_segment c.args.s (corrects_up (c.loop-v.v + 1) (c.args.count - (c.loop-v.v + 1))) in
    let code = 2048 * c.args.s + c.code.result in
    let split = ap (in_segment c.args.s) (corrects_first c.args.count c.loop-v.v c.loop-v-test.true) ∙ ap (λ k. (2048 * c.args.s + k) ∷ rest) (sym c.code.ensures) in
    way_within (code ∷ []) rest c.loop-v.invariant split (length (map line_event c.run_if_pending.new.self.journal)) c.run_if_pending.ensures.few

pub loop-v-init : goal.loop-v-init
loop-v-init g c =
    let all : c.args.count ≡ c.args.count - 0 = omega arith in
    let sh = line_shape g.W.LeafWork.does c.args.self.now in
    let st = line_state c.args.self.now in
    let es = map line_event c.args.self.now.journal in
    let jobs = in_segment c.args.s (corrects_up 0 c.args.count) in
    subst (λ k. IsOnWay line_shape_net sh st es jobs sh st es (in_segment c.args.s (corrects_up 0 k))) all (way_start line_shape_net sh st es jobs c.requires.free)

pub returns-clause-ran : goal.returns-clause-ran
returns-clause-ran g c =
    let none : c.args.count - c.loop-v.v ≡ 0 = omega (arith, c.loop-v-test.false) in
    let h = c.loop-v.invariant in
    ap (λ k. run_all (line_shape_net (line_shape g.W.LeafWork.does c.args.self.now)) (line_state c.loop-v.self) (in_segment c.args.s (corrects_up c.loop-v.v k))) (sym none) ∙ h.ran

pub returns-clause-few : goal.returns-clause-few
returns-clause-few g c = omega (arith, c.loop-v.invariant.few)
