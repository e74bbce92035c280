use Rattle.std.proofs.Common.{◌≡◌, subst, arith, ◌+◌, ◌-◌, length}
use Rattle.lt_net.specs.declared.job.JobName.TheVariants.{Correct}
use Rattle.lt_net.specs.Codes.{code_of}
use Rattle.lt_net.specs.Alone.{corrects_up}
use Rattle.lt_circuit.proofs.OnWay.{IsOnWay, way_start, way_next, way_few, corrects_first, later_then}
use Rattle.lt_circuit.specs.Circuit.{state}
use Rattle.lt_circuit.specs.Entry.{event_of}
use Rattle.lt_circuit.specs.Shape.{shape, shape_net}
use Rattle.std.specs.Prelude.{map}
use Rattle.lt_circuit.proofs.circuit.Circuit.run_corrects.Goals as goal

pub loop-v-preserved : goal.loop-v-preserved
loop-v-preserved g c =
    let ok = c.in_ok-run_if_pending.ensures in
    way_next (code_of (Correct c.loop-v.v)) (corrects_up (c.loop-v.v + 1) (c.args.count - (c.loop-v.v + 1))) c.loop-v.invariant (corrects_first c.args.count c.loop-v.v c.loop-v-test.true)
    ok.ran ok.free ok.shape ok.later ok.few

pub returns-in_err-run_if_pending-clause-later : goal.returns-in_err-run_if_pending-clause-later
returns-in_err-run_if_pending-clause-later g c = later_then (map event_of c.args.self.now.journal) (map event_of c.loop-v.self.journal) (map event_of c.run_if_pending.new.self.journal) c.loop-v.invariant.later c.run_if_pending.ensures.later

pub returns-in_err-run_if_pending-clause-few : goal.returns-in_err-run_if_pending-clause-few
returns-in_err-run_if_pending-clause-few g c =
    way_few (code_of (Correct c.loop-v.v)) (corrects_up (c.loop-v.v + 1) (c.args.count - (c.loop-v.v + 1))) c.loop-v.invariant (corrects_first c.args.count c.loop-v.v c.loop-v-test.true)
    (length (map event_of c.run_if_pending.new.self.journal)) c.run_if_pending.ensures.few

pub loop-v-init : goal.loop-v-init
loop-v-init g c =
    let all : c.args.count ≡ c.args.count - 0 = omega arith in
    let sh = shape g.W.LeafWork.does c.args.self.now in
    let st = state c.args.self.now in
    let es = map event_of c.args.self.now.journal in
    subst (λ k. IsOnWay shape_net sh st es (corrects_up 0 c.args.count) sh st es (corrects_up 0 k)) all (way_start shape_net sh st es (corrects_up 0 c.args.count) c.requires.free)
