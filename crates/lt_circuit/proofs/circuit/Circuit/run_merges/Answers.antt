use Rattle.std.proofs.Common.{◌≡◌, ◌+◌, ◌-◌, length, arith}
use Rattle.lt_net.specs.declared.job.JobName.TheVariants.{Merge}
use Rattle.lt_net.specs.Codes.{code_of}
use Rattle.lt_net.specs.Alone.{merges_down}
use Rattle.lt_circuit.proofs.OnWay.{way_next, way_few, merges_first, later_then}
use Rattle.lt_circuit.specs.Entry.{event_of}
use Rattle.std.specs.Prelude.{map}
use Rattle.lt_circuit.proofs.circuit.Circuit.run_merges.Goals as goal

pub loop-v-preserved : goal.loop-v-preserved
loop-v-preserved g c =
    let back : c.loop-v.v ≡ c.loop-v.v - 1 + 1 = omega (arith, c.loop-v-test.true) in
    let ok = c.in_ok-run_if_pending.ensures in
    way_next (code_of (Merge (c.loop-v.v - 1))) (merges_down (c.loop-v.v - 1)) c.loop-v.invariant (merges_first c.loop-v.v (c.loop-v.v - 1) back)
    ok.ran ok.free ok.shape ok.later ok.few

pub returns-in_err-run_if_pending-clause-later : goal.returns-in_err-run_if_pending-clause-later
returns-in_err-run_if_pending-clause-later g c = later_then (map event_of c.args.self.now.journal) (map event_of c.loop-v.self.journal) (map event_of c.run_if_pending.new.self.journal) c.loop-v.invariant.later c.run_if_pending.ensures.later

pub returns-in_err-run_if_pending-clause-few : goal.returns-in_err-run_if_pending-clause-few
returns-in_err-run_if_pending-clause-few g c =
    let back : c.loop-v.v ≡ c.loop-v.v - 1 + 1 = omega (arith, c.loop-v-test.true) in
    way_few (code_of (Merge (c.loop-v.v - 1))) (merges_down (c.loop-v.v - 1)) c.loop-v.invariant (merges_first c.loop-v.v (c.loop-v.v - 1) back)
    (length (map event_of c.run_if_pending.new.self.journal)) c.run_if_pending.ensures.few
