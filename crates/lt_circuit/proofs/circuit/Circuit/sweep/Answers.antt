use Rattle.std.proofs.Common.{length}
use Rattle.lt_circuit.proofs.OnWay.{later_then}
use Rattle.lt_circuit.proofs.SweepParts.{merges_few, sweep_ran, sweep_few}
use Rattle.lt_circuit.specs.Circuit.{state}
use Rattle.lt_circuit.specs.Entry.{event_of}
use Rattle.lt_circuit.specs.Shape.{shape}
use Rattle.std.specs.Prelude.{map}
use Rattle.lt_circuit.proofs.circuit.Circuit.sweep.Goals as goal

pub returns-in_err-run_merges-clause-few : goal.returns-in_err-run_merges-clause-few
returns-in_err-run_merges-clause-few g c =
    merges_few (shape g.W.LeafWork.does c.args.self.now) (state c.args.self.now) c.args.leaves c.nodes_over-count.result c.nodes_over-count.ensures
    (length (map event_of c.args.self.now.journal)) (length (map event_of c.run_merges.new.self.journal)) c.run_merges.ensures.few

pub returns-in_err-run_corrects-clause-few : goal.returns-in_err-run_corrects-clause-few
returns-in_err-run_corrects-clause-few g c =
    sweep_few (shape g.W.LeafWork.does c.args.self.now) (state c.args.self.now) c.args.leaves c.nodes_over-count.result c.nodes_over-count.ensures
    (shape g.W.LeafWork.does c.run_merges.new.self) (state c.run_merges.new.self) c.in_ok-run_merges.ensures.shape c.in_ok-run_merges.ensures.ran
    (length (map event_of c.args.self.now.journal)) (length (map event_of c.run_merges.new.self.journal)) (length (map event_of c.run_corrects.new.self.journal)) c.run_merges.ensures.few c.run_corrects.ensures.few

pub returns-clause-ran : goal.returns-clause-ran
returns-clause-ran g c =
    sweep_ran (shape g.W.LeafWork.does c.args.self.now) (state c.args.self.now) c.args.leaves c.nodes_over-count.result c.nodes_over-count.ensures
    (shape g.W.LeafWork.does c.run_merges.new.self) (state c.run_merges.new.self) c.in_ok-run_merges.ensures.shape c.in_ok-run_merges.ensures.ran
    (state c.run_corrects.new.self) c.in_ok-run_corrects.ensures.ran

pub returns-clause-few : goal.returns-clause-few
returns-clause-few g c =
    sweep_few (shape g.W.LeafWork.does c.args.self.now) (state c.args.self.now) c.args.leaves c.nodes_over-count.result c.nodes_over-count.ensures
    (shape g.W.LeafWork.does c.run_merges.new.self) (state c.run_merges.new.self) c.in_ok-run_merges.ensures.shape c.in_ok-run_merges.ensures.ran
    (length (map event_of c.args.self.now.journal)) (length (map event_of c.run_merges.new.self.journal)) (length (map event_of c.run_corrects.new.self.journal)) c.run_merges.ensures.few c.run_corrects.ensures.few

pub returns-in_err-run_corrects-clause-later : goal.returns-in_err-run_corrects-clause-later
returns-in_err-run_corrects-clause-later g c = later_then (map event_of c.args.self.now.journal) (map event_of c.run_merges.new.self.journal) (map event_of c.run_corrects.new.self.journal) c.run_merges.ensures.later c.run_corrects.ensures.later

pub returns-clause-later : goal.returns-clause-later
returns-clause-later g c = later_then (map event_of c.args.self.now.journal) (map event_of c.run_merges.new.self.journal) (map event_of c.run_corrects.new.self.journal) c.run_merges.ensures.later c.run_corrects.ensures.later
