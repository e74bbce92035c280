use Rattle.std.proofs.Common.{◌∙◌, sym, length}
use Rattle.lt_circuit.proofs.OnWay.{later_then}
use Rattle.lt_circuit.proofs.SweepParts.{round_some, round_few_some}
use Rattle.lt_circuit.specs.Circuit.{state}
use Rattle.lt_circuit.specs.Entry.{event_of}
use Rattle.lt_circuit.specs.Shape.{shape}
use Rattle.std.specs.Prelude.{map}
use Rattle.lt_circuit.proofs.circuit.Circuit.run_round.Goals as goal

pub returns-in_err-run_if_pending-in-Some-clause-later : goal.returns-in_err-run_if_pending-in-Some-clause-later
returns-in_err-run_if_pending-in-Some-clause-later g c = later_then (map event_of c.args.self.now.journal) (map event_of c.sweep.new.self.journal) (map event_of c.run_if_pending.new.self.journal) c.sweep.ensures.later c.run_if_pending.ensures.later

pub returns-in_ok-run_if_pending-in-Some-clause-later : goal.returns-in_ok-run_if_pending-in-Some-clause-later
returns-in_ok-run_if_pending-in-Some-clause-later g c = later_then (map event_of c.args.self.now.journal) (map event_of c.sweep.new.self.journal) (map event_of c.run_if_pending.new.self.journal) c.sweep.ensures.later c.run_if_pending.ensures.later

pub returns-in_err-run_if_pending-in-Some-clause-few : goal.returns-in_err-run_if_pending-in-Some-clause-few
returns-in_err-run_if_pending-in-Some-clause-few g c =
    round_few_some (shape g.W.LeafWork.does c.args.self.now) (shape g.W.LeafWork.does c.sweep.new.self) (state c.args.self.now) (state c.sweep.new.self) c.args.leaves c.in_ok-sweep.ensures.shape c.in_ok-sweep.ensures.ran c.in-Some.leaf (length (map event_of c.args.self.now.journal)) (length (map event_of c.sweep.new.self.journal)) (length (map event_of c.run_if_pending.new.self.journal))
    (sym c.in-Some.is ∙ c.lowest_pending_leaf.ensures.lowest) c.in_ok-sweep.ensures.few c.run_if_pending.ensures.few

pub returns-in_ok-run_if_pending-in-Some-clause-few : goal.returns-in_ok-run_if_pending-in-Some-clause-few
returns-in_ok-run_if_pending-in-Some-clause-few g c =
    round_few_some (shape g.W.LeafWork.does c.args.self.now) (shape g.W.LeafWork.does c.sweep.new.self) (state c.args.self.now) (state c.sweep.new.self) c.args.leaves c.in_ok-sweep.ensures.shape c.in_ok-sweep.ensures.ran c.in-Some.leaf (length (map event_of c.args.self.now.journal)) (length (map event_of c.sweep.new.self.journal)) (length (map event_of c.run_if_pending.new.self.journal))
    (sym c.in-Some.is ∙ c.lowest_pending_leaf.ensures.lowest) c.in_ok-sweep.ensures.few c.run_if_pending.ensures.few

pub returns-in_ok-run_if_pending-in-Some-clause-ran : goal.returns-in_ok-run_if_pending-in-Some-clause-ran
returns-in_ok-run_if_pending-in-Some-clause-ran g c =
    round_some (shape g.W.LeafWork.does c.args.self.now) (shape g.W.LeafWork.does c.sweep.new.self) (state c.args.self.now) (state c.sweep.new.self) c.args.leaves c.in_ok-sweep.ensures.shape c.in_ok-sweep.ensures.ran
    (state c.run_if_pending.new.self) c.in-Some.leaf (sym c.in-Some.is ∙ c.lowest_pending_leaf.ensures.lowest) c.in_ok-run_if_pending-in-Some.ensures.ran
