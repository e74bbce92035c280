use Rattle.std.proofs.Common.{◌≡◌, ℕ, Option, None, Some, sym, ◌∙◌, arith}
use Rattle.lt_circuit.specs.Circuit.{CircuitView, state}
use Rattle.lt_circuit.specs.Hands.{IsInHand}
use Rattle.lt_circuit.specs.Job.{JobView}
use Rattle.lt_circuit.proofs.Hands.{all_clear}
use Rattle.lt_run_trials.proofs.floor.Floor.clear.Goals as goal

pub returns-clause-free : goal.returns-clause-free
returns-clause-free g c =
    all_clear c.self.inside.circuit c.end.new.circuit c.end-2.new.circuit c.self.inside.first c.self.inside.second c.end.new.hand c.end-2.new.hand c.self.invariant
    c.end.ensures.hand c.end.ensures.empty c.end.ensures.others c.end-2.ensures.hand c.end-2.ensures.empty c.end-2.ensures.others

-- a worker keeps what it has in hand where its claim stands
keeps_hand : {W T : Type 0} (a b : CircuitView W T) (w : ℕ) (hand : Option (JobView W T)) → b.work ≡ a.work → (state b).claim w ≡ (state a).claim w → IsInHand a w hand → IsInHand b w hand
keeps_hand a b w None work same is = same ∙ is
keeps_hand a b w (Some job) work same is = (is.0 ∙ sym work, same ∙ is.1, is.2)

pub end-requires-2-clause-hand : goal.end-requires-2-clause-hand
end-requires-2-clause-hand g c =
    keeps_hand c.self.inside.circuit c.end.new.circuit 1 c.self.inside.second c.end.ensures.work (c.end.ensures.others 1 (omega arith)) c.self.invariant.of_second
