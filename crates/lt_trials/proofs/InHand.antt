-- What workers have in hand of a line's jobs, event by event.
use Rattle.std.proofs.Common.{◌≡◌, ◌≢◌, ℕ, zero, suc, Option, None, sym, ap, ◌∙◌, subst, arith}
use Rattle.lt_net.specs.Alone.{IsUnclaimed}
use Rattle.lt_net.specs.Net.{Claim, update}
use Rattle.lt_net.proofs.Kept.{update_same}
use Rattle.lt_circuit.specs.Line.{LineView, line_state}
use Rattle.lt_circuit.specs.Job.{JobView}
use Rattle.lt_trials.specs.LineHands.{IsInHand}

-- an empty hand, after a claim's end
pub ended_hand : {W T : Type 0} (l : LineView W T) (f : ℕ → Option Claim) (w : ℕ) (hand : Option (JobView W T)) → hand ≡ None → (line_state l).claim ≡ update f w None → IsInHand l w hand
ended_hand l f w hand none e = subst (IsInHand l w) (sym none) (ap (λ (g : ℕ → Option Claim). g w) e ∙ update_same f w None)

-- one worker's hand empty again, where no other has a job
pub one_clear : {W T : Type 0} (a b c : LineView W T) (hand : Option (JobView W T)) → IsUnclaimed (line_state a) → ((v : ℕ) → v ≢ 0 → (line_state b).claim v ≡ (line_state a).claim v)
    → IsInHand c 0 hand → hand ≡ None → ((v : ℕ) → v ≢ 0 → (line_state c).claim v ≡ (line_state b).claim v) → IsUnclaimed (line_state c)
one_clear a b c hand free first at none second zero = subst (IsInHand c 0) none at
one_clear a b c hand free first at none second (suc v) = let ne : suc v ≢ 0 = omega arith in second (suc v) ne ∙ first (suc v) ne ∙ free (suc v)
