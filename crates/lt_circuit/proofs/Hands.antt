-- What workers have in hand, event by event.
use Rattle.std.proofs.Common.{◌≡◌, ◌≢◌, ℕ, zero, suc, Option, None, sym, ap, ◌∙◌, subst, arith}
use Rattle.lt_net.specs.Net.{Claim, update}
use Rattle.lt_net.proofs.Kept.{update_same}
use Rattle.lt_net.specs.Alone.{IsUnclaimed}
use Rattle.lt_circuit.specs.Circuit.{CircuitView, state}
use Rattle.lt_circuit.specs.Job.{JobView}
use Rattle.lt_circuit.specs.Hands.{IsInHand, AreInHand}

-- an empty hand, after a claim's end
pub ended_hand : {W T : Type 0} (c : CircuitView W T) (f : ℕ → Option Claim) (w : ℕ) (hand : Option (JobView W T)) → hand ≡ None → (state c).claim ≡ update f w None → IsInHand c w hand
ended_hand c f w hand none e = subst (IsInHand c w) (sym none) (ap (λ (g : ℕ → Option Claim). g w) e ∙ update_same f w None)

-- both hands empty, one after the other
pub all_clear : {W T : Type 0} (a b c : CircuitView W T) (first second hand0 hand1 : Option (JobView W T)) → AreInHand a first second
    → IsInHand b 0 hand0 → hand0 ≡ None → ((v : ℕ) → v ≢ 0 → (state b).claim v ≡ (state a).claim v)
    → IsInHand c 1 hand1 → hand1 ≡ None → ((v : ℕ) → v ≢ 1 → (state c).claim v ≡ (state b).claim v) → IsUnclaimed (state c)
all_clear a b c first second hand0 hand1 h at0 e0 same0 at1 e1 same1 zero =
    let ne : 0 ≢ 1 = omega arith in same1 0 ne ∙ subst (IsInHand b 0) e0 at0
all_clear a b c first second hand0 hand1 h at0 e0 same0 at1 e1 same1 (suc zero) = subst (IsInHand c 1) e1 at1
all_clear a b c first second hand0 hand1 h at0 e0 same0 at1 e1 same1 (suc (suc v)) =
    let ne0 : suc (suc v) ≢ 0 = omega arith in
    let ne1 : suc (suc v) ≢ 1 = omega arith in
    same1 (suc (suc v)) ne1 ∙ same0 (suc (suc v)) ne0 ∙ h.others (suc (suc v)) (omega arith)
