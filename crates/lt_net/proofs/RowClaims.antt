-- The claims of a row of segments: a worker's is in one of them at most.
use Rattle.std.proofs.Common.{◌≡◌, ℕ, zero, suc, ◌<◌, ◌≢◌, inl, inr, Option, Some, None, refl, ap, ◌∙◌, arith}
use Rattle.std.proofs.lemmas.Bool.Decides.{eqb_tells}
use Rattle.lt_net.specs.Net.{State, Claim}
use Rattle.lt_net.specs.Row.{lifted, claim_or, row_claim}

module _ (parts : ℕ → State) (w : ℕ) where
  pub row_claim_none : (count : ℕ) → ((r : ℕ) → r < count → (parts r).claim w ≡ None) → row_claim count parts w ≡ None
  row_claim_none zero h = refl
  row_claim_none (suc s) h =
      ap (λ o. claim_or s o (row_claim s parts w)) (h s (omega arith)) ∙ row_claim_none s (λ r lt. h r (omega arith))

  none_of : (s : ℕ) (o other : Option Claim) → claim_or s o other ≡ None → (o ≡ None) × (other ≡ None)
  none_of s None other e = (refl, e)
  none_of s (Some c) other e = cc

  -- a worker without a claim has none in any segment
  pub row_claim_free : (count : ℕ) → row_claim count parts w ≡ None → (r : ℕ) → r < count → (parts r).claim w ≡ None
  row_claim_free zero e r lt = absurd (omega arith)
  row_claim_free (suc s) e r lt =
      let h = none_of s ((parts s).claim w) (row_claim s parts w) e in
      elim (eqb_tells r s) [
        | inl g ↦ ap (λ n. (parts n).claim w) g.1 ∙ h.0
        | inr g ↦ row_claim_free s h.1 r (omega (arith, lt, g.1))
      ]

  -- a worker with a claim in one segment alone
  pub row_claim_one : (count s : ℕ) (c : Claim) → s < count → (parts s).claim w ≡ Some c → ((r : ℕ) → r < count → r ≢ s → (parts r).claim w ≡ None) → row_claim count parts w ≡ Some (lifted s c)
  row_claim_one zero s c lt e h = absurd (omega arith)
  row_claim_one (suc n) s c lt e h = elim (eqb_tells n s) [
    | inl g ↦
        let here : (parts n).claim w ≡ Some c = ap (λ m. (parts m).claim w) g.1 ∙ e in
        ap (λ o. claim_or n o (row_claim n parts w)) here ∙ ap (λ m. Some (lifted m c)) g.1
    | inr g ↦
        ap (λ o. claim_or n o (row_claim n parts w)) (h n (omega arith) g.1)
        ∙ row_claim_one n s c (omega (arith, lt, g.1)) e (λ r below ne. h r (omega (arith, below)) ne)
  ]

pub row_claim_same : (parts others : ℕ → State) (v count : ℕ) → ((r : ℕ) → r < count → (parts r).claim v ≡ (others r).claim v) → row_claim count parts v ≡ row_claim count others v
row_claim_same parts others v zero h = refl
row_claim_same parts others v (suc s) h =
    let here : (parts s).claim v ≡ (others s).claim v = h s (omega arith) in
    let rest : row_claim s parts v ≡ row_claim s others v = row_claim_same parts others v s (λ r lt. h r (omega (arith, lt))) in
    λ i. claim_or s (here i) (rest i)
