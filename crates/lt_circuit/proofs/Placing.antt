-- Orders of codes in which each code stands at its place, and states with such an order.
use Rattle.std.proofs.Common.{◌≡◌, ◌≢◌, ℕ, ◌+◌, ◌<◌, ◌≤◌, inl, inr, List, [], ◌∷◌, ◌++◌, length, get_or, set, sym, ap, ◌∙◌, subst, arith, get_or-set_same, get_or-set_other, length-set}
use Rattle.std.proofs.lemmas.Bool.Decides.{eqb_tells}
use Rattle.std.proofs.Math.ListN.{get_or-eq_default, get_or-append}
use Rattle.std.proofs.Math.Seq.{get_or-append_seam}
use Rattle.std.proofs.lemmas.List.{length-append}
use Rattle.lt_net.specs.declared.job.JobState.{JobState}
use Rattle.lt_net.specs.declared.job.JobState.TheVariants.{Clean, Pending}
use Rattle.lt_net.proofs.Shape.{lt_tells}
use Rattle.lt_circuit.specs.Jobs.{IsPlaced, ArePlaced, AreJobs}

pub one_placed : (order places order' places' : List ℕ) (code : ℕ) → ArePlaced order places code
    → ((k : ℕ) → k ≢ code → IsPlaced order places k → IsPlaced order' places' k) → IsPlaced order' places' code → ArePlaced order' places' (code + 1)
one_placed order places order' places' code before keeps here k lt = elim (eqb_tells k code) [
  | inl e ↦ subst (IsPlaced order' places') (sym e.1) here
  | inr e ↦ keeps k e.1 (before k (omega (arith, lt, e.1)))
]

-- a code that is appended, with its place
module _ (order places : List ℕ) (code : ℕ) where
  pub placed_here : code < length places → IsPlaced (order ++ code ∷ []) (set places code (length order)) code
  placed_here lt =
      let at : get_or (set places code (length order)) code 0 ≡ length order = get_or-set_same places code (length order) 0 lt in
      record {
        within = omega (arith, at, length-append order (code ∷ []));
        there = ap (λ p. get_or (order ++ code ∷ []) p 0) at ∙ get_or-append_seam order code [] 0;
      }

  pub placed_others : (k : ℕ) → k ≢ code → IsPlaced order places k → IsPlaced (order ++ code ∷ []) (set places code (length order)) k
  placed_others k ne h =
      let at : get_or (set places code (length order)) k 0 ≡ get_or places k 0 = get_or-set_other places code k (length order) 0 ne in
      record {
        within = omega (arith, at, h.within, length-append order (code ∷ []));
        there = ap (λ p. get_or (order ++ code ∷ []) p 0) at ∙ get_or-append order (code ∷ []) 0 (get_or places k 0) h.within ∙ h.there;
      }

-- ---- the states

pub pending_inside : (states : List JobState) (code : ℕ) → get_or states code Clean ≡ Pending → code < length states
pending_inside states code e = elim (lt_tells code (length states)) [
  | inl h ↦ h.1
  | inr h ↦ absurd (let f : Clean ≡ Pending = sym (get_or-eq_default states Clean h.1) ∙ e in cc)
]

module _ (states : List JobState) (order places : List ℕ) (low : ℕ) (h : AreJobs states order places low) where
  -- a state was written, and the place lowered where that made a job Pending
  pub state_set : (code low' : ℕ) (state : JobState) → code < length states → low' ≤ low → (state ≡ Pending → low' ≤ get_or places code 0)
      → AreJobs (set states code state) order places low'
  state_set code low' state lt still here =
      let same = length-set states code state in
      record {
        few = omega (arith, same, h.few);
        places_long = h.places_long ∙ sym same;
        placed = λ k k_lt. h.placed k (omega (arith, same, k_lt));
        within = omega (arith, still, h.within);
        above = λ k e. elim (eqb_tells k code) [
          | inl f ↦
              let g : state ≡ Pending = sym (get_or-set_same states code state Clean lt) ∙ ap (λ i. get_or (set states code state) i Clean) (sym f.1) ∙ e in
              let low_here = here g in
              subst (λ i. low' ≤ get_or places i 0) (sym f.1) low_here
          | inr f ↦ omega (arith, still, h.above k (sym (get_or-set_other states code k state Clean f.1) ∙ e))
        ];
      }

  -- no place before this one has a Pending job
  module _ (place : ℕ) (from : low ≤ place) (clear : (p : ℕ) → low ≤ p → p < place → get_or states (get_or order p 0) Clean ≢ Pending) where
    above_clear : (code : ℕ) → get_or states code Clean ≡ Pending → place ≤ get_or places code 0
    above_clear code e = elim (lt_tells (get_or places code 0) place) [
      | inl g ↦ absurd (clear (get_or places code 0) (h.above code e) g.1 (ap (λ k. get_or states k Clean) (h.placed code (pending_inside states code e)).there ∙ e))
      | inr g ↦ g.1
    ]

    pub low_raised : place ≤ length order → AreJobs states order places place
    low_raised le = record { few = h.few; places_long = h.places_long; placed = h.placed; within = le; above = above_clear }

    pub none_pending : length order ≤ place → (code : ℕ) → get_or states code Clean ≢ Pending
    none_pending le code e = omega (arith, le, above_clear code e, (h.placed code (pending_inside states code e)).within)
