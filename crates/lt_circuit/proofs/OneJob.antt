-- Running one job, as the worker alone does it.
use Rattle.std.proofs.Common.{◌≡◌, ◌∙◌, ℕ, ◌+◌, ◌≤◌, List, [], ◌∷◌, ◌++◌, Some, Bool, true, false, map, length, length-append, refl, ap, sym, append_assoc, arith}
use Rattle.std.specs.Prelude.{IsTrue, ◌↔◌, if◌then◌else◌}
use Rattle.std.proofs.lemmas.List.{map-append, append-nil, length-map}
use Rattle.lt_net.specs.declared.job.JobState.{JobState}
use Rattle.lt_net.specs.declared.job.JobState.TheVariants.{Clean, Pending, Running, Dirty}
use Rattle.lt_model.specs.declared.mark.Mark.{Mark}
use Rattle.lt_net.specs.Net.{Net, State, Event, Claim as NetClaim, Claims, Finishes, is_pending, claimed, finished, abandoned}
use Rattle.lt_net.specs.Tree.{circuit_net, tree_of}
use Rattle.lt_net.specs.Alone.{IsUnclaimed, run_if_pending, run_events}
use Rattle.lt_net.proofs.Ends.{finished_is, finished_free, abandoned_free}
use Rattle.lt_circuit.specs.Shape.{worker_of, IsLaterBy}
use Rattle.lt_circuit.specs.Circuit.{CircuitView, state}
use Rattle.lt_circuit.specs.Claiming.{IsClaimed}
use Rattle.lt_circuit.specs.Job.{JobView, claim_of_job}

pub pending_is : (r : Bool) (st : JobState) → (IsTrue r ↔ (st ≡ Pending)) → r ≡ is_pending st
pending_is true Clean h = let e : Clean ≡ Pending = h.0 refl in cc
pending_is true Pending h = refl
pending_is true Running h = let e : Running ≡ Pending = h.0 refl in cc
pending_is true Dirty h = let e : Dirty ≡ Pending = h.0 refl in cc
pending_is false Clean h = refl
pending_is false Pending h = let e : false ≡ true = h.1 refl in cc
pending_is false Running h = refl
pending_is false Dirty h = refl

-- ---- a job claimed, and the claim's end

module _ (net : Net) (old mid : State) (code : ℕ) (begun : mid ≡ claimed net old 0 code) where
  module _ (after : State) (k : NetClaim) (ended : after ≡ finished net mid 0 k) where
    end_is : after ≡ finished net (claimed net old 0 code) 0 k
    end_is = ended ∙ ap (λ s. finished net s 0 k) begun

    -- is the run of the job
    pub run_is : old.status code ≡ Pending → mid.claim 0 ≡ Some k → after ≡ run_if_pending net old code
    run_is pending held = end_is ∙ finished_is net old code k pending (sym (ap (λ (s : State). s.claim 0) begun) ∙ held)

    pub run_free : IsUnclaimed old → IsUnclaimed after
    run_free free = λ w. ap (λ (s : State). s.claim w) end_is ∙ finished_free net old code free k w

  pub drop_free : (after : State) (k : NetClaim) → after ≡ abandoned mid 0 k → IsUnclaimed old → IsUnclaimed after
  drop_free after k ended free = λ w. ap (λ (s : State). s.claim w) (ended ∙ ap (λ s. abandoned s 0 k) begun) ∙ abandoned_free net old code free k w

module _ {W T : Type 0} (does_of : W → ℕ → List Mark → List Mark) (old mid : CircuitView W T) (job : JobView W T) (code : ℕ) (claim : IsClaimed (does_of old.work) old mid 0 job)
    (is : (claim_of_job job).job ≡ code) where
  abbrev net : Net
  net = circuit_net (does_of old.work) (tree_of old.board.leaves)

  begun : state mid ≡ claimed net (state old) 0 code
  begun = claim.stepped ∙ ap (claimed net (state old) 0) is

  module _ (after : State) (k : NetClaim) (k_is : k ≡ claim_of_job job) (ended : after ≡ finished (circuit_net (does_of mid.work) (tree_of mid.board.leaves)) (state mid) 0 k) where
    ended_is : after ≡ finished net (state mid) 0 k
    ended_is = ended ∙ (λ i. finished (circuit_net (does_of (claim.work i)) (tree_of (claim.leaves i))) (state mid) 0 k)

    pub ran_is : after ≡ run_if_pending net (state old) code
    ran_is = run_is net (state old) (state mid) code begun after k ended_is (sym (ap (state old).status is) ∙ claim.pending) (claim.held ∙ ap Some (sym k_is))

    pub ran_free : IsUnclaimed (state old) → IsUnclaimed after
    ran_free = run_free net (state old) (state mid) code begun after k ended_is

  pub given_up : (after : State) (k : NetClaim) → after ≡ abandoned (state mid) 0 k → IsUnclaimed (state old) → IsUnclaimed after
  given_up = drop_free net (state old) (state mid) code begun

-- ---- what the journal gains

module _ {E : Type 0} (event : E → Event) where
  -- none
  pub later_none : (old new : List E) → new ≡ old → IsLaterBy 0 (map event old) (map event new)
  later_none old new same = record { more = []; is = ap (map event) same ∙ sym (append-nil (map event old)); by = tt }

  -- a claim and its end
  pub later_two : (old mid new : List E) (c d : E) → worker_of (event c) ≡ 0 → worker_of (event d) ≡ 0 → mid ≡ old ++ c ∷ [] → new ≡ mid ++ d ∷ [] → IsLaterBy 0 (map event old) (map event new)
  later_two old mid new c d by_c by_d first second =
      let all : new ≡ old ++ (c ∷ d ∷ []) = second ∙ ap (λ (es : List E). es ++ d ∷ []) first ∙ append_assoc old (c ∷ []) (d ∷ []) in
      record {
        more = map event (c ∷ d ∷ []);
        is = ap (map event) all ∙ map-append event old (c ∷ d ∷ []);
        by = (by_c, (by_d, tt));
      }

  -- a run adds two events
  pub few_two : (n : Net) (s : State) (j : ℕ) (old mid new : List E) (c d : E) → s.status j ≡ Pending → mid ≡ old ++ c ∷ [] → new ≡ mid ++ d ∷ []
      → length (map event new) ≤ length (map event old) + length (run_events n s j)
  few_two n s j old mid new c d pending first second =
      let two : length (run_events n s j) ≡ 2 = ap (λ (st : JobState). length (if is_pending st then Claims 0 j ∷ Finishes 0 j ∷ [] else [])) pending in
      let here = length-map new event in
      let there = length-map old event in
      let more = ap length second ∙ length-append mid (d ∷ []) in
      let most = ap length first ∙ length-append old (c ∷ []) in
      omega (arith, two, here, there, more, most)
