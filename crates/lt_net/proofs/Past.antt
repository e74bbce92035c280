-- Jobs that read nothing of others: while they are Clean, no event changes what they gave.
use Rattle.std.proofs.Common.{◌≡◌, ℕ, ◌≢◌, inl, inr, Bool, true, false, List, [], ◌∷◌, Option, Some, None, refl, sym, ap, ◌∙◌, subst}
use Rattle.std.specs.Prelude.{if◌then◌else◌}
use Rattle.lt_net.specs.declared.job.JobState.{JobState}
use Rattle.lt_net.specs.declared.job.JobState.TheVariants.{Clean, Pending, Running, Dirty}
use Rattle.lt_net.specs.Kept.{IsKept}
use Rattle.lt_net.specs.Net.{Cell, Net, State, Claim, Event, Claims, Finishes, Abandons, has_cell, update, first_of, same_at, ended, is_held, is_pending, value_after, status_ended, claimed, finished, abandoned, claim_of, claim_step, finish_step, abandon_step, step, replay}
use Rattle.lt_net.proofs.Kept.{IsNet, at_update, claim_is, step_kept}
use Rattle.lt_net.proofs.Cells.{same_each}

module _ (net : Net) (n : IsNet net) (In : ℕ → Type 0) where
  -- what one of the jobs reads only they write
  pub record AreApart : Type 0 where
    pub closed : (j k : ℕ) (x : Cell) → In j → has_cell x (net.inputs j) ≡ true → has_cell x (net.outputs k) ≡ true → In k

  -- the jobs are Clean in both, and gave the same
  pub record IsUntouched (s t : State) : Type 0 where
    pub clean : (j : ℕ) → In j → t.status j ≡ Clean
    pub values : (j : ℕ) (x : Cell) → In j → has_cell x (net.outputs j) ≡ true → t.value x ≡ s.value x
    pub done : (j : ℕ) → In j → t.done j ≡ s.done j

  pub untouched : (s : State) → ((j : ℕ) → In j → s.status j ≡ Clean) → IsUntouched s s
  untouched s clean = record { clean = clean; values = λ j x i h. refl; done = λ j i. refl }

  pub untouched_then : (s t u : State) → IsUntouched s t → IsUntouched t u → IsUntouched s u
  untouched_then s t u p q = record {
    clean = q.clean;
    values = λ j x i h. q.values j x i h ∙ p.values j x i h;
    done = λ j i. q.done j i ∙ p.done j i;
  }

  module _ (apart : AreApart) (s : State) (k : IsKept net s) (clean : (j : ℕ) → In j → s.status j ≡ Clean) where
    claim_untouched : (w i : ℕ) → s.status i ≡ Pending → IsUntouched s (claimed net s w i)
    claim_untouched w i pending = record {
      clean = λ j here. elim (at_update s.status i Running j) [
        | inl h ↦ absurd (let e : Clean ≡ Pending = sym (clean j here) ∙ ap s.status h.0 ∙ pending in cc)
        | inr h ↦ h.1 ∙ clean j here
      ];
      values = λ j x here h. refl;
      done = λ j here. refl;
    }

    -- a worker's claim is of another job
    module _ (w : ℕ) (c : Claim) (cl : s.claim w ≡ Some c) where
      elsewhere : (j : ℕ) → In j → j ≢ c.job
      elsewhere j here e = let a : false ≡ true = sym (ap is_held (clean j here)) ∙ ap (λ i. is_held (s.status i)) e ∙ k.held w c cl in cc

      abandon_untouched : IsUntouched s (abandoned s w c)
      abandon_untouched = record {
        clean = λ j here. elim (at_update s.status c.job Pending j) [
          | inl h ↦ absurd (elsewhere j here h.0)
          | inr h ↦ h.1 ∙ clean j here
        ];
        values = λ j x here h. refl;
        done = λ j here. refl;
      }

      -- a cell that the ending job doesn't write stays
      unwritten : (x : Cell) → (has_cell x (net.outputs c.job) ≡ true → ⊥) → value_after net s c x ≡ s.value x
      unwritten x none = by_case (has_cell x (net.outputs c.job)) refl
        where
          by_case : (b : Bool) → has_cell x (net.outputs c.job) ≡ b → (if b then net.gives c.job c.inputs x else s.value x) ≡ s.value x
          by_case true e = absurd (none e)
          by_case false e = refl

      still_done : (b : Bool) (j : ℕ) → j ≢ c.job → (if b then update s.done c.job (Some (first_of c.inputs)) else s.done) j ≡ s.done j
      still_done false j ne = refl
      still_done true j ne = elim (at_update s.done c.job (Some (first_of c.inputs)) j) [ inl h ↦ absurd (ne h.0) | inr h ↦ h.1 ]

      finish_clean : (j : ℕ) → In j → (finished net s w c).status j ≡ Clean
      finish_clean j here =
          let same : same_at s.value (value_after net s c) (net.inputs j) ≡ true =
          same_each s.value (value_after net s c) (net.inputs j) (λ x h. sym (unwritten x (λ g. elsewhere c.job (apart.closed j c.job x here h g) refl))) in
          let kept : status_ended s c j ≡ Clean = elim (at_update s.status c.job (ended (s.status c.job)) j) [
            | inl h ↦ absurd (elsewhere j here h.0)
            | inr h ↦ h.1 ∙ clean j here
          ] in
          rw same kept

      finish_untouched : IsUntouched s (finished net s w c)
      finish_untouched = record {
        clean = finish_clean;
        values = λ j x here h. unwritten x (λ g. elsewhere j here (n.one_writer x j c.job h g));
        done = λ j here. still_done (net.is_leaf c.job) j (elsewhere j here);
      }

    claims_untouched : (w i : ℕ) (o : Option Claim) (t : State) → claim_step net s w i o ≡ Some t → IsUntouched s t
    claims_untouched w i None t h = by_state (s.status i) refl h
      where
        by_state : (st : JobState) → s.status i ≡ st → (if is_pending st then Some (claimed net s w i) else None) ≡ Some t → IsUntouched s t
        by_state Clean p g = cc
        by_state Pending p g = let f : claimed net s w i ≡ t = cc in subst (IsUntouched s) f (claim_untouched w i p)
        by_state Running p g = cc
        by_state Dirty p g = cc
    claims_untouched w i (Some c) t h = cc

    finishes_untouched : (w i : ℕ) (o : Option Claim) (t : State) → claim_of (s.claim w) i ≡ o → finish_step net s w o ≡ Some t → IsUntouched s t
    finishes_untouched w i None t e h = cc
    finishes_untouched w i (Some c) t e h =
        let f : finished net s w c ≡ t = cc in
        subst (IsUntouched s) f (finish_untouched w c (claim_is net n (s.claim w) i c e).0)

    abandons_untouched : (w i : ℕ) (o : Option Claim) (t : State) → claim_of (s.claim w) i ≡ o → abandon_step s w o ≡ Some t → IsUntouched s t
    abandons_untouched w i None t e h = cc
    abandons_untouched w i (Some c) t e h =
        let f : abandoned s w c ≡ t = cc in
        subst (IsUntouched s) f (abandon_untouched w c (claim_is net n (s.claim w) i c e).0)

    pub step_untouched : (t : State) (ev : Event) → step net s ev ≡ Some t → IsUntouched s t
    step_untouched t (Claims w i) h = claims_untouched w i (s.claim w) t h
    step_untouched t (Finishes w i) h = finishes_untouched w i (claim_of (s.claim w) i) t refl h
    step_untouched t (Abandons w i) h = abandons_untouched w i (claim_of (s.claim w) i) t refl h

  -- nor do many events
  pub replay_untouched : AreApart → (es : List Event) (s t : State) → IsKept net s → ((j : ℕ) → In j → s.status j ≡ Clean) → replay net (Some s) es ≡ Some t → IsUntouched s t
  replay_untouched apart [] s t k clean h = let f : s ≡ t = cc in subst (IsUntouched s) f (untouched s clean)
  replay_untouched apart (ev ∷ es) s t k clean h =
      next (step net s ev) refl (λ u. replay_untouched apart es u t) h
    where
      next : (o : Option State) → step net s ev ≡ o
          → ((u : State) → IsKept net u → ((j : ℕ) → In j → u.status j ≡ Clean) → replay net (Some u) es ≡ Some t → IsUntouched u t)
          → replay net o es ≡ Some t → IsUntouched s t
      next None e later g = cc
      next (Some u) e later g =
          let first = step_untouched apart s k clean u ev e in
          untouched_then s u t first (later u (step_kept net n s u ev k e) first.clean g)
