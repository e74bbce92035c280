-- One job run in a state without claims.
use Rattle.std.proofs.Common.{◌≡◌, ℕ, ◌≢◌, inl, inr, true, false, List, [], ◌∷◌, ◌++◌, Option, Some, None, refl, sym, ap, ◌∙◌}
use Rattle.std.specs.Prelude.{if◌then◌else◌}
use Rattle.std.proofs.lemmas.Bool.Decides.{eqb_tells}
use Rattle.lt_net.specs.declared.job.JobState.{JobState}
use Rattle.lt_net.specs.declared.job.JobState.TheVariants.{Clean, Pending, Running, Dirty}
use Rattle.lt_net.specs.Net.{Cell, Net, State, Claim, Event, Claims, Finishes, has_cell, update, read, same_at, ended, is_held, is_pending, value_after, status_ended, claimed, claim_of, finish_step, step, replay}
use Rattle.lt_net.specs.Alone.{IsAlone, IsUnclaimed, claim_for, ran, run_if_pending, run_events, run_all, all_events}
use Rattle.lt_net.specs.Kept.{IsKept}
use Rattle.lt_net.proofs.Kept.{IsNet, at_update, update_same, keeps_claim, keeps_finish}
use Rattle.lt_net.proofs.Cells.{same_each}

-- what job b writes isn't read by job a
abbrev pub IsUnread : Net → (b a : ℕ) → Type 0
IsUnread net b a = (x : Cell) → has_cell x (net.inputs a) ≡ true → has_cell x (net.outputs b) ≡ false

-- ---- by the job's state

run_cases_at : (P : State → Type 0) (net : Net) (s : State) (j : ℕ) (st : JobState) → s.status j ≡ st
    → (s.status j ≡ Pending → P (ran net s j)) → (s.status j ≢ Pending → P s) → P (if is_pending st then ran net s j else s)
run_cases_at P net s j Clean e p q = q (λ f. let g : Clean ≡ Pending = sym e ∙ f in cc)
run_cases_at P net s j Pending e p q = p e
run_cases_at P net s j Running e p q = q (λ f. let g : Running ≡ Pending = sym e ∙ f in cc)
run_cases_at P net s j Dirty e p q = q (λ f. let g : Dirty ≡ Pending = sym e ∙ f in cc)

-- a fact of what a run leaves
pub run_cases : (P : State → Type 0) (net : Net) (s : State) (j : ℕ)
    → (s.status j ≡ Pending → P (ran net s j)) → (s.status j ≢ Pending → P s) → P (run_if_pending net s j)
run_cases P net s j p q = run_cases_at P net s j (s.status j) refl p q

module _ (net : Net) (s : State) (a : IsAlone net s) where
  not_held : (j : ℕ) (st : JobState) → s.status j ≡ st → is_held st ≡ true → ⊥
  not_held j st e h =
      let old = a.kept.holder j (ap is_held e ∙ h) in
      let f : None ≡ Some old.1 = sym (a.free old.0) ∙ old.2 in cc

  clean_at : (j : ℕ) (st : JobState) → s.status j ≡ st → st ≢ Pending → st ≡ Clean
  clean_at j Clean e h = refl
  clean_at j Pending e h = absurd (h refl)
  clean_at j Running e h = absurd (not_held j Running e refl)
  clean_at j Dirty e h = absurd (not_held j Dirty e refl)

  -- a job that isn't Pending is Clean
  pub clean_else : (j : ℕ) → s.status j ≢ Pending → s.status j ≡ Clean
  clean_else j h = clean_at j (s.status j) refl h

-- worker 0's claim made and ended leaves none
pub cleared : (s : State) (c : Claim) → IsUnclaimed s → (w : ℕ) → update (update s.claim 0 (Some c)) 0 None w ≡ None
cleared s c free w = elim (at_update (update s.claim 0 (Some c)) 0 None w) [
  | inl h ↦ h.1
  | inr h ↦ elim (at_update s.claim 0 (Some c) w) [
    | inl g ↦ absurd (h.0 g.0)
    | inr g ↦ h.1 ∙ g.1 ∙ free w
  ]
]

-- ---- a Pending job is run

module _ (net : Net) (n : IsNet net) (s : State) (a : IsAlone net s) (j : ℕ) (pending : s.status j ≡ Pending) where
  ran_kept : IsKept net (ran net s j)
  ran_kept =
      keeps_finish net (claimed net s 0 j) (keeps_claim net s a.kept 0 j (a.free 0) pending) 0 (claim_for net s j)
      (update_same s.claim 0 (Some (claim_for net s j))) n

  ran_free : IsUnclaimed (ran net s j)
  ran_free = cleared s (claim_for net s j) a.free

  pub ran_alone : IsAlone net (ran net s j)
  ran_alone = record { kept = ran_kept; free = ran_free }

  -- cells that the job doesn't write stay
  pub ran_other : (x : Cell) → has_cell x (net.outputs j) ≡ false → (ran net s j).value x ≡ s.value x
  ran_other x e = rw e

  pub ran_own : (x : Cell) → has_cell x (net.outputs j) ≡ true → (ran net s j).value x ≡ net.gives j (read s.value (net.inputs j)) x
  ran_own x e = rw e

  own_ended : status_ended (claimed net s 0 j) (claim_for net s j) j ≡ Clean
  own_ended =
      update_same (update s.status j Running) j (ended (update s.status j Running j))
      ∙ ap ended (update_same s.status j Running)

  other_ended : (i : ℕ) → i ≢ j → status_ended (claimed net s 0 j) (claim_for net s j) i ≡ s.status i
  other_ended i ne = elim (at_update (update s.status j Running) j (ended (update s.status j Running j)) i) [
    | inl h ↦ absurd (ne h.0)
    | inr h ↦ elim (at_update s.status j Running i) [ inl g ↦ absurd (ne g.0) | inr g ↦ h.1 ∙ g.1 ]
  ]

  -- a job whose inputs stay isn't woken
  not_woken : (i : ℕ) → ((x : Cell) → has_cell x (net.inputs i) ≡ true → s.value x ≡ (ran net s j).value x)
      → (ran net s j).status i ≡ status_ended (claimed net s 0 j) (claim_for net s j) i
  not_woken i h =
      let same : same_at s.value (value_after net (claimed net s 0 j) (claim_for net s j)) (net.inputs i) ≡ true =
      same_each s.value (value_after net (claimed net s 0 j) (claim_for net s j)) (net.inputs i) h in
      rw same

  pub ran_clean : IsUnread net j j → (ran net s j).status j ≡ Clean
  ran_clean apart = not_woken j (λ x h. sym (ran_other x (apart x h))) ∙ own_ended

  pub ran_keeps : (i : ℕ) → s.status i ≡ Clean → ((x : Cell) → has_cell x (net.inputs i) ≡ true → s.value x ≡ (ran net s j).value x)
      → (ran net s j).status i ≡ Clean
  ran_keeps i clean h =
      not_woken i h ∙ other_ended i (λ e. let f : Clean ≡ Pending = sym clean ∙ ap s.status e ∙ pending in cc) ∙ clean

-- ---- run where it is Pending

module _ (net : Net) (n : IsNet net) (s : State) (a : IsAlone net s) (j : ℕ) where
  pub run_alone : IsAlone net (run_if_pending net s j)
  run_alone = run_cases (IsAlone net) net s j (λ p. ran_alone net n s a j p) (λ q. a)

  pub run_clean : IsUnread net j j → (run_if_pending net s j).status j ≡ Clean
  run_clean apart = run_cases (λ (t : State). t.status j ≡ Clean) net s j (λ p. ran_clean net n s a j p apart) (λ q. clean_else net s a j q)

  -- a Clean job that reads nothing of the run one's stays so
  pub run_keeps : (i : ℕ) → IsUnread net j i → s.status i ≡ Clean → (run_if_pending net s j).status i ≡ Clean
  run_keeps i apart clean =
      run_cases (λ (t : State). t.status i ≡ Clean) net s j
      (λ p. ran_keeps net n s a j p i clean (λ x h. sym (ran_other net n s a j p x (apart x h)))) (λ q. clean)

-- ---- runs are events

pub replay_append : (net : Net) (es fs : List Event) (o : Option State) → replay net o (es ++ fs) ≡ replay net (replay net o es) fs
replay_append net [] fs None = none_stays fs
  where
    none_stays : (gs : List Event) → replay net None gs ≡ replay net None gs
    none_stays gs = refl
replay_append net [] fs (Some s) = refl
replay_append net (e ∷ es) fs None = none_next fs
  where
    none_next : (gs : List Event) → replay net None (e ∷ (es ++ gs)) ≡ replay net None gs
    none_next [] = refl
    none_next (g ∷ gs) = refl
replay_append net (e ∷ es) fs (Some s) = replay_append net es fs (step net s e)

claim_legal : (net : Net) (s : State) (j : ℕ) → IsUnclaimed s → s.status j ≡ Pending → step net s (Claims 0 j) ≡ Some (claimed net s 0 j)
claim_legal net s j free pending = rw (free 0, pending)

finish_legal : (net : Net) (s : State) (j : ℕ) → step net (claimed net s 0 j) (Finishes 0 j) ≡ Some (ran net s j)
finish_legal net s j =
    let own : claim_of (update s.claim 0 (Some (claim_for net s j)) 0) j ≡ Some (claim_for net s j) =
    ap (λ o. claim_of o j) (update_same s.claim 0 (Some (claim_for net s j))) ∙ own_claim in
    ap (finish_step net (claimed net s 0 j) 0) own
  where
    own_claim : claim_of (Some (claim_for net s j)) j ≡ Some (claim_for net s j)
    own_claim = elim (eqb_tells j j) [ inl h ↦ ap (λ b. if b then Some (claim_for net s j) else None) h.0 | inr h ↦ absurd (h.1 refl) ]

run_replay_at : (net : Net) (s : State) (j : ℕ) (st : JobState) → s.status j ≡ st → IsUnclaimed s
    → replay net (Some s) (if is_pending st then Claims 0 j ∷ Finishes 0 j ∷ [] else []) ≡ Some (if is_pending st then ran net s j else s)
run_replay_at net s j Clean e free = refl
run_replay_at net s j Pending e free =
    ap (λ o. replay net o (Finishes 0 j ∷ [])) (claim_legal net s j free e) ∙ ap (λ o. replay net o []) (finish_legal net s j)
run_replay_at net s j Running e free = refl
run_replay_at net s j Dirty e free = refl

-- the events of a run lead where it leads
pub run_replay : (net : Net) (s : State) (j : ℕ) → IsUnclaimed s → replay net (Some s) (run_events net s j) ≡ Some (run_if_pending net s j)
run_replay net s j free = run_replay_at net s j (s.status j) refl free

pub all_replay : (net : Net) (n : IsNet net) (jobs : List ℕ) (s : State) → IsAlone net s → replay net (Some s) (all_events net s jobs) ≡ Some (run_all net s jobs)
all_replay net n [] s a = refl
all_replay net n (j ∷ jobs) s a =
    replay_append net (run_events net s j) (all_events net (run_if_pending net s j) jobs) (Some s)
    ∙ ap (λ o. replay net o (all_events net (run_if_pending net s j) jobs)) (run_replay net s j a.free)
    ∙ all_replay net n jobs (run_if_pending net s j) (run_alone net n s a j)

pub all_alone : (net : Net) (n : IsNet net) (jobs : List ℕ) (s : State) → IsAlone net s → IsAlone net (run_all net s jobs)
all_alone net n [] s a = a
all_alone net n (j ∷ jobs) s a = all_alone net n jobs (run_if_pending net s j) (run_alone net n s a j)

pub run_append : (net : Net) (js ks : List ℕ) (s : State) → run_all net s (js ++ ks) ≡ run_all net (run_all net s js) ks
run_append net [] ks s = refl
run_append net (j ∷ js) ks s = run_append net js ks (run_if_pending net s j)
