-- What workers hold, and what their entries do.
use Rattle.std.proofs.Common.{◌≡◌, ◌≢◌, ℕ, ◌/◌, ◌%◌, ◌<◌, inl, inr, true, false, List, [], ◌∷◌, ◌++◌, Option, Some, None, map, get_or, set, refl, sym, ap, ◌∙◌, subst, arith, get_or-set_same, get_or-set_other, length-set}
use Rattle.std.specs.Prelude.{◌==◌, if◌then◌else◌, is_some}
use Rattle.std.proofs.lemmas.Bool.Decides.{eqb_tells}
use Rattle.std.proofs.lemmas.List.{map-append}
use Rattle.lt_face.specs.Limits.{most_workers}
use Rattle.lt_model.specs.declared.mark.Mark.{Mark}
use Rattle.lt_net.specs.declared.job.JobName.{JobName}
use Rattle.lt_net.specs.declared.job.JobState.{JobState}
use Rattle.lt_net.specs.declared.job.JobState.TheVariants.{Clean, Pending, Running, Dirty}
use Rattle.lt_net.specs.Codes.{code_of, IsOfTree}
use Rattle.lt_net.specs.Net.{Claim, Claims, Net, State, abandon_step, abandoned, claim_of, claim_step, claimed, finish_step, finished, is_pending, step}
use Rattle.lt_net.specs.Tree.{circuit_net, tree_of}
use Rattle.lt_net.proofs.Codes.{same_job}
use Rattle.lt_net.proofs.Shape.{eq_false, eq_true}
use Rattle.lt_net.proofs.Kept.{update_same}
use Rattle.lt_circuit.specs.Circuit.{CircuitView, state}
use Rattle.lt_circuit.specs.Claiming.{IsClaimed}
use Rattle.lt_circuit.specs.Entry.{event_on, kind_code, entry_code}
use Rattle.lt_circuit.specs.Hands.{IsInHand}
use Rattle.lt_circuit.specs.Job.{JobView, claim_of_job, name_of_job}
use Rattle.lt_circuit.specs.Shape.{shape}
use Rattle.lt_circuit.specs.declared.entry.Entry.{Entry}
use Rattle.lt_circuit.specs.declared.entry.Event.{Event as Kind}
use Rattle.lt_circuit.specs.declared.entry.Event.TheVariants.{Claim as ClaimKind, Finish, Abandon}
use Rattle.lt_batch.specs.Held.{AreHeld, IsDone, IsJob}
use Rattle.lt_batch.specs.Replaying.{IsIllegal, told, written_of}
use Rattle.lt_batch.specs.declared.replaying.Written.{Written}

-- ---- what an entry tells

pub told_kind : (k : Kind) (e : Written) → e.code % 3 ≡ kind_code k → told e ≡ event_on k e.worker (e.code / 3)
told_kind ClaimKind e kind = rw kind refl
told_kind Finish e kind = rw kind refl
told_kind Abandon e kind = rw kind refl

-- a journal with one entry more
pub one_more : (journal more : List Entry) (e : Entry) (w : Written) → more ≡ journal ++ e ∷ [] → e.worker ≡ w.worker → code_of e.job ≡ w.code / 3 → w.code % 3 ≡ kind_code e.event
    → map written_of more ≡ map written_of journal ++ w ∷ []
one_more journal more e w is worker job kind =
    let code : entry_code e ≡ w.code = omega (arith, job, kind) in
    let both : written_of e ≡ w = ap (λ n. record { worker = n; code = entry_code e }) worker ∙ ap (λ n. record { worker = w.worker; code = n }) code in
    ap (map written_of) is ∙ map-append written_of journal (e ∷ []) ∙ ap (λ x. map written_of journal ++ x ∷ []) both

-- ---- hands

module _ {W T : Type 0} where
  moved : (old new : CircuitView W T) (v : ℕ) (hand : Option (JobView W T)) → new.work ≡ old.work → (state new).claim v ≡ (state old).claim v → IsInHand old v hand → IsInHand new v hand
  moved old new v None work same h = same ∙ h
  moved old new v (Some job) work same h = (h.0 ∙ sym work, same ∙ h.1, h.2)

  -- one worker's hand is another
  pub hand_put : (old new : CircuitView W T) (hands : List (Option (JobView W T))) (w : ℕ) (hand : Option (JobView W T)) → w < most_workers → AreHeld old hands
      → new.work ≡ old.work → ((v : ℕ) → v ≢ w → (state new).claim v ≡ (state old).claim v) → IsInHand new w hand → AreHeld new (set hands w hand)
  hand_put old new hands w hand there h work others here = record {
    long = length-set hands w hand ∙ h.long;
    each = λ v below. elim (eqb_tells v w) [
      | inl g ↦
          let long = h.long in
          subst (λ u. IsInHand new u (get_or (set hands w hand) u None)) (sym g.1)
          (subst (IsInHand new w) (sym (get_or-set_same hands w hand None (omega (arith, there, long)))) here)
      | inr g ↦ subst (IsInHand new v) (sym (get_or-set_other hands w v hand None g.1)) (moved old new v (get_or hands v None) work (others v g.1) (h.each v below))
    ];
  }

  -- who holds a job can't claim one
  pub holder_claims : (net : Net) (c : CircuitView W T) (w j : ℕ) (hand : Option (JobView W T)) → IsInHand c w hand → is_some hand ≡ true → step net (state c) (Claims w j) ≡ None
  holder_claims net c w j None h some = cc
  holder_claims net c w j (Some job) h some = ap (claim_step net (state c) w j) h.1

  pub free_hand : (c : CircuitView W T) (w : ℕ) (hand : Option (JobView W T)) → IsInHand c w hand → is_some hand ≡ false → (state c).claim w ≡ None
  free_hand c w None h none = h
  free_hand c w (Some job) h none = cc

  -- who holds another job, or none, can't end this one
  pub not_his : (c : CircuitView W T) (w j : ℕ) (name : JobName) (hand : Option (JobView W T)) → IsOfTree name → code_of name ≡ j → IsInHand c w hand → (IsJob name hand → ⊥) → claim_of ((state c).claim w) j ≡ None
  not_his c w j name None own is h other = ap (λ o. claim_of o j) h
  not_his c w j name (Some job) own is h other =
      let apart : (claim_of_job job).job ≢ j = λ e. other (same_job (name_of_job job) name h.2 own (e ∙ sym is)) in
      ap (λ o. claim_of o j) h.1 ∙ ap (λ b. if b then Some (claim_of_job job) else None) (eq_false (claim_of_job job).job j apart)

  pub his : (c : CircuitView W T) (w : ℕ) (hand : Option (JobView W T)) (job : JobView W T) → IsInHand c w hand → hand ≡ Some job → (job.work ≡ c.work) × ((state c).claim w ≡ Some (claim_of_job job))
  his c w hand job h is = let k = subst (IsInHand c w) is h in (k.0, k.1)

own_claim : (c : Claim) (o : Option Claim) (j : ℕ) → o ≡ Some c → c.job ≡ j → claim_of o j ≡ Some c
own_claim c o j is same =
    ap (λ p. claim_of p j) is ∙ ap (λ k. if c.job == k then Some c else None) (sym same) ∙ ap (λ b. if b then Some c else None) (eq_true c.job)

not_pending : (st : JobState) (s : State) → st ≢ Pending → (if is_pending st then Some s else None) ≡ None
not_pending Clean s h = refl
not_pending Pending s h = absurd (h refl)
not_pending Running s h = refl
not_pending Dirty s h = refl

-- a job that isn't Pending can't be claimed
pub idle_claims : (net : Net) (s : State) (w j : ℕ) → s.claim w ≡ None → s.status j ≢ Pending → step net s (Claims w j) ≡ None
idle_claims net s w j free idle = ap (claim_step net s w j) free ∙ not_pending (s.status j) (claimed net s w j) idle

-- ---- entries that were done

same_shape : {W T : Type 0} (does : W → ℕ → List Mark → List Mark) (old new : CircuitView W T) → new.work ≡ old.work → new.board.leaves ≡ old.board.leaves → shape does new ≡ shape does old
same_shape does old new work leaves =
    ap (λ w. record { work = w; effect = does w; leaves = new.board.leaves }) work ∙ ap (λ n. record { work = old.work; effect = does old.work; leaves = n }) leaves

module _ {W T : Type 0} (does : W → ℕ → List Mark → List Mark) (old new : CircuitView W T) (hands : List (Option (JobView W T))) (entry : Written)
    (worker : entry.worker < most_workers) (h : AreHeld old hands) where
  abbrev net : Net
  net = circuit_net (does old.work) (tree_of old.board.leaves)

  pub claim_done : (job : JobView W T) → entry.code % 3 ≡ 0 → (state old).claim entry.worker ≡ None → IsClaimed (does old.work) old new entry.worker job → (claim_of_job job).job ≡ entry.code / 3
      → IsDone does old new (set hands entry.worker (Some job)) entry
  claim_done job kind free is code = record {
    worker = worker;
    legal =
        let claims : claim_step net (state old) entry.worker (claim_of_job job).job ((state old).claim entry.worker) ≡ Some (state new) =
        ap (claim_step net (state old) entry.worker (claim_of_job job).job) free
        ∙ ap (λ st. if is_pending st then Some (claimed net (state old) entry.worker (claim_of_job job).job) else None) is.pending
        ∙ ap (λ (s : State). Some s) (sym is.stepped) in
        ap (step net (state old)) (told_kind ClaimKind entry kind)
        ∙ ap (λ j. claim_step net (state old) entry.worker j ((state old).claim entry.worker)) (sym code) ∙ claims;
    same = same_shape does old new is.work is.leaves;
    journal = one_more old.journal new.journal (record { worker = entry.worker; job = name_of_job job; event = ClaimKind }) entry is.journal refl code kind;
    held = hand_put old new hands entry.worker (Some job) worker h is.work is.others (is.of_work ∙ sym is.work, is.held, is.of_tree);
  }

  pub finish_done : (left : List (Option (JobView W T))) (claim : Claim) (name : JobName) → left ≡ set hands entry.worker None → entry.code % 3 ≡ 1 → (state old).claim entry.worker ≡ Some claim → claim.job ≡ entry.code / 3 → code_of name ≡ entry.code / 3
      → new.work ≡ old.work → new.board.leaves ≡ old.board.leaves → state new ≡ finished net (state old) entry.worker claim
      → ((v : ℕ) → v ≢ entry.worker → (state new).claim v ≡ (state old).claim v)
      → new.journal ≡ old.journal ++ record { worker = entry.worker; job = name; event = Finish } ∷ [] → IsDone does old new left entry
  finish_done left claim name put kind held job code work leaves is others journal = record {
    worker = worker;
    legal =
        ap (step net (state old)) (told_kind Finish entry kind)
        ∙ ap (finish_step net (state old) entry.worker) (own_claim claim ((state old).claim entry.worker) (entry.code / 3) held job) ∙ ap (λ (s : State). Some s) (sym is);
    same = same_shape does old new work leaves;
    journal = one_more old.journal new.journal (record { worker = entry.worker; job = name; event = Finish }) entry journal refl code kind;
    held = subst (AreHeld new) (sym put) (hand_put old new hands entry.worker None worker h work others
        (ap (λ (s : State). s.claim entry.worker) is ∙ update_same (state old).claim entry.worker None));
  }

  pub abandon_done : (left : List (Option (JobView W T))) (claim : Claim) (name : JobName) → left ≡ set hands entry.worker None → entry.code % 3 ≡ 2 → (state old).claim entry.worker ≡ Some claim → claim.job ≡ entry.code / 3 → code_of name ≡ entry.code / 3
      → new.work ≡ old.work → new.board.leaves ≡ old.board.leaves → state new ≡ abandoned (state old) entry.worker claim
      → ((v : ℕ) → v ≢ entry.worker → (state new).claim v ≡ (state old).claim v)
      → new.journal ≡ old.journal ++ record { worker = entry.worker; job = name; event = Abandon } ∷ [] → IsDone does old new left entry
  abandon_done left claim name put kind held job code work leaves is others journal = record {
    worker = worker;
    legal =
        ap (step net (state old)) (told_kind Abandon entry kind)
        ∙ ap (abandon_step (state old) entry.worker) (own_claim claim ((state old).claim entry.worker) (entry.code / 3) held job) ∙ ap (λ (s : State). Some s) (sym is);
    same = same_shape does old new work leaves;
    journal = one_more old.journal new.journal (record { worker = entry.worker; job = name; event = Abandon }) entry journal refl code kind;
    held = subst (AreHeld new) (sym put) (hand_put old new hands entry.worker None worker h work others
        (ap (λ (s : State). s.claim entry.worker) is ∙ update_same (state old).claim entry.worker None));
  }

-- ---- entries that aren't legal

pub illegal_claim : (net : Net) (s : State) (entry : Written) → entry.code % 3 ≡ 0 → step net s (Claims entry.worker (entry.code / 3)) ≡ None → IsIllegal net s entry
illegal_claim net s entry kind none = λ small. ap (step net s) (told_kind ClaimKind entry kind) ∙ none

pub illegal_finish : (net : Net) (s : State) (entry : Written) → entry.code % 3 ≡ 1 → claim_of (s.claim entry.worker) (entry.code / 3) ≡ None → IsIllegal net s entry
illegal_finish net s entry kind none = λ small. ap (step net s) (told_kind Finish entry kind) ∙ ap (finish_step net s entry.worker) none

pub illegal_abandon : (net : Net) (s : State) (entry : Written) → entry.code % 3 ≡ 2 → claim_of (s.claim entry.worker) (entry.code / 3) ≡ None → IsIllegal net s entry
illegal_abandon net s entry kind none = λ small. ap (step net s) (told_kind Abandon entry kind) ∙ ap (abandon_step s entry.worker) none
