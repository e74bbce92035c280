-- The jobs that a legal journal names are jobs of the tree.
use Rattle.std.proofs.Common.{◌≡◌, ℕ, ◌^◌, ◌<◌, ◌≤◌, inl, inr, true, false, List, [], ◌∷◌, Option, Some, None, map, length, get_or, refl, sym, ap, ◌∙◌, arith}
use Rattle.std.specs.Prelude.{if◌then◌else◌}
use Rattle.std.specs.List.{AllByRecursion}
use Rattle.std.proofs.lemmas.Bool.Decides.{eqb_tells}
use Rattle.lt_face.specs.Limits.{most_programs}
use Rattle.lt_face.proofs.RowLemmas.{each_at}
use Rattle.lt_model.specs.declared.mark.Mark.{Mark}
use Rattle.lt_net.specs.declared.job.JobState.{JobState}
use Rattle.lt_net.specs.declared.job.JobState.TheVariants.{Clean, Pending, Running, Dirty}
use Rattle.lt_net.specs.Codes.{code_of, codes_over, job_of}
use Rattle.lt_net.specs.Kept.{IsKept}
use Rattle.lt_net.specs.Net.{Claim, Event, Net, State, abandon_step, claim_of, claim_step, claimed, finish_step, is_held, is_pending, opening, replay, step}
use Rattle.lt_net.specs.Tree.{circuit_net, tree_of}
use Rattle.lt_net.proofs.Codes.{code_of-job}
use Rattle.lt_net.proofs.Inside.{job_inside}
use Rattle.lt_net.proofs.Jobs.{circuit_is_net}
use Rattle.lt_net.proofs.Kept.{opening_kept, step_kept}
use Rattle.lt_circuit.specs.Entry.{entry_code, event_of, event_on, kind_code}
use Rattle.lt_circuit.specs.declared.entry.Entry.{Entry}
use Rattle.lt_circuit.specs.declared.entry.Event.{Event as Kind}
use Rattle.lt_circuit.specs.declared.entry.Event.TheVariants.{Claim as ClaimKind, Finish, Abandon}

-- a claim that is of this job
pub claim_is : (o : Option Claim) (j : ℕ) (c : Claim) → claim_of o j ≡ Some c → (o ≡ Some c) × (c.job ≡ j)
claim_is None j c e = cc
claim_is (Some d) j c e = elim (eqb_tells d.job j) [
  | inl h ↦
      let own : Some d ≡ Some c = sym (ap (λ b. if b then Some d else None) h.0) ∙ e in
      let same : d ≡ c = cc in
      (own, ap (λ (k : Claim). k.job) (sym same) ∙ h.1)
  | inr h ↦
      let none : None ≡ Some c = sym (ap (λ b. if b then Some d else None) h.0) ∙ e in
      cc
]

pending_of : (st : JobState) (s t : State) → (if is_pending st then Some s else None) ≡ Some t → st ≡ Pending
pending_of Clean s t e = cc
pending_of Pending s t e = refl
pending_of Running s t e = cc
pending_of Dirty s t e = cc

-- a job that is claimed was Pending
claim_pending : (net : Net) (s t : State) (w j : ℕ) (o : Option Claim) → claim_step net s w j o ≡ Some t → s.status j ≡ Pending
claim_pending net s t w j None e = pending_of (s.status j) (claimed net s w j) t e
claim_pending net s t w j (Some c) e = cc

-- no event is legal behind one that isn't
pub none_goes : (net : Net) (es : List Event) → replay net None es ≡ None
none_goes net [] = refl
none_goes net (e ∷ es) = refl

held_busy : (st : JobState) → is_held st ≡ true → st ≡ Clean → ⊥
held_busy st h e = let f : false ≡ true = ap is_held (sym e) ∙ h in cc

kind_small : (k : Kind) → kind_code k < 3
kind_small ClaimKind = omega arith
kind_small Finish = omega arith
kind_small Abandon = omega arith

module _ (effect : ℕ → List Mark → List Mark) (n : ℕ) where
  -- a job that isn't Clean is one of the tree
  busy_inside : (s : State) → IsKept (circuit_net effect (tree_of n)) s → (j : ℕ) → (s.status j ≡ Clean → ⊥) → j < codes_over n
  busy_inside s k j busy =
      let inside : code_of (job_of j) < codes_over n = job_inside n (job_of j) (λ e. busy (k.idle j e)) in
      omega (arith, inside, code_of-job j)

  -- so is one whose claim ends
  claimed_inside : (s : State) → IsKept (circuit_net effect (tree_of n)) s → (w j : ℕ) (c : Claim) → claim_of (s.claim w) j ≡ Some c → j < codes_over n
  claimed_inside s k w j c e =
      let own = claim_is (s.claim w) j c e in
      busy_inside s k j (λ clean. held_busy (s.status c.job) (k.held w c own.0) (ap s.status own.1 ∙ clean))

  finish_inside : (s t : State) → IsKept (circuit_net effect (tree_of n)) s → (w j : ℕ) (o : Option Claim) → claim_of (s.claim w) j ≡ o
      → finish_step (circuit_net effect (tree_of n)) s w o ≡ Some t → j < codes_over n
  finish_inside s t k w j None e h = cc
  finish_inside s t k w j (Some c) e h = claimed_inside s k w j c e

  abandon_inside : (s t : State) → IsKept (circuit_net effect (tree_of n)) s → (w j : ℕ) (o : Option Claim) → claim_of (s.claim w) j ≡ o
      → abandon_step s w o ≡ Some t → j < codes_over n
  abandon_inside s t k w j None e h = cc
  abandon_inside s t k w j (Some c) e h = claimed_inside s k w j c e

  kind_inside : (s t : State) → IsKept (circuit_net effect (tree_of n)) s → (kind : Kind) (w j : ℕ)
      → step (circuit_net effect (tree_of n)) s (event_on kind w j) ≡ Some t → j < codes_over n
  kind_inside s t k ClaimKind w j h =
      busy_inside s k j (λ clean. let f : Clean ≡ Pending = sym clean ∙ claim_pending (circuit_net effect (tree_of n)) s t w j (s.claim w) h in cc)
  kind_inside s t k Finish w j h = finish_inside s t k w j (claim_of (s.claim w) j) refl h
  kind_inside s t k Abandon w j h = abandon_inside s t k w j (claim_of (s.claim w) j) refl h

  entries_inside : (es : List Entry) (s t : State) → IsKept (circuit_net effect (tree_of n)) s
      → replay (circuit_net effect (tree_of n)) (Some s) (map event_of es) ≡ Some t → AllByRecursion (λ (e : Entry). code_of e.job < codes_over n) es
  entries_inside [] s t k h = tt
  entries_inside (e ∷ es) s t k h = next (step (circuit_net effect (tree_of n)) s (event_of e)) refl (λ u. entries_inside es u t) h
    where
      next : (o : Option State) → step (circuit_net effect (tree_of n)) s (event_of e) ≡ o
          → ((u : State) → IsKept (circuit_net effect (tree_of n)) u → replay (circuit_net effect (tree_of n)) (Some u) (map event_of es) ≡ Some t → AllByRecursion (λ (x : Entry). code_of x.job < codes_over n) es)
          → replay (circuit_net effect (tree_of n)) o (map event_of es) ≡ Some t → AllByRecursion (λ (x : Entry). code_of x.job < codes_over n) (e ∷ es)
      next None is later g = absurd (let f : None ≡ Some t = sym (none_goes (circuit_net effect (tree_of n)) (map event_of es)) ∙ g in cc)
      next (Some u) is later g = (
        kind_inside s u k e.event e.worker (code_of e.job) is,
        later u (step_kept (circuit_net effect (tree_of n)) (circuit_is_net effect (tree_of n)) s u (event_of e) k is) g,
      )

  -- the jobs of all entries of a journal are jobs of the tree
  pub all_inside : (es : List Entry) (t : State) → replay (circuit_net effect (tree_of n)) (Some (opening (circuit_net effect (tree_of n)))) (map event_of es) ≡ Some t
      → AllByRecursion (λ (e : Entry). code_of e.job < codes_over n) es
  all_inside es t h =
      entries_inside es (opening (circuit_net effect (tree_of n))) t (opening_kept (circuit_net effect (tree_of n)) (circuit_is_net effect (tree_of n))) h

  -- so the code of each entry is small
  pub entry_small : (es : List Entry) (t : State) → replay (circuit_net effect (tree_of n)) (Some (opening (circuit_net effect (tree_of n)))) (map event_of es) ≡ Some t
      → n ≤ most_programs → (i : ℕ) → i < length es → (d : Entry) → entry_code (get_or es i d) < 2 ^ 32
  entry_small es t h few i below d =
      let inside : code_of (get_or es i d).job < codes_over n = each_at (λ (e : Entry). code_of e.job < codes_over n) es i d (all_inside es t h) below in
      let kind = kind_small (get_or es i d).event in
      omega (arith, inside, kind, few)
