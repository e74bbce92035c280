-- What holds of the empty marks, and of what jobs give where it holds of their inputs, holds of each cell and of all captured inputs.
use Rattle.std.proofs.Common.{◌≡◌, ℕ, zero, suc, ◌+◌, ◌<◌, inl, inr, Bool, true, false, List, [], ◌∷◌, Option, Some, None, refl, subst, arith}
use Rattle.std.specs.Prelude.{if◌then◌else◌}
use Rattle.std.specs.List.{AllByRecursion}
use Rattle.std.proofs.lemmas.Bool.Decides.{eqb_tells}
use Rattle.lt_model.specs.declared.mark.Mark.{Mark}
use Rattle.lt_model.specs.Marks.{AreMarks, and_then}
use Rattle.lt_model.proofs.Composition.{AreMarks-and_then}
use Rattle.lt_net.specs.declared.job.JobState.{JobState}
use Rattle.lt_net.specs.declared.job.JobState.TheVariants.{Clean, Pending, Running, Dirty}
use Rattle.lt_net.specs.declared.job.JobName.{JobName}
use Rattle.lt_net.specs.declared.job.JobName.TheVariants.{Leaf, Merge, Correct, Pass}
use Rattle.lt_net.specs.Net.{Cell, Correction, Net, State, Claim, Event, Claims, Finishes, Abandons, same_cell, has_cell, update, read, first_of, second_of, is_pending, claimed, finished, abandoned, claim_of, claim_step, finish_step, abandon_step, step, replay, opening}
use Rattle.lt_net.specs.Tree.{leaves_in, outputs_of, gives_of, circuit_net, tree_of, GiveMarks}
use Rattle.lt_net.specs.Codes.{job_of}
use Rattle.lt_net.proofs.Kept.{given}
use Rattle.lt_net.proofs.Shape.{lt_tells, tree_leaves}

module _ (P : List Mark → Type 0) where
  pub record IsClosed (net : Net) : Type 0 where
    pub empty : P []
    pub gives : (j : ℕ) (ins : List (List Mark)) (x : Cell) → has_cell x (net.outputs j) ≡ true → AllByRecursion P ins → P (net.gives j ins x)

  pub record AllFit (s : State) : Type 0 where
    pub cells : (x : Cell) → P (s.value x)
    pub captured : (w : ℕ) (c : Claim) → s.claim w ≡ Some c → AllByRecursion P c.inputs

  pub all_read : (value : Cell → List Mark) (cs : List Cell) → ((x : Cell) → P (value x)) → AllByRecursion P (read value cs)
  all_read value [] h = tt
  all_read value (c ∷ cs) h = (h c, all_read value cs h)

  module _ (net : Net) (closed : IsClosed net) where
    pub opening_fits : AllFit (opening net)
    opening_fits = record { cells = λ x. closed.empty; captured = λ w c e. cc }

    module _ (s : State) (fit : AllFit s) where
      claimed_fits : (w j : ℕ) → AllFit (claimed net s w j)
      claimed_fits w j =
          let c0 : Claim = record { job = j; inputs = read s.value (net.inputs j); prior = s.done j } in
          let mine : (c : Claim) → Some c0 ≡ Some c → c0 ≡ c = λ c g. cc in
          record {
            cells = fit.cells;
            captured = λ v c e. elim (given s.claim w (Some c0) v (Some c) e) [
              | inl h ↦ subst (λ (d : Claim). AllByRecursion P d.inputs) (mine c h.1) (all_read s.value (net.inputs j) fit.cells)
              | inr h ↦ fit.captured v c h.1
            ];
          }

      others_fit : (w v : ℕ) (c : Claim) → update s.claim w None v ≡ Some c → AllByRecursion P c.inputs
      others_fit w v c e = elim (given s.claim w None v (Some c) e) [
        | inl h ↦ absurd (let a : None ≡ Some c = h.1 in cc)
        | inr h ↦ fit.captured v c h.1
      ]

      finished_fits : (w : ℕ) (c : Claim) → AllByRecursion P c.inputs → AllFit (finished net s w c)
      finished_fits w c ins = record {
        cells = λ x. cell x (has_cell x (net.outputs c.job)) refl;
        captured = others_fit w;
      }
        where
          cell : (x : Cell) (b : Bool) → has_cell x (net.outputs c.job) ≡ b → P (if b then net.gives c.job c.inputs x else s.value x)
          cell x true e = closed.gives c.job c.inputs x e ins
          cell x false e = fit.cells x

      abandoned_fits : (w : ℕ) (c : Claim) → AllFit (abandoned s w c)
      abandoned_fits w c = record { cells = fit.cells; captured = others_fit w }

      claim_fits : (w j : ℕ) (o : Option Claim) (t : State) → claim_step net s w j o ≡ Some t → AllFit t
      claim_fits w j None t h = pending_case (s.status j) h
        where
          pending_case : (st : JobState) → (if is_pending st then Some (claimed net s w j) else None) ≡ Some t → AllFit t
          pending_case Clean g = cc
          pending_case Pending g = let f : claimed net s w j ≡ t = cc in subst AllFit f (claimed_fits w j)
          pending_case Running g = cc
          pending_case Dirty g = cc
      claim_fits w j (Some c) t h = cc

      own_inputs : (w j : ℕ) (o : Option Claim) (c : Claim) → s.claim w ≡ o → claim_of o j ≡ Some c → AllByRecursion P c.inputs
      own_inputs w j None c e g = cc
      own_inputs w j (Some d) c e g = elim (eqb_tells d.job j) [
        | inl h ↦ let f : Some d ≡ Some c = rw h.0 at g in let k : d ≡ c = cc in subst (λ (b : Claim). AllByRecursion P b.inputs) k (fit.captured w d e)
        | inr h ↦ absurd (let f : None ≡ Some c = rw h.0 at g in cc)
      ]

      finish_fits : (w j : ℕ) (o : Option Claim) (t : State) → claim_of (s.claim w) j ≡ o → finish_step net s w o ≡ Some t → AllFit t
      finish_fits w j None t e h = cc
      finish_fits w j (Some c) t e h =
          let f : finished net s w c ≡ t = cc in
          subst AllFit f (finished_fits w c (own_inputs w j (s.claim w) c refl e))

      abandon_fits : (w j : ℕ) (o : Option Claim) (t : State) → abandon_step s w o ≡ Some t → AllFit t
      abandon_fits w j None t h = cc
      abandon_fits w j (Some c) t h = let f : abandoned s w c ≡ t = cc in subst AllFit f (abandoned_fits w c)

    step_fits : (s t : State) (ev : Event) → AllFit s → step net s ev ≡ Some t → AllFit t
    step_fits s t (Claims w j) fit h = claim_fits s fit w j (s.claim w) t h
    step_fits s t (Finishes w j) fit h = finish_fits s fit w j (claim_of (s.claim w) j) t refl h
    step_fits s t (Abandons w j) fit h = abandon_fits s fit w j (claim_of (s.claim w) j) t h

    pub replay_fits : (es : List Event) (s t : State) → AllFit s → replay net (Some s) es ≡ Some t → AllFit t
    replay_fits [] s t fit h = let f : s ≡ t = cc in subst AllFit f fit
    replay_fits (ev ∷ es) s t fit h = next (step net s ev) refl (λ u. replay_fits es u t) h
      where
        next : (o : Option State) → step net s ev ≡ o → ((u : State) → AllFit u → replay net (Some u) es ≡ Some t → AllFit t) → replay net o es ≡ Some t → AllFit t
        next None e later g = cc
        next (Some u) e later g = later u (step_fits s u ev fit e) g

  -- ---- the jobs of a tree

  first_fits : P [] → (ins : List (List Mark)) → AllByRecursion P ins → P (first_of ins)
  first_fits none [] h = none
  first_fits none (x ∷ xs) h = h.0

  second_fits : P [] → (ins : List (List Mark)) → AllByRecursion P ins → P (second_of ins)
  second_fits none [] h = none
  second_fits none (x ∷ xs) h = first_fits none xs h.1

  inside : (n : ℕ) → leaves_in (tree_of n) ≡ n
  inside zero = refl
  inside (suc n) = tree_leaves (suc n) (omega arith)

  module _ (effect : ℕ → List Mark → List Mark) (n : ℕ) (none : P []) (both : (a b : List Mark) → P a → P b → P (and_then a b)) (does : (i : ℕ) (c : List Mark) → i < n → P c → P (effect i c)) where
    pub name_gives : (name : JobName) (ins : List (List Mark)) (x : Cell) → has_cell x (outputs_of (tree_of n) name) ≡ true → AllByRecursion P ins → P (gives_of effect name ins x)
    name_gives (Leaf i) ins x e h = elim (lt_tells i (leaves_in (tree_of n))) [
      | inl k ↦ does i (first_of ins) (omega (arith, k.1, inside n)) (first_fits none ins h)
      | inr k ↦ absurd (let f : has_cell x [] ≡ true = rw k.0 at e in cc)
    ]
    name_gives (Merge v) ins x e h = both (first_of ins) (second_of ins) (first_fits none ins h) (second_fits none ins h)
    name_gives (Correct v) ins x e h = part (same_cell x (Correction (v + 1)))
      where
        part : (b : Bool) → P (if b then first_of ins else and_then (first_of ins) (second_of ins))
        part true = first_fits none ins h
        part false = both (first_of ins) (second_of ins) (first_fits none ins h) (second_fits none ins h)
    name_gives (Pass s) ins x e h = cc

    pub reached_fit : (events : List Event) (s : State) → replay (circuit_net effect (tree_of n)) (Some (opening (circuit_net effect (tree_of n)))) events ≡ Some s → AllFit s
    reached_fit events s h =
        let net = circuit_net effect (tree_of n) in
        let closed : IsClosed net = record { empty = none; gives = λ j ins x e a. name_gives (job_of j) ins x e a } in
        replay_fits net closed events (opening net) s (opening_fits net closed) h

pub marks_of : (effect : ℕ → List Mark → List Mark) (n : ℕ) → GiveMarks effect n → (events : List Event) (s : State)
    → replay (circuit_net effect (tree_of n)) (Some (opening (circuit_net effect (tree_of n)))) events ≡ Some s → (x : Cell) → AreMarks (s.value x)
marks_of effect n give events s h = (reached_fit AreMarks effect n tt (λ a b p q. AreMarks-and_then a b p) give events s h).cells
