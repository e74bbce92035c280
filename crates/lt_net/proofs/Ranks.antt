-- Cells by rank: what stands at a cell depends on cells of its rank or less alone.
use Rattle.std.proofs.Common.{◌≡◌, ℕ, ◌+◌, ◌<◌, ◌≤◌, inl, inr, Bool, true, false, List, [], ◌∷◌, Option, Some, None, refl, sym, ap, ◌∙◌, subst, arith}
use Rattle.std.specs.Prelude.{nat_lt}
use Rattle.lt_model.specs.declared.mark.Mark.{Mark}
use Rattle.lt_model.specs.Marks.{and_then}
use Rattle.lt_net.specs.declared.job.JobName.{JobName}
use Rattle.lt_net.specs.declared.job.JobName.TheVariants.{Leaf, Merge, Correct, Pass}
use Rattle.lt_net.specs.declared.job.JobState.TheVariants.{Clean, Pending}
use Rattle.lt_net.specs.Net.{Cell, Correction, Effect, Net, State, same_cell, has_cell, read}
use Rattle.lt_net.specs.Tree.{Tree, leaves, right_of, node_of, leaf_at, node_in, leaves_in, if_inner, inputs_of, outputs_of, gives_of, circuit_net}
use Rattle.lt_net.specs.Codes.{code_of, job_of}
use Rattle.lt_net.specs.Alone.{IsAlone, ran, run_if_pending}
use Rattle.lt_net.proofs.Kept.{IsNet}
use Rattle.lt_net.proofs.Shape.{lt_tells, lt_false, eq_false, leaf_is}
use Rattle.lt_net.proofs.Codes.{job_of-code}
use Rattle.lt_net.proofs.Jobs.{same_itself}
use Rattle.lt_net.proofs.Jobs.{has_one, has_two}
use Rattle.lt_net.proofs.Spans.{split_is, end_at, leaf_end, rank, rank_in}
use Rattle.lt_net.proofs.Runs.{ran_other, ran_own, ran_keeps, run_cases}

pub record IsRanked (net : Net) (ranks : Cell → ℕ) : Type 0 where
  -- an output depends on inputs of its rank or less alone
  pub depends : (f g : Cell → List Mark) (k : ℕ) → ((x : Cell) → ranks x < k → f x ≡ g x) → (j : ℕ) (x : Cell) → has_cell x (net.outputs j) ≡ true → ranks x < k
      → net.gives j (read f (net.inputs j)) x ≡ net.gives j (read g (net.inputs j)) x
  -- leaf i reads a cell of rank i
  pub leaf_reads : (i : ℕ) (x : Cell) → has_cell x (net.inputs (code_of (Leaf i))) ≡ true → ranks x ≤ i

-- what stands at the outputs of rank below k is the jobs' function of what stands at their inputs
pub record IsFinal (net : Net) (ranks : Cell → ℕ) (k : ℕ) (s : State) : Type 0 where
  pub gave : (j : ℕ) (x : Cell) → has_cell x (net.outputs j) ≡ true → ranks x < k → s.value x ≡ net.gives j (read s.value (net.inputs j)) x

-- The leaves below k are Clean, and nothing that they read will change.
pub record IsReady (net : Net) (ranks : Cell → ℕ) (k : ℕ) (s : State) : Type 0 where
  pub final : IsFinal net ranks k s
  pub clean : (i : ℕ) → i < k → s.status (code_of (Leaf i)) ≡ Clean

-- ---- no run changes what is final

module _ (net : Net) (n : IsNet net) (ranks : Cell → ℕ) (r : IsRanked net ranks) (s : State) (a : IsAlone net s) (k : ℕ) (j : ℕ) where
  pub final_value : IsFinal net ranks k s → s.status j ≡ Pending → (x : Cell) → ranks x < k → s.value x ≡ (ran net s j).value x
  final_value fin pending x below = by_case (has_cell x (net.outputs j)) refl
    where
      by_case : (b : Bool) → has_cell x (net.outputs j) ≡ b → s.value x ≡ (ran net s j).value x
      by_case true e = fin.gave j x e below ∙ sym (ran_own net n s a j pending x e)
      by_case false e = sym (ran_other net n s a j pending x e)

  ran_final : IsFinal net ranks k s → s.status j ≡ Pending → IsFinal net ranks k (ran net s j)
  ran_final fin pending = record {
    gave = λ i x e below.
        sym (final_value fin pending x below) ∙ fin.gave i x e below
        ∙ r.depends s.value (ran net s j).value k (final_value fin pending) i x e below;
  }

  ran_ready : IsReady net ranks k s → s.status j ≡ Pending → IsReady net ranks k (ran net s j)
  ran_ready h pending = record {
    final = ran_final h.final pending;
    clean = λ i lt. ran_keeps net n s a j pending (code_of (Leaf i)) (h.clean i lt)
        (λ x e. final_value h.final pending x (let l = r.leaf_reads i x e in omega (arith, l)));
  }

  pub run_final : IsFinal net ranks k s → IsFinal net ranks k (run_if_pending net s j)
  run_final fin = run_cases (IsFinal net ranks k) net s j (ran_final fin) (λ q. fin)

  -- the leaves below k stay Clean, whatever job is run
  pub run_ready : IsReady net ranks k s → IsReady net ranks k (run_if_pending net s j)
  run_ready h = run_cases (IsReady net ranks k) net s j (ran_ready h) (λ q. h)

pub ready_none : (net : Net) (ranks : Cell → ℕ) (s : State) → IsReady net ranks 0 s
ready_none net ranks s = record {
  final = record { gave = λ j x e below. absurd (omega arith) };
  clean = λ i lt. absurd (omega arith);
}

pub ready_fewer : (net : Net) (ranks : Cell → ℕ) (s : State) (j k : ℕ) → j ≤ k → IsReady net ranks k s → IsReady net ranks j s
ready_fewer net ranks s j k le h = record {
  final = record { gave = λ i x e below. h.final.gave i x e (omega arith) };
  clean = λ i lt. h.clean i (omega arith);
}

-- ---- the circuit's cells

module _ (effect : ℕ → List Mark → List Mark) (t : Tree) (f g : Cell → List Mark) (k : ℕ) (same : (x : Cell) → rank t x < k → f x ≡ g x) where
  leaf_depends : (i : ℕ) (x : Cell) → has_cell x (outputs_of (Some t) (Leaf i)) ≡ true → rank t x < k
      → gives_of effect (Leaf i) (read f (inputs_of (Some t) (Leaf i))) x ≡ gives_of effect (Leaf i) (read g (inputs_of (Some t) (Leaf i))) x
  leaf_depends i x e below = elim (lt_tells i (leaves t)) [
    | inl h ↦
        let own : has_cell x (Effect (node_of t i) ∷ []) ≡ true = rw h.0 at e in
        let at : x ≡ Effect (node_of t i) = has_one x (Effect (node_of t i)) own in
        let far : rank t x ≡ i + 1 = ap (rank t) at ∙ leaf_end t i h.1 in
        let near : leaf_at t (node_of t i) ≡ i = (leaf_is t i h.1).back in
        let here : f (Correction (node_of t i)) ≡ g (Correction (node_of t i)) = same (Correction (node_of t i)) (omega (arith, far, near, below)) in
        rw h.0 (ap (effect i) here)
    | inr h ↦ absurd (let own : has_cell x [] ≡ true = rw h.0 at e in cc)
  ]

  merge_depends : (v : ℕ) (o : Option ℕ) (x : Cell) → right_of t v ≡ o → has_cell x (if_inner o (λ right. Effect v ∷ [])) ≡ true → rank t x < k
      → gives_of effect (Merge v) (read f (if_inner o (λ right. Effect (v + 1) ∷ Effect right ∷ []))) x
      ≡ gives_of effect (Merge v) (read g (if_inner o (λ right. Effect (v + 1) ∷ Effect right ∷ []))) x
  merge_depends v None x p e below = refl
  merge_depends v (Some y) x p e below =
      let s = split_is t v y p in
      let far : rank t x ≡ end_at t v = ap (rank t) (has_one x (Effect v) e) in
      let left : f (Effect (v + 1)) ≡ g (Effect (v + 1)) = same (Effect (v + 1)) (omega (arith, far, below, s.middle, s.more, s.last)) in
      let right : f (Effect y) ≡ g (Effect y) = same (Effect y) (omega (arith, far, below, s.last)) in
      λ i. and_then (left i) (right i)

  correct_depends : (v : ℕ) (o : Option ℕ) (x : Cell) → right_of t v ≡ o → has_cell x (if_inner o (λ right. Correction (v + 1) ∷ Correction right ∷ [])) ≡ true → rank t x < k
      → gives_of effect (Correct v) (read f (if_inner o (λ right. Correction v ∷ Effect (v + 1) ∷ []))) x
      ≡ gives_of effect (Correct v) (read g (if_inner o (λ right. Correction v ∷ Effect (v + 1) ∷ []))) x
  correct_depends v None x p e below = refl
  correct_depends v (Some y) x p e below =
      let s = split_is t v y p in
      elim (has_two x (Correction (v + 1)) (Correction y) e) [
        | inl h ↦
            let far : rank t x ≡ leaf_at t (v + 1) = ap (rank t) h in
            let up : f (Correction v) ≡ g (Correction v) = same (Correction v) (omega (arith, far, below, s.first)) in
            let own : same_cell x (Correction (v + 1)) ≡ true = ap (λ c. same_cell c (Correction (v + 1))) h ∙ same_itself (Correction (v + 1)) in
            rw own up
        | inr h ↦
            let far : rank t x ≡ leaf_at t y = ap (rank t) h in
            let up : f (Correction v) ≡ g (Correction v) = same (Correction v) (omega (arith, far, below, s.some)) in
            let left : f (Effect (v + 1)) ≡ g (Effect (v + 1)) = same (Effect (v + 1)) (omega (arith, far, below, s.middle)) in
            let other : same_cell x (Correction (v + 1)) ≡ false = ap (λ c. same_cell c (Correction (v + 1))) h ∙ eq_false y (v + 1) (λ q. omega (arith, q, s.after)) in
            rw other (λ i. and_then (up i) (left i))
      ]

  name_depends : (name : JobName) (x : Cell) → has_cell x (outputs_of (Some t) name) ≡ true → rank t x < k
      → gives_of effect name (read f (inputs_of (Some t) name)) x ≡ gives_of effect name (read g (inputs_of (Some t) name)) x
  name_depends (Leaf i) x e below = leaf_depends i x e below
  name_depends (Merge v) x e below = merge_depends v (right_of t v) x refl e below
  name_depends (Correct v) x e below = correct_depends v (right_of t v) x refl e below
  name_depends (Pass s) x e below = cc

-- without a tree no job writes or reads anything
none_depends : (effect : ℕ → List Mark → List Mark) (f g : Cell → List Mark) (name : JobName) (x : Cell)
    → gives_of effect name (read f (inputs_of None name)) x ≡ gives_of effect name (read g (inputs_of None name)) x
none_depends effect f g (Leaf i) x = let b : nat_lt i 0 ≡ false = lt_false i 0 (omega arith) in rw b
none_depends effect f g (Merge v) x = refl
none_depends effect f g (Correct v) x = refl
none_depends effect f g (Pass s) x = refl

pub reads_own : (t : Option Tree) (i : ℕ) (x : Cell) → has_cell x (inputs_of t (Leaf i)) ≡ true → (i < leaves_in t) × (x ≡ Correction (node_in t i))
reads_own t i x e = elim (lt_tells i (leaves_in t)) [
  | inl h ↦ let own : has_cell x (Correction (node_in t i) ∷ []) ≡ true = rw h.0 at e in (h.1, has_one x (Correction (node_in t i)) own)
  | inr h ↦ absurd (let own : has_cell x [] ≡ true = rw h.0 at e in cc)
]

leaf_rank : (t : Option Tree) (i : ℕ) (x : Cell) → has_cell x (inputs_of t (Leaf i)) ≡ true → rank_in t x ≤ i
leaf_rank None i x e = omega arith
leaf_rank (Some t) i x e =
    let own = reads_own (Some t) i x e in
    let far : rank t x ≡ leaf_at t (node_of t i) = ap (rank t) own.1 in
    let near : leaf_at t (node_of t i) ≡ i = (leaf_is t i own.0).back in
    omega (arith, far, near)

pub circuit_is_ranked : (effect : ℕ → List Mark → List Mark) (t : Option Tree) → IsRanked (circuit_net effect t) (rank_in t)
circuit_is_ranked effect None = record {
  depends = λ f g k same j x e below. none_depends effect f g (job_of j) x;
  leaf_reads = λ i x e. leaf_rank None i x (subst (λ n. has_cell x (inputs_of None n) ≡ true) (job_of-code (Leaf i) tt) e);
}
circuit_is_ranked effect (Some t) = record {
  depends = λ f g k same j x e below. name_depends effect t f g k same (job_of j) x e below;
  leaf_reads = λ i x e. leaf_rank (Some t) i x (subst (λ n. has_cell x (inputs_of (Some t) n) ≡ true) (job_of-code (Leaf i) tt) e);
}
