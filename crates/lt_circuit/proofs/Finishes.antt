-- A job's finish, by the job's name.
use Rattle.std.proofs.Common.{◌≡◌, ℕ, zero, suc, ◌+◌, ◌<◌, ◌≢◌, true, false, List, [], ◌∷◌, Option, Some, None, refl, sym, ap, ◌∙◌, arith}
use Rattle.std.specs.Prelude.{if◌then◌else◌, nat_lt}
use Rattle.lt_model.specs.declared.mark.Mark.{Mark}
use Rattle.lt_model.specs.Marks.{and_then}
use Rattle.lt_net.specs.declared.job.JobName.{JobName}
use Rattle.lt_net.specs.declared.job.JobName.TheVariants.{Leaf, Merge, Correct}
use Rattle.lt_net.specs.Net.{Cell, Correction, Effect, State, Claim, first_of, second_of, same_cell, finished}
use Rattle.lt_net.specs.Tree.{tree_of, right_in, node_in, leaves_in, halved_tree, if_inner, outputs_of, gives_of, is_leaf_job, circuit_net}
use Rattle.lt_net.specs.Codes.{code_of, job_of, IsOfTree}
use Rattle.lt_circuit.specs.Store.{closed, stored, kept_leaf}
use Rattle.lt_net.proofs.Codes.{job_of-code}
use Rattle.lt_net.proofs.Jobs.{same_itself}
use Rattle.lt_net.proofs.Shape.{lt_true, eq_false, right_is, tree_leaves}
use Rattle.lt_circuit.proofs.Stores.{finish_one, finish_leaf, finish_two}

module _ (does : ℕ → List Mark → List Mark) (n : ℕ) (s : State) (w : ℕ) (c : Claim) where
  outputs_are : (name : JobName) → IsOfTree name → c.job ≡ code_of name → (circuit_net does (tree_of n)).outputs c.job ≡ outputs_of (tree_of n) name
  outputs_are name own e = ap (λ j. outputs_of (tree_of n) (job_of j)) e ∙ ap (outputs_of (tree_of n)) (job_of-code name own)

  gives_is : (name : JobName) (x : Cell) → IsOfTree name → c.job ≡ code_of name → (circuit_net does (tree_of n)).gives c.job c.inputs x ≡ gives_of does name c.inputs x
  gives_is name x own e = ap (λ j. gives_of does (job_of j) c.inputs x) e ∙ ap (λ k. gives_of does k c.inputs x) (job_of-code name own)

  leaf_is_job : (name : JobName) → IsOfTree name → c.job ≡ code_of name → (circuit_net does (tree_of n)).is_leaf c.job ≡ is_leaf_job (tree_of n) name
  leaf_is_job name own e = ap (λ j. is_leaf_job (tree_of n) (job_of j)) e ∙ ap (is_leaf_job (tree_of n)) (job_of-code name own)

  some_cells : (o : Option ℕ) (cells : List Cell) → o ≢ None → if_inner o (λ r. cells) ≡ cells
  some_cells None cells h = absurd (h refl)
  some_cells (Some y) cells h = refl

  pub merge_is : (v : ℕ) (m left right : List Mark) → right_in (tree_of n) v ≢ None → c.job ≡ code_of (Merge v) → c.inputs ≡ left ∷ right ∷ [] → m ≡ and_then left right
      → stored (circuit_net does (tree_of n)) (closed s w c) (Effect v) m ≡ finished (circuit_net does (tree_of n)) s w c
  merge_is v m left right inner job ins is =
      let out = outputs_are (Merge v) tt job ∙ some_cells (right_in (tree_of n) v) (Effect v ∷ []) inner in
      let gave = gives_is (Merge v) (Effect v) tt job ∙ ap (λ l. and_then (first_of l) (second_of l)) ins ∙ sym is in
      sym (finish_one (circuit_net does (tree_of n)) s w c (Effect v) m out gave (leaf_is_job (Merge v) tt job))

  leaf_in : (i : ℕ) → i < n → nat_lt i (leaves_in (tree_of n)) ≡ true
  leaf_in i h = by_case n h
    where
      by_case : (k : ℕ) → i < k → nat_lt i (leaves_in (tree_of k)) ≡ true
      by_case zero g = absurd (omega arith)
      by_case (suc k) g = lt_true i _ (omega (arith, g, tree_leaves (suc k)))

  pub leaf_is_finished : (i : ℕ) (m kept : List Mark) → i < n → c.job ≡ code_of (Leaf i) → c.inputs ≡ kept ∷ [] → m ≡ does i kept
      → kept_leaf (stored (circuit_net does (tree_of n)) (closed s w c) (Effect (node_in (tree_of n) i)) m) (code_of (Leaf i)) kept ≡ finished (circuit_net does (tree_of n)) s w c
  leaf_is_finished i m kept inside job ins is =
      let there = leaf_in i inside in
      let out = outputs_are (Leaf i) tt job ∙ ap (λ b. if b then Effect (node_in (tree_of n) i) ∷ [] else []) there in
      let gave = gives_is (Leaf i) (Effect (node_in (tree_of n) i)) tt job ∙ ap (λ l. does i (first_of l)) ins ∙ sym is in
      let last : kept_leaf (stored (circuit_net does (tree_of n)) (closed s w c) (Effect (node_in (tree_of n) i)) m) (code_of (Leaf i)) kept
      ≡ kept_leaf (stored (circuit_net does (tree_of n)) (closed s w c) (Effect (node_in (tree_of n) i)) m) c.job (first_of c.inputs) =
      λ k. kept_leaf (stored (circuit_net does (tree_of n)) (closed s w c) (Effect (node_in (tree_of n) i)) m) (sym job k) (first_of (sym ins k)) in
      last ∙ sym (finish_leaf (circuit_net does (tree_of n)) s w c (Effect (node_in (tree_of n) i)) m out gave (leaf_is_job (Leaf i) tt job ∙ there))

  pub correct_is : (v y : ℕ) (corr left m : List Mark) → 0 < n → right_in (tree_of n) v ≡ Some y → c.job ≡ code_of (Correct v) → c.inputs ≡ corr ∷ left ∷ [] → m ≡ and_then corr left
      → stored (circuit_net does (tree_of n)) (stored (circuit_net does (tree_of n)) (closed s w c) (Correction (v + 1)) corr) (Correction y) m ≡ finished (circuit_net does (tree_of n)) s w c
  correct_is v y corr left m some inner job ins is =
      let out = outputs_are (Correct v) tt job ∙ ap (λ o. if_inner o (λ r. Correction (v + 1) ∷ Correction r ∷ [])) inner in
      let apart : same_cell (Correction y) (Correction (v + 1)) ≡ false = eq_false y (v + 1) (right_after n v y some inner) in
      let own : same_cell (Correction (v + 1)) (Correction (v + 1)) ≡ true = same_itself (Correction (v + 1)) in
      let gave_left : (circuit_net does (tree_of n)).gives c.job c.inputs (Correction (v + 1)) ≡ corr =
      gives_is (Correct v) (Correction (v + 1)) tt job ∙ ap (λ b. if b then first_of c.inputs else and_then (first_of c.inputs) (second_of c.inputs)) own ∙ ap first_of ins in
      let gave_right : (circuit_net does (tree_of n)).gives c.job c.inputs (Correction y) ≡ m =
      gives_is (Correct v) (Correction y) tt job ∙ ap (λ b. if b then first_of c.inputs else and_then (first_of c.inputs) (second_of c.inputs)) apart ∙ ap (λ l. and_then (first_of l) (second_of l)) ins ∙ sym is in
      sym (finish_two (circuit_net does (tree_of n)) s w c (Correction (v + 1)) (Correction y) corr m out apart gave_left gave_right (leaf_is_job (Correct v) tt job))
    where
      right_after : (k v y : ℕ) → 0 < k → right_in (tree_of k) v ≡ Some y → y ≢ v + 1
      right_after zero v y a e = absurd (omega arith)
      right_after (suc k) v y a e = let r = right_is (halved_tree (suc k)) v y e in λ f. omega (arith, f, r.after)
