-- The tables at the opening stand for the opening.
use Rattle.std.proofs.Common.{◌≡◌, ℕ, zero, suc, ◌+◌, ◌<◌, ◌≤◌, inl, inr, false, List, [], ◌∷◌, ◌++◌, Option, None, length, get_or, refl, sym, ap, ◌∙◌, arith, add-one}
use Rattle.std.specs.Prelude.{if◌then◌else◌, nat_lt}
use Rattle.std.specs.Option.{option_map}
use Rattle.std.proofs.Math.ListN.{get_or-eq_default, get_or-append}
use Rattle.std.proofs.Math.Seq.{get_or-append_seam}
use Rattle.std.proofs.lemmas.List.{length-append}
use Rattle.lt_model.specs.declared.mark.Mark.{Mark}
use Rattle.lt_net.specs.declared.job.JobState.TheVariants.{Clean, Pending}
use Rattle.lt_circuit.specs.declared.cells.Node.{Node}
use Rattle.lt_circuit.specs.declared.cells.Held.{Held}
use Rattle.lt_net.specs.Net.{Cell, Correction, Effect, opening}
use Rattle.lt_net.proofs.Codes.{code_of-job}
use Rattle.lt_net.specs.Tree.{tree_of, is_leaf_job, circuit_net}
use Rattle.lt_net.specs.Codes.{code_of, job_of, codes_over}
use Rattle.lt_net.specs.declared.job.JobName.{JobName}
use Rattle.lt_net.specs.declared.job.JobName.TheVariants.{Leaf, Merge, Correct, Pass}
use Rattle.lt_circuit.specs.Board.{bare_node, value_in, done_in, done_of, claim_from, board_state, table, first_state, first_state_of}
use Rattle.lt_net.proofs.Shape.{lt_tells, lt_false}
use Rattle.lt_net.proofs.Inside.{leaves_are}

module _ {X : Type 0} (f : ℕ → X) where
  pub length-table : (n : ℕ) → length (table f n) ≡ n
  length-table zero = refl
  length-table (suc n) = length-append (table f n) (f n ∷ []) ∙ ap (λ k. k + 1) (length-table n) ∙ add-one n

  pub get_table : (n j : ℕ) (d : X) → j < n → get_or (table f n) j d ≡ f j
  get_table zero j d h = absurd (omega arith)
  get_table (suc n) j d h = elim (lt_tells j n) [
    | inl k ↦ get_or-append (table f n) (f n ∷ []) d j (omega (arith, k.1, length-table n)) ∙ get_table n j d k.1
    | inr k ↦
        let at : length (table f n) ≡ j = omega (arith, k.1, length-table n) in
        let here : n ≡ j = omega (arith, k.1) in
        ap (λ i. get_or (table f n ++ f n ∷ []) i d) (sym at) ∙ get_or-append_seam (table f n) (f n) [] d ∙ ap f here
  ]

-- one value everywhere
pub get_same : {X : Type 0} (x : X) (n j : ℕ) → get_or (table (λ k. x) n) j x ≡ x
get_same x n j = elim (lt_tells j n) [
  | inl h ↦ get_table (λ k. x) n j x h.1
  | inr h ↦ get_or-eq_default (table (λ k. x) n) x (omega (arith, h.1, length-table (λ k. x) n))
]

leaf_starts : (n j : ℕ) → first_state n j ≡ (if is_leaf_job (tree_of n) (job_of j) then Pending else Clean)
leaf_starts n j = by_name (job_of j)
  where
    by_name : (name : JobName) → first_state_of n name ≡ (if is_leaf_job (tree_of n) name then Pending else Clean)
    by_name (Leaf i) = rw (leaves_are n)
    by_name (Merge v) = refl
    by_name (Correct v) = refl
    by_name (Pass s) = refl

-- past the table no job is a leaf's
late_state : (n j : ℕ) → codes_over n ≤ j → first_state n j ≡ Clean
late_state n j h = by_name (job_of j) (code_of-job j)
  where
    by_name : (name : JobName) → code_of name ≡ j → first_state_of n name ≡ Clean
    by_name (Leaf i) e = let past : nat_lt i n ≡ false = lt_false i n (omega (arith, e, h)) in rw past
    by_name (Merge v) e = refl
    by_name (Correct v) e = refl
    by_name (Pass s) e = refl

state_at : (n j : ℕ) → get_or (table (first_state n) (codes_over n)) j Clean ≡ first_state n j
state_at n j = elim (lt_tells j (codes_over n)) [
  | inl h ↦ get_table (first_state n) (codes_over n) j Clean h.1
  | inr h ↦ get_or-eq_default (table (first_state n) (codes_over n)) Clean (omega (arith, h.1, length-table (first_state n) (codes_over n))) ∙ sym (late_state n j h.1)
]

value_at : (m : ℕ) (x : Cell) → value_in (table (λ k. bare_node) m) x ≡ []
value_at m (Correction v) = ap (λ (k : Node). k.correction) (get_same bare_node m v)
value_at m (Effect v) = ap (λ (k : Node). k.effect) (get_same bare_node m v)

done_at : (n j : ℕ) → done_in (table (λ k. None) n) j ≡ None
done_at n j = by_name (job_of j)
  where
    by_name : (name : JobName) → done_of (table (λ k. None) n) name ≡ None
    by_name (Leaf i) = get_same None n i
    by_name (Merge v) = refl
    by_name (Correct v) = refl
    by_name (Pass s) = refl

pub opening_is : (effect : ℕ → List Mark → List Mark) (n m : ℕ) (claims : List (Option Held)) → claims ≡ table (λ k. None) 16
    → board_state (table (λ k. bare_node) m) (table (first_state n) (codes_over n)) (table (λ k. None) n) claims ≡ opening (circuit_net effect (tree_of n))
opening_is effect n m claims e =
    let claim : (w : ℕ) → option_map claim_from (get_or claims w None) ≡ None = λ w. ap (λ l. option_map claim_from (get_or l w None)) e ∙ ap (option_map claim_from) (get_same None 16 w) in
    λ i. record {
      value = λ x. value_at m x i;
      status = λ j. (state_at n j ∙ leaf_starts n j) i;
      done = λ j. done_at n j i;
      claim = λ w. claim w i;
    }
