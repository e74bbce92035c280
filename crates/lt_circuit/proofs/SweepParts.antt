-- Sweeps and rounds from their parts.
use Rattle.std.proofs.Common.{◌≡◌, ℕ, ◌+◌, ◌≤◌, [], ◌++◌, length, length-append, Some, None, sym, ap, ◌∙◌, arith}
use Rattle.lt_net.specs.declared.job.JobName.TheVariants.{Leaf}
use Rattle.lt_net.specs.Net.{Net, State}
use Rattle.lt_net.specs.Codes.{code_of, nodes_over}
use Rattle.lt_net.specs.Alone.{run_if_pending, run_events, run_all, all_events, merges_down, corrects_up, sweep_jobs, sweep, leaf_jobs, lowest_pending, chosen, round, round_events}
use Rattle.lt_circuit.specs.Shape.{Shape, shape_net}
use Rattle.lt_net.proofs.Runs.{run_append}
use Rattle.lt_net.proofs.Counts.{events_append}

-- ---- a sweep

jobs_are : (n count : ℕ) → count ≡ nodes_over n → merges_down count ++ corrects_up 0 count ≡ sweep_jobs n
jobs_are n count all = ap (λ k. merges_down k ++ corrects_up 0 k) all

module _ {W : Type 0} (shape0 : Shape W) (s0 : State) (n count : ℕ) (all : count ≡ nodes_over n) where
  whole_events : length (all_events (shape_net shape0) s0 (merges_down count)) + length (all_events (shape_net shape0) (run_all (shape_net shape0) s0 (merges_down count)) (corrects_up 0 count))
      ≡ length (all_events (shape_net shape0) s0 (sweep_jobs n))
  whole_events = sym (events_append (shape_net shape0) (merges_down count) (corrects_up 0 count) s0) ∙ ap (λ jobs. length (all_events (shape_net shape0) s0 jobs)) (jobs_are n count all)

  -- the Merges alone have no more events
  pub merges_few : (j0 k : ℕ) → k ≤ j0 + length (all_events (shape_net shape0) s0 (merges_down count)) → k ≤ j0 + length (all_events (shape_net shape0) s0 (sweep_jobs n))
  merges_few j0 k few = omega (arith, few, whole_events)

  module _ (shape1 : Shape W) (s1 : State) (same : shape1 ≡ shape0) (merged : s1 ≡ run_all (shape_net shape0) s0 (merges_down count)) where
    pub sweep_ran : (s2 : State) → s2 ≡ run_all (shape_net shape1) s1 (corrects_up 0 count) → s2 ≡ run_all (shape_net shape0) s0 (sweep_jobs n)
    sweep_ran s2 corrected =
        corrected ∙ ap (λ x. run_all (shape_net x) s1 (corrects_up 0 count)) same ∙ ap (λ (t : State). run_all (shape_net shape0) t (corrects_up 0 count)) merged
        ∙ sym (run_append (shape_net shape0) (merges_down count) (corrects_up 0 count) s0) ∙ ap (run_all (shape_net shape0) s0) (jobs_are n count all)

    pub sweep_few : (j0 j1 k : ℕ) → j1 ≤ j0 + length (all_events (shape_net shape0) s0 (merges_down count)) → k ≤ j1 + length (all_events (shape_net shape1) s1 (corrects_up 0 count))
        → k ≤ j0 + length (all_events (shape_net shape0) s0 (sweep_jobs n))
    sweep_few j0 j1 k first second =
        let here : length (all_events (shape_net shape1) s1 (corrects_up 0 count)) ≡ length (all_events (shape_net shape0) (run_all (shape_net shape0) s0 (merges_down count)) (corrects_up 0 count)) =
        ap (λ x. length (all_events (shape_net x) s1 (corrects_up 0 count))) same ∙ ap (λ (t : State). length (all_events (shape_net shape0) t (corrects_up 0 count))) merged in
        omega (arith, first, second, here, whole_events)

-- ---- a round

module _ {W : Type 0} (shape0 shape1 : Shape W) (s0 s1 : State) (n : ℕ) (same : shape1 ≡ shape0) (swept : s1 ≡ run_all (shape_net shape0) s0 (sweep_jobs n)) where
  round_from : round (shape_net shape0) n s0 ≡ run_all (shape_net shape1) s1 (chosen n s1)
  round_from =
      ap (λ (t : State). run_all (shape_net shape0) t (chosen n t)) (sym swept) ∙ ap (λ x. run_all (shape_net x) s1 (chosen n s1)) (sym same)

  round_whole : length (round_events (shape_net shape0) n s0) ≡ length (all_events (shape_net shape0) s0 (sweep_jobs n)) + length (all_events (shape_net shape1) s1 (chosen n s1))
  round_whole =
      length-append (all_events (shape_net shape0) s0 (sweep_jobs n)) (all_events (shape_net shape0) (sweep (shape_net shape0) n s0) (chosen n (sweep (shape_net shape0) n s0)))
      ∙ ap (λ (t : State). length (all_events (shape_net shape0) s0 (sweep_jobs n)) + length (all_events (shape_net shape0) t (chosen n t))) (sym swept)
      ∙ ap (λ x. length (all_events (shape_net shape0) s0 (sweep_jobs n)) + length (all_events (shape_net x) s1 (chosen n s1))) (sym same)

  pub round_none : None ≡ lowest_pending s1 0 n → s1 ≡ round (shape_net shape0) n s0
  round_none low = sym (round_from ∙ ap (λ o. run_all (shape_net shape1) s1 (leaf_jobs o)) (sym low))

  pub round_some : (s2 : State) (leaf : ℕ) → Some leaf ≡ lowest_pending s1 0 n → s2 ≡ run_if_pending (shape_net shape1) s1 (code_of (Leaf leaf)) → s2 ≡ round (shape_net shape0) n s0
  round_some s2 leaf low ran = ran ∙ sym (round_from ∙ ap (λ o. run_all (shape_net shape1) s1 (leaf_jobs o)) (sym low))

  pub round_few_some : (leaf j0 j1 k : ℕ) → Some leaf ≡ lowest_pending s1 0 n → j1 ≤ j0 + length (all_events (shape_net shape0) s0 (sweep_jobs n))
      → k ≤ j1 + length (run_events (shape_net shape1) s1 (code_of (Leaf leaf))) → k ≤ j0 + length (round_events (shape_net shape0) n s0)
  round_few_some leaf j0 j1 k low first second =
      let here : length (all_events (shape_net shape1) s1 (chosen n s1)) ≡ length (all_events (shape_net shape1) s1 (leaf_jobs (Some leaf))) =
      ap (λ o. length (all_events (shape_net shape1) s1 (leaf_jobs o))) (sym low) in
      let one = length-append (run_events (shape_net shape1) s1 (code_of (Leaf leaf))) [] in
      omega (arith, first, second, here, one, round_whole)

-- a sweep has no more events than its round
pub sweep_in_round : (net : Net) (n : ℕ) (s : State) (j0 k : ℕ) → k ≤ j0 + length (all_events net s (sweep_jobs n)) → k ≤ j0 + length (round_events net n s)
sweep_in_round net n s j0 k few =
    let whole = length-append (all_events net s (sweep_jobs n)) (all_events net (sweep net n s) (chosen n (sweep net n s))) in
    omega (arith, few, whole)
