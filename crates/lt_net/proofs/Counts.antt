-- How many events a worker alone needs.
use Rattle.std.proofs.Common.{◌≡◌, ℕ, zero, suc, ◌+◌, ◌-◌, ◌*◌, ◌<◌, ◌≤◌, Bool, true, false, List, [], ◌∷◌, ◌++◌, length, length-append, Option, Some, None, refl, ap, ◌∙◌, subst, arith}
use Rattle.std.specs.Prelude.{if◌then◌else◌}
use Rattle.std.specs.Option.{option_map}
use Rattle.std.proofs.Math.Nat.{suc-mul, zero-mul, add-mul}
use Rattle.lt_model.specs.declared.mark.Mark.{Mark}
use Rattle.lt_net.specs.declared.job.JobName.TheVariants.{Leaf, Merge, Correct}
use Rattle.lt_net.specs.declared.job.JobState.TheVariants.{Clean}
use Rattle.lt_net.specs.Net.{Net, State, Claims, Finishes, is_pending}
use Rattle.lt_net.specs.Tree.{Tree, Tip, Fork, leaves, right_of, right_in, tree_of, halved_tree}
use Rattle.lt_net.specs.Codes.{code_of, nodes_over}
use Rattle.lt_net.specs.Alone.{IsAlone, net_over, run_if_pending, run_events, run_all, all_events, merges_down, corrects_up, sweep_jobs, sweep, leaf_jobs, lowest_pending, chosen, round, round_events, rounds, rounds_events, alone_events, one_if, inner_below}
use Rattle.lt_net.proofs.Shape.{some_leaf, right_left, right_right, tree_leaves}
use Rattle.lt_net.proofs.Runs.{run_alone, all_alone}
use Rattle.lt_net.proofs.Sweeps.{is_net, merge_idle, correct_idle}
use Rattle.lt_net.proofs.Rounds.{round_alone, rounds_alone}

-- ---- inner nodes

mapped_one : (f : ℕ → ℕ) (o : Option ℕ) → one_if (option_map f o) ≡ one_if o
mapped_one f None = refl
mapped_one f (Some y) = refl

-- a tree over c leaves has c - 1 inner nodes
abbrev IsWhole : Tree → Type 0
IsWhole t = (k : ℕ) → k + 1 ≡ 2 * leaves t → inner_below (Some t) k + 1 ≡ leaves t

inner_left : (l r : Tree) (x : ℕ) → x < 2 * leaves l → inner_below (Some (Fork l r)) (suc x) ≡ suc (inner_below (Some l) x)
inner_left l r zero h = refl
inner_left l r (suc x) h =
    let next : suc x ≡ x + 1 = omega arith in
    let one : one_if (right_of (Fork l r) (suc x)) ≡ one_if (right_of l x) =
    ap (λ k. one_if (right_of (Fork l r) k)) next ∙ ap one_if (right_left l r x (omega arith)) ∙ mapped_one (λ y. y + 1) (right_of l x) in
    let before : inner_below (Some (Fork l r)) (suc x) ≡ suc (inner_below (Some l) x) = inner_left l r x (omega arith) in
    omega (arith, one, before)

inner_right : (l r : Tree) → IsWhole l → (x k : ℕ) → k ≡ x + 2 * leaves l → inner_below (Some (Fork l r)) k ≡ leaves l + inner_below (Some r) x
inner_right l r w zero zero e = absurd (omega (arith, e, some_leaf l))
inner_right l r w zero (suc k) e = omega (arith, inner_left l r k (omega (arith, e)), w k (omega (arith, e)))
inner_right l r w (suc x) zero e = absurd (omega (arith, e))
inner_right l r w (suc x) (suc k) e =
    let at : k ≡ x + 2 * leaves l = omega (arith, e) in
    let one : one_if (right_of (Fork l r) k) ≡ one_if (right_of r x) =
    ap (λ i. one_if (right_of (Fork l r) i)) at ∙ ap one_if (right_right l r x) ∙ mapped_one (λ y. y + 2 * leaves l) (right_of r x) in
    let before : inner_below (Some (Fork l r)) k ≡ leaves l + inner_below (Some r) x = inner_right l r w x k at in
    omega (arith, one, before)

inner_whole : (t : Tree) → IsWhole t
inner_whole Tip k e = let one : 1 ≡ k = omega (arith, e) in subst (λ i. inner_below (Some Tip) i + 1 ≡ 1) one refl
inner_whole (Fork l r) k e =
    let at : k ≡ k - 2 * leaves l + 2 * leaves l = omega (arith, e, some_leaf r) in
    let last : k - 2 * leaves l + 1 ≡ 2 * leaves r = omega (arith, e, some_leaf r) in
    omega (arith, inner_right l r (inner_whole l) (k - 2 * leaves l) k at, inner_whole r (k - 2 * leaves l) last)

pub inner_nodes : (n : ℕ) → inner_below (tree_of n) (nodes_over n) ≡ n - 1
inner_nodes zero = refl
inner_nodes (suc n) =
    let l : leaves (halved_tree (suc n)) ≡ suc n = tree_leaves (suc n) (omega arith) in
    let w : inner_below (Some (halved_tree (suc n))) (2 * suc n - 1) + 1 ≡ leaves (halved_tree (suc n)) = inner_whole (halved_tree (suc n)) (2 * suc n - 1) (omega (arith, l)) in
    omega (arith, w, l)

-- ---- the events of jobs

two_or_none : (j : ℕ) (b : Bool) → length (if b then Claims 0 j ∷ Finishes 0 j ∷ [] else []) ≤ 2
two_or_none j true = omega arith
two_or_none j false = omega arith

pub run_length : (net : Net) (s : State) (j : ℕ) → length (run_events net s j) ≤ 2
run_length net s j = two_or_none j (is_pending (s.status j))

pub no_events : (net : Net) (s : State) (j : ℕ) → s.status j ≡ Clean → length (run_events net s j) ≡ 0
no_events net s j e = rw e

inner_length : (net : Net) (s : State) (j : ℕ) (o : Option ℕ) → (o ≡ None → s.status j ≡ Clean) → length (run_events net s j) ≤ 2 * one_if o
inner_length net s j None idle = omega (arith, no_events net s j (idle refl))
inner_length net s j (Some y) idle = omega (arith, run_length net s j)

pub events_append : (net : Net) (js ks : List ℕ) (s : State) → length (all_events net s (js ++ ks)) ≡ length (all_events net s js) + length (all_events net (run_all net s js) ks)
events_append net [] ks s = omega arith
events_append net (j ∷ js) ks s =
    let one = length-append (run_events net s j) (all_events net (run_if_pending net s j) (js ++ ks)) in
    let two = length-append (run_events net s j) (all_events net (run_if_pending net s j) js) in
    omega (arith, one, two, events_append net js ks (run_if_pending net s j))

module _ (effect : ℕ → List Mark → List Mark) (n : ℕ) where
  -- a node's Merge: two events at most, and none without children
  pub merge_length : (s : State) → IsAlone (net_over effect n) s → (v : ℕ) → length (run_events (net_over effect n) s (code_of (Merge v))) ≤ 2 * one_if (right_in (tree_of n) v)
  merge_length s a v = inner_length (net_over effect n) s (code_of (Merge v)) (right_in (tree_of n) v) (merge_idle effect n s a v)

  pub correct_length : (s : State) → IsAlone (net_over effect n) s → (v : ℕ) → length (run_events (net_over effect n) s (code_of (Correct v))) ≤ 2 * one_if (right_in (tree_of n) v)
  correct_length s a v = inner_length (net_over effect n) s (code_of (Correct v)) (right_in (tree_of n) v) (correct_idle effect n s a v)

  pub merges_length : (k : ℕ) (s : State) → IsAlone (net_over effect n) s → length (all_events (net_over effect n) s (merges_down k)) ≤ 2 * inner_below (tree_of n) k
  merges_length zero s a = omega arith
  merges_length (suc k) s a =
      let next = run_if_pending (net_over effect n) s (code_of (Merge k)) in
      let rest = merges_length k next (run_alone (net_over effect n) (is_net effect n) s a (code_of (Merge k))) in
      let here = merge_length s a k in
      let whole = length-append (run_events (net_over effect n) s (code_of (Merge k))) (all_events (net_over effect n) next (merges_down k)) in
      omega (arith, rest, here, whole)

  pub corrects_length : (count v end : ℕ) (s : State) → v + count ≡ end → IsAlone (net_over effect n) s
      → length (all_events (net_over effect n) s (corrects_up v count)) + 2 * inner_below (tree_of n) v ≤ 2 * inner_below (tree_of n) end
  corrects_length zero v end s e a =
      let same : v ≡ end = omega arith in
      let is : inner_below (tree_of n) v ≡ inner_below (tree_of n) end = ap (inner_below (tree_of n)) same in
      omega (arith, is)
  corrects_length (suc count) v end s e a =
      let next = run_if_pending (net_over effect n) s (code_of (Correct v)) in
      let rest = corrects_length count (suc v) end next (omega arith) (run_alone (net_over effect n) (is_net effect n) s a (code_of (Correct v))) in
      let here = correct_length s a v in
      let whole = length-append (run_events (net_over effect n) s (code_of (Correct v))) (all_events (net_over effect n) next (corrects_up (suc v) count)) in
      omega (arith, rest, here, whole)

  -- a sweep runs each inner job at most once
  pub sweep_length : (s : State) → IsAlone (net_over effect n) s → length (all_events (net_over effect n) s (sweep_jobs n)) ≤ 4 * (n - 1)
  sweep_length s a =
      let merged = run_all (net_over effect n) s (merges_down (nodes_over n)) in
      let first = merges_length (nodes_over n) s a in
      let second = corrects_length (nodes_over n) 0 (nodes_over n) merged (omega arith) (all_alone (net_over effect n) (is_net effect n) (merges_down (nodes_over n)) s a) in
      omega (arith, first, second, events_append (net_over effect n) (merges_down (nodes_over n)) (corrects_up 0 (nodes_over n)) s, inner_nodes n)

  leaf_length : (s : State) (o : Option ℕ) → length (all_events (net_over effect n) s (leaf_jobs o)) ≤ 2
  leaf_length s None = omega arith
  leaf_length s (Some i) =
      let whole = length-append (run_events (net_over effect n) s (code_of (Leaf i))) [] in
      omega (arith, whole, run_length (net_over effect n) s (code_of (Leaf i)))

  -- a round runs one leaf more
  pub round_length : (s : State) → IsAlone (net_over effect n) s → length (round_events (net_over effect n) n s) ≤ 4 * (n - 1) + 2
  round_length s a =
      let swept = sweep (net_over effect n) n s in
      let whole = length-append (all_events (net_over effect n) s (sweep_jobs n)) (all_events (net_over effect n) swept (chosen n swept)) in
      omega (arith, whole, sweep_length s a, leaf_length swept (lowest_pending swept 0 n))

  pub rounds_length : (r : ℕ) (s : State) → IsAlone (net_over effect n) s → length (rounds_events (net_over effect n) n r s) ≤ r * (4 * (n - 1) + 2)
  rounds_length zero s a = omega (arith, zero-mul (4 * (n - 1) + 2))
  rounds_length (suc r) s a =
      let next = round (net_over effect n) n s in
      let whole = length-append (round_events (net_over effect n) n s) (rounds_events (net_over effect n) n r next) in
      omega (arith, whole, round_length s a, rounds_length r next (round_alone effect n s a), suc-mul r (4 * (n - 1) + 2))

total : (n m : ℕ) → n * (4 * m + 2) + 4 * m ≡ 2 * ((n + 1) * 2 * m + n)
total zero m = omega (arith, zero-mul (4 * m + 2))
total (suc n) m =
    let more : (suc n + 1) * 2 ≡ (n + 1) * 2 + 2 = omega arith in
    let grown : (suc n + 1) * 2 * m ≡ (n + 1) * 2 * m + 2 * m = ap (λ k. k * m) more ∙ add-mul ((n + 1) * 2) 2 m in
    omega (arith, grown, suc-mul n (4 * m + 2), total n m)

-- n rounds and a last sweep
pub alone_length : (effect : ℕ → List Mark → List Mark) (n : ℕ) (s : State) → IsAlone (net_over effect n) s
    → length (alone_events (net_over effect n) n s) ≤ 2 * ((n + 1) * 2 * (n - 1) + n)
alone_length effect n s a =
    let last = rounds (net_over effect n) n n s in
    let whole = length-append (rounds_events (net_over effect n) n n s) (all_events (net_over effect n) last (sweep_jobs n)) in
    omega (arith, whole, rounds_length effect n n s a, sweep_length effect n last (rounds_alone effect n n s a), total n (n - 1))
