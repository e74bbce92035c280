-- Rounds: each leaves one more leaf Clean for good, so that as many rounds as leaves and a last sweep settle a circuit.
use Rattle.std.proofs.Common.{◌≡◌, ℕ, zero, suc, ◌+◌, ◌<◌, ◌≤◌, ◌≢◌, inl, inr, Bool, true, false, List, [], ◌∷◌, Option, Some, None, refl, sym, ap, ◌∙◌, subst, arith}
use Rattle.std.specs.Prelude.{if◌then◌else◌, nat_lt}
use Rattle.std.proofs.lemmas.Bool.Decides.{eqb_tells}
use Rattle.lt_model.specs.declared.mark.Mark.{Mark}
use Rattle.lt_net.specs.declared.job.JobState.{JobState}
use Rattle.lt_net.specs.declared.job.JobState.TheVariants.{Clean, Pending, Running, Dirty}
use Rattle.lt_net.specs.declared.job.JobName.{JobName}
use Rattle.lt_net.specs.declared.job.JobName.TheVariants.{Leaf, Merge, Correct, Pass}
use Rattle.lt_net.specs.Net.{Cell, Correction, Effect, State, has_cell, is_pending, IsSettled}
use Rattle.lt_net.specs.Tree.{Tree, leaves, node_of, leaves_in, node_in, inputs_of, outputs_of, tree_of}
use Rattle.lt_net.specs.Codes.{code_of, job_of, IsOfTree}
use Rattle.lt_net.specs.Alone.{IsAlone, IsSwept, net_over, run_if_pending, run_all, sweep, lowest_pending, leaf_jobs, chosen, round, rounds, settled_alone}
use Rattle.lt_net.proofs.Shape.{lt_tells, lt_false, tree_leaves}
use Rattle.lt_net.proofs.Codes.{job_of-code, code_of-job, is_of_tree}
use Rattle.lt_net.proofs.Jobs.{has_one}
use Rattle.lt_net.proofs.Spans.{leaf_end, rank, rank_in}
use Rattle.lt_net.proofs.Runs.{clean_else, run_clean, all_alone}
use Rattle.lt_net.proofs.Ranks.{IsFinal, IsReady, reads_own, run_final, run_ready, ready_none, ready_fewer}
use Rattle.lt_net.proofs.Sweeps.{is_net, is_ranked, unread_from, sweep_alone, sweep_ready, sweep_settles_inner}

-- ---- the lowest Pending leaf

-- what the lowest Pending leaf from i on and below the end says, or that there is none
abbrev pub IsLowest : State → (i end : ℕ) → Option ℕ → Type 0
IsLowest s i end None = (k : ℕ) → i ≤ k → k < end → s.status (code_of (Leaf k)) ≢ Pending
IsLowest s i end (Some m) =
    (i ≤ m) × (m < end) × (s.status (code_of (Leaf m)) ≡ Pending) × ((k : ℕ) → i ≤ k → k < m → s.status (code_of (Leaf k)) ≢ Pending)

lower : (s : State) (i end : ℕ) (o : Option ℕ) → IsLowest s (suc i) end o → s.status (code_of (Leaf i)) ≢ Pending → IsLowest s i end o
lower s i end None h ne = λ k a b. elim (eqb_tells k i) [ inl e ↦ (λ p. ne (ap (λ (j : ℕ). s.status (code_of (Leaf j))) (sym e.1) ∙ p)) | inr e ↦ h k (omega (arith, e.1)) b ]
lower s i end (Some m) h ne = (
  omega (arith, h.0),
  h.1,
  h.2,
  λ k a b. elim (eqb_tells k i) [
    | inl e ↦ (λ p. ne (ap (λ (j : ℕ). s.status (code_of (Leaf j))) (sym e.1) ∙ p))
    | inr e ↦ h.3 k (omega (arith, e.1)) b
  ],
)

pick : (s : State) (i end count : ℕ) (st : JobState) → s.status (code_of (Leaf i)) ≡ st → i < end → IsLowest s (suc i) end (lowest_pending s (suc i) count)
    → IsLowest s i end (elim (is_pending st) [ true ↦ Some i | false ↦ lowest_pending s (suc i) count ])
pick s i end count Clean e lt h = lower s i end (lowest_pending s (suc i) count) h (λ p. let f : Clean ≡ Pending = sym e ∙ p in cc)
pick s i end count Pending e lt h = (omega arith, lt, e, λ k a b. absurd (omega arith))
pick s i end count Running e lt h = lower s i end (lowest_pending s (suc i) count) h (λ p. let f : Running ≡ Pending = sym e ∙ p in cc)
pick s i end count Dirty e lt h = lower s i end (lowest_pending s (suc i) count) h (λ p. let f : Dirty ≡ Pending = sym e ∙ p in cc)

pub lowest_is : (s : State) (i count end : ℕ) → i + count ≡ end → IsLowest s i end (lowest_pending s i count)
lowest_is s i zero end e = λ k a b. absurd (omega arith)
lowest_is s i (suc count) end e =
    pick s i end count (s.status (code_of (Leaf i))) refl (omega arith) (lowest_is s (suc i) count end (omega arith))

-- ---- what is final after a sweep

leaves_are : (n : ℕ) → leaves_in (tree_of n) ≡ n
leaves_are zero = refl
leaves_are (suc n) = tree_leaves (suc n) (omega arith)

leaf_rank_written : (t : Option Tree) (i : ℕ) (x : Cell) → has_cell x (outputs_of t (Leaf i)) ≡ true → rank_in t x ≡ i + 1
leaf_rank_written None i x e = absurd (let own : has_cell x [] ≡ true = rw (lt_false i 0 (omega arith)) at e in cc)
leaf_rank_written (Some t) i x e = elim (lt_tells i (leaves t)) [
  | inl h ↦
      let own : has_cell x (Effect (node_of t i) ∷ []) ≡ true = rw h.0 at e in
      ap (rank t) (has_one x (Effect (node_of t i)) own) ∙ leaf_end t i h.1
  | inr h ↦ absurd (let own : has_cell x [] ≡ true = rw h.0 at e in cc)
]

-- a leaf doesn't read what it writes
leaf_unread : (t : Option Tree) (i : ℕ) (x : Cell) → has_cell x (inputs_of t (Leaf i)) ≡ true → has_cell x (outputs_of t (Leaf i)) ≡ false
leaf_unread t i x e =
    let own = reads_own t i x e in
    ap (λ c. has_cell c (outputs_of t (Leaf i))) own.1 ∙ by_case (nat_lt i (leaves_in t))
  where
    by_case : (b : Bool) → has_cell (Correction (node_in t i)) (if b then Effect (node_in t i) ∷ [] else []) ≡ false
    by_case true = refl
    by_case false = refl

module _ (effect : ℕ → List Mark → List Mark) (n : ℕ) (s : State) (a : IsAlone (net_over effect n) s) where
  -- a code of no leaf is Clean
  pub leaf_idle : (i : ℕ) → n ≤ i → s.status (code_of (Leaf i)) ≡ Clean
  leaf_idle i le =
      let none : inputs_of (tree_of n) (Leaf i) ≡ [] = rw (lt_false i (leaves_in (tree_of n)) (omega (arith, leaves_are n))) in
      a.kept.idle (code_of (Leaf i)) (ap (inputs_of (tree_of n)) (job_of-code (Leaf i) tt) ∙ none)

  module _ (w : IsSwept s) where
    writer_clean : (k : ℕ) → ((i : ℕ) → i < k → s.status (code_of (Leaf i)) ≡ Clean) → (name : JobName) (x : Cell) → has_cell x (outputs_of (tree_of n) name) ≡ true
        → rank_in (tree_of n) x < suc k → s.status (code_of name) ≡ Clean
    writer_clean k h (Leaf i) x e below = h i (omega (arith, below, leaf_rank_written (tree_of n) i x e))
    writer_clean k h (Merge v) x e below = w.merges v
    writer_clean k h (Correct v) x e below = w.corrects v
    writer_clean k h (Pass s) x e below = cc

    -- all that depends on Clean leaves alone, and the correction of the next one
    pub swept_final : (k : ℕ) → ((i : ℕ) → i < k → s.status (code_of (Leaf i)) ≡ Clean) → IsFinal (net_over effect n) (rank_in (tree_of n)) (suc k) s
    swept_final k h = record {
      gave = λ j x e below.
          let clean : s.status j ≡ Clean = ap s.status (sym (code_of-job j)) ∙ writer_clean k h (job_of j) x e below in
          (a.kept.clean j clean).gave x e;
    }

    -- after a sweep a circuit whose leaves are Clean is settled
    pub swept_settled : ((i : ℕ) → i < n → s.status (code_of (Leaf i)) ≡ Clean) → IsSettled s
    swept_settled h j = ap s.status (sym (code_of-job j)) ∙ by_name (job_of j) (is_of_tree j)
      where
        by_name : (name : JobName) → IsOfTree name → s.status (code_of name) ≡ Clean
        by_name (Leaf i) own = elim (lt_tells i n) [ inl l ↦ h i l.1 | inr l ↦ leaf_idle i l.1 ]
        by_name (Merge v) own = w.merges v
        by_name (Correct v) own = w.corrects v
        by_name (Pass s) own = absurd own

    -- and so is one without a Pending leaf
    pub none_settled : lowest_pending s 0 n ≡ None → IsSettled s
    none_settled e =
        let low : IsLowest s 0 n None = subst (IsLowest s 0 n) e (lowest_is s 0 n n (omega arith)) in
        swept_settled (λ i l. clean_else (net_over effect n) s a (code_of (Leaf i)) (low i (omega arith) l))

  -- the lowest Pending leaf isn't below those that are ready
  pub lowest_rises : (k m : ℕ) → IsReady (net_over effect n) (rank_in (tree_of n)) k s → s.status (code_of (Leaf m)) ≡ Pending → k ≤ m
  lowest_rises k m h e = elim (lt_tells m k) [ inl l ↦ absurd (let f : Clean ≡ Pending = sym (h.clean m l.1) ∙ e in cc) | inr l ↦ l.1 ]

  -- ---- the leaf that is run after a sweep

  module _ (w : IsSwept s) (k : ℕ) (h : IsReady (net_over effect n) (rank_in (tree_of n)) k s) where
    none_left : IsLowest s 0 n None → IsReady (net_over effect n) (rank_in (tree_of n)) (suc k) s
    none_left low = record {
      final = swept_final w k h.clean;
      clean = λ i lt. clean_else (net_over effect n) s a (code_of (Leaf i)) (not_pending i);
    }
      where
        not_pending : (i : ℕ) → s.status (code_of (Leaf i)) ≢ Pending
        not_pending i = elim (lt_tells i n) [
          | inl l ↦ low i (omega arith) l.1
          | inr l ↦ (λ e. let f : Clean ≡ Pending = sym (leaf_idle i l.1) ∙ e in cc)
        ]

    one_more : (m : ℕ) → IsLowest s 0 n (Some m) → IsReady (net_over effect n) (rank_in (tree_of n)) (suc m) (run_if_pending (net_over effect n) s (code_of (Leaf m)))
    one_more m low =
        let below : (i : ℕ) → i < m → s.status (code_of (Leaf i)) ≡ Clean =
        λ i lt. clean_else (net_over effect n) s a (code_of (Leaf i)) (low.3 i (omega arith) lt) in
        let final : IsFinal (net_over effect n) (rank_in (tree_of n)) (suc m) s = swept_final w m below in
        let ready : IsReady (net_over effect n) (rank_in (tree_of n)) m s = record {
          final = record { gave = λ j x e l. final.gave j x e (omega (arith, l)) };
          clean = below;
        } in
        let kept = run_ready (net_over effect n) (is_net effect n) (rank_in (tree_of n)) (is_ranked effect n) s a m (code_of (Leaf m)) ready in
        record {
          final = run_final (net_over effect n) (is_net effect n) (rank_in (tree_of n)) (is_ranked effect n) s a (suc m) (code_of (Leaf m)) final;
          clean = λ i lt. elim (eqb_tells i m) [
            | inl e ↦
                subst (λ u. (run_if_pending (net_over effect n) s (code_of (Leaf m))).status (code_of (Leaf u)) ≡ Clean) (sym e.1)
                (run_clean (net_over effect n) (is_net effect n) s a (code_of (Leaf m)) (unread_from effect (tree_of n) (Leaf m) (Leaf m) tt tt (leaf_unread (tree_of n) m)))
            | inr e ↦ kept.clean i (omega (arith, e.1))
          ];
        }

    after_choice : (o : Option ℕ) → IsLowest s 0 n o → IsReady (net_over effect n) (rank_in (tree_of n)) (suc k) (run_all (net_over effect n) s (leaf_jobs o))
    after_choice None low = none_left low
    after_choice (Some m) low =
        let up : k ≤ m = lowest_rises k m h low.2 in
        ready_fewer (net_over effect n) (rank_in (tree_of n)) (run_if_pending (net_over effect n) s (code_of (Leaf m))) (suc k) (suc m) (omega arith) (one_more m low)

    -- the lowest Pending leaf run, one more leaf is ready
    pub leaf_raises : IsReady (net_over effect n) (rank_in (tree_of n)) (suc k) (run_all (net_over effect n) s (chosen n s))
    leaf_raises = after_choice (lowest_pending s 0 n) (lowest_is s 0 n n (omega arith))

-- ---- rounds

module _ (effect : ℕ → List Mark → List Mark) (n : ℕ) where
  pub round_alone : (s : State) → IsAlone (net_over effect n) s → IsAlone (net_over effect n) (round (net_over effect n) n s)
  round_alone s a =
      all_alone (net_over effect n) (is_net effect n) (chosen n (sweep (net_over effect n) n s)) (sweep (net_over effect n) n s) (sweep_alone effect n s a)

  -- a round leaves one more leaf ready: Clean, and so from then on
  pub round_raises : (s : State) (k : ℕ) → IsAlone (net_over effect n) s → IsReady (net_over effect n) (rank_in (tree_of n)) k s
      → IsReady (net_over effect n) (rank_in (tree_of n)) (suc k) (round (net_over effect n) n s)
  round_raises s k a h =
      leaf_raises effect n (sweep (net_over effect n) n s) (sweep_alone effect n s a) (sweep_settles_inner effect n s a) k (sweep_ready effect n s a k h)

  pub rounds_alone : (r : ℕ) (s : State) → IsAlone (net_over effect n) s → IsAlone (net_over effect n) (rounds (net_over effect n) n r s)
  rounds_alone zero s a = a
  rounds_alone (suc r) s a = rounds_alone r (round (net_over effect n) n s) (round_alone s a)

  pub rounds_raise : (r k end : ℕ) (s : State) → k + r ≡ end → IsAlone (net_over effect n) s → IsReady (net_over effect n) (rank_in (tree_of n)) k s
      → IsReady (net_over effect n) (rank_in (tree_of n)) end (rounds (net_over effect n) n r s)
  rounds_raise zero k end s e a h = subst (λ j. IsReady (net_over effect n) (rank_in (tree_of n)) j s) (omega arith) h
  rounds_raise (suc r) k end s e a h = rounds_raise r (suc k) end (round (net_over effect n) n s) (omega arith) (round_alone s a) (round_raises s k a h)

  -- a sweep of a state whose leaves are all ready settles it
  pub last_sweep : (s : State) → IsAlone (net_over effect n) s → IsReady (net_over effect n) (rank_in (tree_of n)) n s → IsSettled (sweep (net_over effect n) n s)
  last_sweep s a h =
      swept_settled effect n (sweep (net_over effect n) n s) (sweep_alone effect n s a) (sweep_settles_inner effect n s a) (sweep_ready effect n s a n h).clean

  -- as many rounds as leaves and a last sweep settle a circuit
  pub rounds_settle : (s : State) → IsAlone (net_over effect n) s → IsSettled (settled_alone (net_over effect n) n s)
  rounds_settle s a =
      last_sweep (rounds (net_over effect n) n n s) (rounds_alone n s a) (rounds_raise n 0 n s (omega arith) a (ready_none (net_over effect n) (rank_in (tree_of n)) s))
