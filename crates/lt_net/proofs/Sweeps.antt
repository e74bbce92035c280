-- A sweep: after the Merges bottom up and the Corrects top down all inner jobs are Clean.
use Rattle.std.proofs.Common.{◌≡◌, ℕ, zero, suc, ◌+◌, ◌<◌, ◌≤◌, ◌≢◌, ◌||◌, inl, inr, Bool, true, false, List, [], ◌∷◌, Option, Some, None, refl, sym, ap, ◌∙◌, subst, arith}
use Rattle.std.specs.Prelude.{◌==◌}
use Rattle.std.proofs.lemmas.Bool.Decides.{eqb_tells}
use Rattle.lt_model.specs.declared.mark.Mark.{Mark}
use Rattle.lt_net.specs.declared.job.JobName.{JobName}
use Rattle.lt_net.specs.declared.job.JobName.TheVariants.{Merge, Correct}
use Rattle.lt_net.specs.declared.job.JobState.TheVariants.{Clean}
use Rattle.lt_net.specs.Net.{Cell, Correction, Effect, Net, State, has_cell}
use Rattle.lt_net.specs.Tree.{Tree, leaves, right_of, right_in, if_inner, inputs_of, outputs_of, circuit_net, tree_of, halved_tree}
use Rattle.lt_net.specs.Codes.{code_of, nodes_over, IsOfTree}
use Rattle.lt_net.specs.Alone.{IsAlone, IsSwept, net_over, run_if_pending, run_all, merges_down, corrects_up, sweep_jobs, sweep}
use Rattle.lt_net.proofs.Kept.{IsNet}
use Rattle.lt_net.proofs.Shape.{lt_tells, eq_false, right_is, tree_leaves}
use Rattle.lt_net.proofs.Codes.{job_of-code}
use Rattle.lt_net.proofs.Jobs.{circuit_is_net}
use Rattle.lt_net.proofs.Jobs.{has_two}
use Rattle.lt_net.proofs.Runs.{IsUnread, run_alone, run_clean, run_keeps, run_append, all_alone}
use Rattle.lt_net.proofs.Ranks.{IsRanked, IsReady, run_ready, circuit_is_ranked}
use Rattle.lt_net.proofs.Spans.{rank_in}

-- ---- which job reads what another writes

-- what job b writes isn't read by job a, by their names
abbrev IsApart : Option Tree → (b a : JobName) → Type 0
IsApart t b a = (x : Cell) → has_cell x (inputs_of t a) ≡ true → has_cell x (outputs_of t b) ≡ false

right_after : (t : Option Tree) (v y : ℕ) → right_in t v ≡ Some y → v + 1 < y
right_after None v y e = cc
right_after (Some t) v y e = (right_is t v y e).after

or_false : (a b : Bool) → a ≡ false → b ≡ false → (a || b) ≡ false
or_false true b e f = cc
or_false false b e f = f

-- where the first cell isn't one of the cells
effect_apart : (u v : ℕ) (x : Cell) → x ≡ Effect u → u ≢ v → has_cell x (Effect v ∷ []) ≡ false
effect_apart u v x e ne = ap (λ c. has_cell c (Effect v ∷ [])) e ∙ or_false (u == v) false (eq_false u v ne) refl

pub merge_apart : (t : Option Tree) (v w : ℕ) → w ≤ v → IsApart t (Merge w) (Merge v)
merge_apart t v w le x e = by_case (right_in t v) (right_in t w) refl e
  where
    by_case : (o p : Option ℕ) → right_in t v ≡ o → has_cell x (if_inner o (λ right. Effect (v + 1) ∷ Effect right ∷ [])) ≡ true
        → has_cell x (if_inner p (λ right. Effect w ∷ [])) ≡ false
    by_case None p q h = cc
    by_case (Some y) None q h = refl
    by_case (Some y) (Some z) q h = elim (has_two x (Effect (v + 1)) (Effect y) h) [
      | inl k ↦ effect_apart (v + 1) w x k (λ f. omega (arith, f))
      | inr k ↦ effect_apart y w x k (λ f. let a = right_after t v y q in omega (arith, f, a))
    ]

pub correct_apart_merge : (t : Option Tree) (v w : ℕ) → IsApart t (Correct w) (Merge v)
correct_apart_merge t v w x e = by_case (right_in t v) (right_in t w) e
  where
    two_corrections : (u : ℕ) (z : ℕ) → x ≡ Effect u → has_cell x (Correction (w + 1) ∷ Correction z ∷ []) ≡ false
    two_corrections u z k = ap (λ c. has_cell c (Correction (w + 1) ∷ Correction z ∷ [])) k

    by_case : (o p : Option ℕ) → has_cell x (if_inner o (λ right. Effect (v + 1) ∷ Effect right ∷ [])) ≡ true
        → has_cell x (if_inner p (λ right. Correction (w + 1) ∷ Correction right ∷ [])) ≡ false
    by_case None p h = cc
    by_case (Some y) None h = refl
    by_case (Some y) (Some z) h = elim (has_two x (Effect (v + 1)) (Effect y) h) [
      | inl k ↦ two_corrections (v + 1) z k
      | inr k ↦ two_corrections y z k
    ]

pub correct_apart : (t : Option Tree) (v w : ℕ) → v ≤ w → IsApart t (Correct w) (Correct v)
correct_apart t v w le x e = by_case (right_in t v) (right_in t w) refl e
  where
    by_case : (o p : Option ℕ) → right_in t w ≡ p → has_cell x (if_inner o (λ right. Correction v ∷ Effect (v + 1) ∷ [])) ≡ true
        → has_cell x (if_inner p (λ right. Correction (w + 1) ∷ Correction right ∷ [])) ≡ false
    by_case None p q h = cc
    by_case (Some y) None q h = refl
    by_case (Some y) (Some z) q h = elim (has_two x (Correction v) (Effect (v + 1)) h) [
      | inl k ↦
          let a : (v == w + 1) ≡ false = eq_false v (w + 1) (λ f. omega (arith, f)) in
          let b : (v == z) ≡ false = eq_false v z (λ f. let r = right_after t w z q in omega (arith, f, r)) in
          ap (λ c. has_cell c (Correction (w + 1) ∷ Correction z ∷ [])) k ∙ or_false (v == w + 1) ((v == z) || false) a (or_false (v == z) false b refl)
      | inr k ↦ ap (λ c. has_cell c (Correction (w + 1) ∷ Correction z ∷ [])) k
    ]

module _ (effect : ℕ → List Mark → List Mark) (t : Option Tree) where
  pub unread_from : (b a : JobName) → IsOfTree b → IsOfTree a → IsApart t b a → IsUnread (circuit_net effect t) (code_of b) (code_of a)
  unread_from b a first second h x e =
      let e' : has_cell x (inputs_of t a) ≡ true = subst (λ n. has_cell x (inputs_of t n) ≡ true) (job_of-code a second) e in
      subst (λ n. has_cell x (outputs_of t n) ≡ false) (sym (job_of-code b first)) (h x e')

-- behind the last node there is no inner one
pub inner_none : (n v : ℕ) → nodes_over n ≤ v → right_in (tree_of n) v ≡ None
inner_none zero v h = refl
inner_none (suc n) v h = by_case (right_of (halved_tree (suc n)) v) refl
  where
    by_case : (o : Option ℕ) → right_of (halved_tree (suc n)) v ≡ o → right_of (halved_tree (suc n)) v ≡ None
    by_case None e = e
    by_case (Some y) e = absurd (
        let r = right_is (halved_tree (suc n)) v y e in
        let l : leaves (halved_tree (suc n)) ≡ suc n = tree_leaves (suc n) (omega arith) in
        omega (arith, r.after, r.inside, l, h))

-- ---- one job of a sweep after another

-- the Merges of the nodes from v on are Clean
abbrev pub MergesClean : State → ℕ → Type 0
MergesClean s v = (w : ℕ) → v ≤ w → s.status (code_of (Merge w)) ≡ Clean

-- the Corrects of the nodes below v are Clean
abbrev pub CorrectsClean : State → ℕ → Type 0
CorrectsClean s v = (w : ℕ) → w < v → s.status (code_of (Correct w)) ≡ Clean

pub is_net : (effect : ℕ → List Mark → List Mark) (n : ℕ) → IsNet (net_over effect n)
is_net effect n = circuit_is_net effect (tree_of n)

pub is_ranked : (effect : ℕ → List Mark → List Mark) (n : ℕ) → IsRanked (net_over effect n) (rank_in (tree_of n))
is_ranked effect n = circuit_is_ranked effect (tree_of n)

module _ (effect : ℕ → List Mark → List Mark) (n : ℕ) (s : State) (a : IsAlone (net_over effect n) s) where
  -- without children a node's jobs are Clean
  pub merge_idle : (v : ℕ) → right_in (tree_of n) v ≡ None → s.status (code_of (Merge v)) ≡ Clean
  merge_idle v e =
      let none : inputs_of (tree_of n) (Merge v) ≡ [] = ap (λ o. if_inner o (λ right. Effect (v + 1) ∷ Effect right ∷ [])) e in
      a.kept.idle (code_of (Merge v)) (ap (inputs_of (tree_of n)) (job_of-code (Merge v) tt) ∙ none)

  pub correct_idle : (v : ℕ) → right_in (tree_of n) v ≡ None → s.status (code_of (Correct v)) ≡ Clean
  correct_idle v e =
      let none : inputs_of (tree_of n) (Correct v) ≡ [] = ap (λ o. if_inner o (λ right. Correction v ∷ Effect (v + 1) ∷ [])) e in
      a.kept.idle (code_of (Correct v)) (ap (inputs_of (tree_of n)) (job_of-code (Correct v) tt) ∙ none)

  pub merges_start : MergesClean s (nodes_over n)
  merges_start w h = merge_idle w (inner_none n w h)

  pub merge_step : (v : ℕ) → MergesClean s (suc v) → MergesClean (run_if_pending (net_over effect n) s (code_of (Merge v))) v
  merge_step v h w le = elim (eqb_tells w v) [
    | inl e ↦
        subst (λ u. (run_if_pending (net_over effect n) s (code_of (Merge v))).status (code_of (Merge u)) ≡ Clean) (sym e.1)
        (run_clean (net_over effect n) (is_net effect n) s a (code_of (Merge v))
        (unread_from effect (tree_of n) (Merge v) (Merge v) tt tt (merge_apart (tree_of n) v v (omega arith))))
    | inr e ↦
        run_keeps (net_over effect n) (is_net effect n) s a (code_of (Merge v)) (code_of (Merge w))
        (unread_from effect (tree_of n) (Merge v) (Merge w) tt tt (merge_apart (tree_of n) w v le)) (h w (omega (arith, e.1)))
  ]

  pub correct_keeps : (v : ℕ) → MergesClean s 0 → MergesClean (run_if_pending (net_over effect n) s (code_of (Correct v))) 0
  correct_keeps v h w le =
      run_keeps (net_over effect n) (is_net effect n) s a (code_of (Correct v)) (code_of (Merge w))
      (unread_from effect (tree_of n) (Correct v) (Merge w) tt tt (correct_apart_merge (tree_of n) w v)) (h w le)

  pub correct_step : (v : ℕ) → CorrectsClean s v → CorrectsClean (run_if_pending (net_over effect n) s (code_of (Correct v))) (suc v)
  correct_step v h w lt = elim (eqb_tells w v) [
    | inl e ↦
        subst (λ u. (run_if_pending (net_over effect n) s (code_of (Correct v))).status (code_of (Correct u)) ≡ Clean) (sym e.1)
        (run_clean (net_over effect n) (is_net effect n) s a (code_of (Correct v))
        (unread_from effect (tree_of n) (Correct v) (Correct v) tt tt (correct_apart (tree_of n) v v (omega arith))))
    | inr e ↦
        run_keeps (net_over effect n) (is_net effect n) s a (code_of (Correct v)) (code_of (Correct w))
        (unread_from effect (tree_of n) (Correct v) (Correct w) tt tt (correct_apart (tree_of n) w v (omega (arith, e.1)))) (h w (omega (arith, e.1)))
  ]

  pub swept_from : MergesClean s 0 → CorrectsClean s (nodes_over n) → IsSwept s
  swept_from m c = record {
    merges = λ v. m v (omega arith);
    corrects = λ v. by_case v;
  }
    where
      by_case : (v : ℕ) → s.status (code_of (Correct v)) ≡ Clean
      by_case v = elim (lt_tells v (nodes_over n)) [ inl h ↦ c v h.1 | inr h ↦ correct_idle v (inner_none n v h.1) ]

-- ---- the whole sweep

-- what holds of a ready state holds after any jobs
pub all_ready : (net : Net) (n : IsNet net) (ranks : Cell → ℕ) (r : IsRanked net ranks) (k : ℕ) (jobs : List ℕ) (s : State) → IsAlone net s
    → IsReady net ranks k s → IsReady net ranks k (run_all net s jobs)
all_ready net n ranks r k [] s a h = h
all_ready net n ranks r k (j ∷ jobs) s a h =
    all_ready net n ranks r k jobs (run_if_pending net s j) (run_alone net n s a j) (run_ready net n ranks r s a k j h)

module _ (effect : ℕ → List Mark → List Mark) (n : ℕ) where
  merges_all : (k : ℕ) (s : State) → IsAlone (net_over effect n) s → MergesClean s k → MergesClean (run_all (net_over effect n) s (merges_down k)) 0
  merges_all zero s a h = h
  merges_all (suc k) s a h =
      merges_all k (run_if_pending (net_over effect n) s (code_of (Merge k))) (run_alone (net_over effect n) (is_net effect n) s a (code_of (Merge k)))
      (merge_step effect n s a k h)

  corrects_all : (count v end : ℕ) (s : State) → v + count ≡ end → IsAlone (net_over effect n) s → MergesClean s 0 → CorrectsClean s v
      → MergesClean (run_all (net_over effect n) s (corrects_up v count)) 0 × CorrectsClean (run_all (net_over effect n) s (corrects_up v count)) end
  corrects_all zero v end s e a m h = (m, subst (CorrectsClean s) (omega arith) h)
  corrects_all (suc count) v end s e a m h =
      corrects_all count (suc v) end (run_if_pending (net_over effect n) s (code_of (Correct v))) (omega arith)
      (run_alone (net_over effect n) (is_net effect n) s a (code_of (Correct v)))
      (correct_keeps effect n s a v m) (correct_step effect n s a v h)

  module _ (s : State) (a : IsAlone (net_over effect n) s) where
    pub sweep_is : sweep (net_over effect n) n s ≡ run_all (net_over effect n) (run_all (net_over effect n) s (merges_down (nodes_over n))) (corrects_up 0 (nodes_over n))
    sweep_is = run_append (net_over effect n) (merges_down (nodes_over n)) (corrects_up 0 (nodes_over n)) s

    pub sweep_alone : IsAlone (net_over effect n) (sweep (net_over effect n) n s)
    sweep_alone = all_alone (net_over effect n) (is_net effect n) (sweep_jobs n) s a

    pub sweep_ready : (k : ℕ) → IsReady (net_over effect n) (rank_in (tree_of n)) k s → IsReady (net_over effect n) (rank_in (tree_of n)) k (sweep (net_over effect n) n s)
    sweep_ready k = all_ready (net_over effect n) (is_net effect n) (rank_in (tree_of n)) (is_ranked effect n) k (sweep_jobs n) s a

    -- after a sweep only leaves may be Pending
    pub sweep_settles_inner : IsSwept (sweep (net_over effect n) n s)
    sweep_settles_inner =
        let merged = run_all (net_over effect n) s (merges_down (nodes_over n)) in
        let m : MergesClean merged 0 = merges_all (nodes_over n) s a (merges_start effect n s a) in
        let b : IsAlone (net_over effect n) merged = all_alone (net_over effect n) (is_net effect n) (merges_down (nodes_over n)) s a in
        let c = corrects_all (nodes_over n) 0 (nodes_over n) merged (omega arith) b m (λ w lt. absurd (omega arith)) in
        swept_from effect n (sweep (net_over effect n) n s) sweep_alone
        (subst (λ t. MergesClean t 0) (sym sweep_is) c.0) (subst (λ t. CorrectsClean t (nodes_over n)) (sym sweep_is) c.1)
