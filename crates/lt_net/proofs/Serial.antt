-- A settled circuit is what serial running gives.
use Rattle.std.proofs.Common.{◌≡◌, ℕ, zero, suc, ◌+◌, ◌*◌, ◌<◌, ◌≤◌, Bool, true, false, List, [], ◌∷◌, Option, Some, None, refl, sym, ap, ◌∙◌, subst, arith, add-zero, zero-add}
use Rattle.std.specs.Prelude.{if◌then◌else◌, nat_lt}
use Rattle.std.specs.Option.{option_map}
use Rattle.lt_model.specs.declared.mark.Mark.{Mark}
use Rattle.lt_model.specs.Marks.{AreMarks, and_then}
use Rattle.lt_net.specs.declared.job.JobName.{JobName}
use Rattle.lt_net.specs.declared.job.JobName.TheVariants.{Leaf, Merge, Correct, Pass}
use Rattle.lt_net.specs.Net.{Cell, Correction, Effect, State, Event, same_cell, has_cell, read, first_of, replay, opening, IsSettled}
use Rattle.lt_net.specs.Tree.{Tree, Tip, Fork, leaves, right_of, node_of, right_in, node_in, leaves_in, if_inner, inputs_of, outputs_of, gives_of, is_leaf_job, circuit_net, before, then_all, leaf_value, IsSerial, GiveMarks, halved, tree_of}
use Rattle.lt_net.specs.Codes.{code_of, job_of, IsOfTree}
use Rattle.lt_net.specs.Kept.{IsDone, IsKept, IsBare}
use Rattle.lt_net.proofs.Kept.{replay_kept, opening_kept, reached_bare}
use Rattle.lt_net.proofs.Fitting.{marks_of}
use Rattle.lt_net.proofs.Shape.{lt_true, lt_false, eq_false, right_is, right_left, right_right, node_left, node_right, some_leaf, halved_leaves}
use Rattle.lt_net.specs.Line.{IsSerialFrom}
use Rattle.lt_net.proofs.Solve.{IsInnerDone, AreDone, solved, leaf_solved, merged}
use Rattle.lt_net.proofs.Solve as S
use Rattle.lt_net.proofs.Codes.{job_of-code}
use Rattle.lt_net.proofs.Jobs.{circuit_is_net, same_itself}

module _ (effect : ℕ → List Mark → List Mark) (start : List Mark) (t : Tree) (s : State) (done : (j : ℕ) → IsDone (circuit_net effect (Some t)) s j) where
  -- what a job that is done gave, by the job's name
  gave : (name : JobName) → IsOfTree name → (x : Cell) → has_cell x (outputs_of (Some t) name) ≡ true
      → s.value x ≡ gives_of effect name (read s.value (inputs_of (Some t) name)) x
  gave name own = subst (λ n. (x : Cell) → has_cell x (outputs_of (Some t) n) ≡ true → s.value x ≡ gives_of effect n (read s.value (inputs_of (Some t) n)) x)
      (job_of-code name own) (done (code_of name)).gave

  leaf_gave : (i : ℕ) → i < leaves t → s.value (Effect (node_of t i)) ≡ effect i (s.value (Correction (node_of t i)))
  leaf_gave i h =
      let here : has_cell (Effect (node_of t i)) (outputs_of (Some t) (Leaf i)) ≡ true = rw (lt_true i (leaves t) h, same_itself (Effect (node_of t i))) in
      rw (lt_true i (leaves t) h) at (gave (Leaf i) tt (Effect (node_of t i)) here)

  inner_gave : (v y : ℕ) → right_of t v ≡ Some y → IsInnerDone effect start s.value v (v + 1) y
  inner_gave v y e =
      let merge = rw e at (gave (Merge v) tt) in
      let correct = rw e at (gave (Correct v) tt) in
      let itself : same_cell (Correction (v + 1)) (Correction (v + 1)) ≡ true = same_itself (Correction (v + 1)) in
      let right : same_cell (Correction y) (Correction y) ≡ true = same_itself (Correction y) in
      let other : same_cell (Correction y) (Correction (v + 1)) ≡ false = eq_false y (v + 1) (omega (arith, (right_is t v y e).after)) in
      record {
        merged = merge (Effect v) (rw (same_itself (Effect v)));
        to_left = rw itself at (correct (Correction (v + 1)) (rw itself));
        to_right = rw other at (correct (Correction y) (rw (other, right)));
      }

  -- the tree `part` sits at node v, with its first leaf at i
  record Sits (part : Tree) (v i : ℕ) : Type 0 where
    rights : (x : ℕ) → x + 1 < 2 * leaves part → right_of t (x + v) ≡ option_map (λ y. y + v) (right_of part x)
    nodes : (k : ℕ) → k < leaves part → node_of t (k + i) ≡ node_of part k + v
    inside : i + leaves part ≤ leaves t

  moved : (o : Option ℕ) (a v : ℕ) → option_map (λ y. y + v) (option_map (λ y. y + a) o) ≡ option_map (λ y. y + (v + a)) o
  moved None a v = refl
  moved (Some y) a v = let p : y + a + v ≡ y + (v + a) = omega arith in ap Some p

  module _ (l r : Tree) (v i : ℕ) (h : Sits (Fork l r) v i) where
    sits_left : Sits l (v + 1) i
    sits_left = record {
      rights = λ x k.
          let p : x + (v + 1) ≡ x + 1 + v = omega arith in
          ap (right_of t) p ∙ h.rights (x + 1) (omega (arith, some_leaf r)) ∙ ap (option_map (λ y. y + v)) (right_left l r x k) ∙ moved (right_of l x) 1 v;
      nodes = λ k lt.
          let p : node_of l k + 1 + v ≡ node_of l k + (v + 1) = omega arith in
          h.nodes k (omega arith) ∙ ap (λ n. n + v) (node_left l r k lt) ∙ p;
      inside = omega (arith, h.inside);
    }

    sits_right : Sits r (v + 2 * leaves l) (i + leaves l)
    sits_right = record {
      rights = λ x k.
          let p : x + (v + 2 * leaves l) ≡ x + 2 * leaves l + v = omega arith in
          ap (right_of t) p ∙ h.rights (x + 2 * leaves l) (omega arith) ∙ ap (option_map (λ y. y + v)) (right_right l r x) ∙ moved (right_of r x) (2 * leaves l) v;
      nodes = λ k lt.
          let p : k + (i + leaves l) ≡ k + leaves l + i = omega arith in
          let q : node_of r k + 2 * leaves l + v ≡ node_of r k + (v + 2 * leaves l) = omega arith in
          ap (node_of t) p ∙ h.nodes (k + leaves l) (omega arith) ∙ ap (λ n. n + v) (node_right l r k) ∙ q;
      inside = omega (arith, h.inside);
    }

  all_done : (part : Tree) (v i : ℕ) → Sits part v i → AreDone effect start s.value part v i
  all_done Tip v i h =
      let p : node_of t i ≡ v = ap (node_of t) (sym (zero-add i)) ∙ h.nodes 0 (omega arith) ∙ zero-add v in
      subst (λ n. s.value (Effect n) ≡ effect i (s.value (Correction n))) p (leaf_gave i (omega (arith, h.inside)))
  all_done (Fork l r) v i h =
      let q : 2 * leaves l + v ≡ v + 2 * leaves l = omega arith in
      let p : right_of t v ≡ Some (v + 2 * leaves l) = ap (right_of t) (sym (zero-add v)) ∙ h.rights 0 (omega (arith, some_leaf l, some_leaf r)) ∙ ap Some q in
      (inner_gave v (v + 2 * leaves l) p, all_done l (v + 1) i (sits_left l r v i h), all_done r (v + 2 * leaves l) (i + leaves l) (sits_right l r v i h))

  nothing_moved : (o : Option ℕ) → o ≡ option_map (λ y. y + 0) o
  nothing_moved None = refl
  nothing_moved (Some y) = ap Some (sym (add-zero y))

  whole_sits : Sits t 0 0
  whole_sits = record {
    rights = λ x k. ap (right_of t) (add-zero x) ∙ nothing_moved (right_of t x);
    nodes = λ k lt. ap (node_of t) (add-zero k) ∙ sym (add-zero (node_of t k));
    inside = omega arith;
  }

  -- the root's correction is no job's output
  leaf_last : (i : ℕ) → i < leaves t → s.done (code_of (Leaf i)) ≡ Some (s.value (Correction (node_of t i)))
  leaf_last i h =
      let last = subst (λ n. is_leaf_job (Some t) n ≡ true → s.done (code_of (Leaf i)) ≡ Some (first_of (read s.value (inputs_of (Some t) n))))
      (job_of-code (Leaf i) tt) (done (code_of (Leaf i))).last in
      rw (lt_true i (leaves t) h) at (last (lt_true i (leaves t) h))

  module _ (marks : (x : Cell) → AreMarks (s.value x)) (first : s.value (Correction 0) ≡ start) where
    parts : AreDone effect start s.value t 0 0
    parts = all_done t 0 0 whole_sits

    -- the tree passes on what stood before it and what its root gives
    pub passed_is : and_then start (s.value (Effect 0)) ≡ before effect start (leaves t)
    passed_is = sym (ap (λ c. and_then c (s.value (Effect 0))) first) ∙ solved effect start s.value marks t 0 0 parts first ∙ ap (before effect start) (zero-add (leaves t))

    -- and the root gives the effects of all leaves, one after another
    pub root_is : s.value (Effect 0) ≡ then_all (λ k. s.value (Effect (node_of t k))) [] (leaves t)
    root_is = merged effect start s.value marks t 0 0 parts ∙ ap (λ g. then_all g [] (leaves t)) (λ d k. s.value (Effect (zero-add (node_of t k) d)))

    pub leaf_is_serial : (i : ℕ) → i < leaves t → S.IsSerial effect start s.value (node_of t i) i
    leaf_is_serial i h = subst (λ n. S.IsSerial effect start s.value n i) (zero-add (node_of t i))
        (subst (S.IsSerial effect start s.value (0 + node_of t i)) (zero-add i) (leaf_solved effect start s.value marks t 0 0 parts first i h))

    pub all_before : (i : ℕ) → i ≤ leaves t → then_all (λ k. s.value (Effect (node_of t k))) start i ≡ before effect start i
    all_before zero h = refl
    all_before (suc i) h =
        let p : then_all (λ k. s.value (Effect (node_of t k))) start i ≡ before effect start i = all_before i (omega arith) in
        let q : s.value (Effect (node_of t i)) ≡ effect i (before effect start i) = (leaf_is_serial i (omega arith)).did in
        rw (p, q)

-- ---- the tree over n leaves

-- no job gives the root's correction
pub root_free : (t : Option Tree) (name : JobName) → has_cell (Correction 0) (outputs_of t name) ≡ false
root_free t (Leaf i) = leaf_case (nat_lt i (leaves_in t))
  where
    leaf_case : (b : Bool) → has_cell (Correction 0) (if b then Effect (node_in t i) ∷ [] else []) ≡ false
    leaf_case true = refl
    leaf_case false = refl
root_free t (Merge v) = merge_case (right_in t v)
  where
    merge_case : (o : Option ℕ) → has_cell (Correction 0) (if_inner o (λ right. Effect v ∷ [])) ≡ false
    merge_case None = refl
    merge_case (Some y) = refl
root_free t (Pass s) = refl
root_free None (Correct v) = refl
root_free (Some t) (Correct v) = correct_case (right_of t v) refl
  where
    correct_case : (o : Option ℕ) → right_of t v ≡ o → has_cell (Correction 0) (if_inner o (λ right. Correction (v + 1) ∷ Correction right ∷ [])) ≡ false
    correct_case None e = refl
    correct_case (Some y) e = rw (eq_false 0 (v + 1) (omega arith), eq_false 0 y (omega (arith, (right_is t v y e).after)))

-- without a tree no job gives anything
pub none_free : (name : JobName) (x : Cell) → has_cell x (outputs_of None name) ≡ false
none_free (Leaf i) x = rw (lt_false i 0 (omega arith))
none_free (Merge v) x = refl
none_free (Correct v) x = refl
none_free (Pass s) x = refl

-- a state of a tree with each job done
tree_serial : (effect : ℕ → List Mark → List Mark) (start : List Mark) (n : ℕ) (t : Tree) (s : State) → tree_of n ≡ Some t → leaves t ≡ n
    → ((j : ℕ) → IsDone (circuit_net effect (Some t)) s j) → ((x : Cell) → AreMarks (s.value x)) → s.value (Correction 0) ≡ start
    → IsSerialFrom effect start n s
tree_serial effect start n t s e len done marks first =
    let node : (i : ℕ) → node_in (tree_of n) i ≡ node_of t i = λ i. ap (λ o. node_in o i) e in
    let values : leaf_value n s ≡ (λ k. s.value (Effect (node_of t k))) = λ d k. s.value (Effect (node k d)) in
    let inside : (i : ℕ) → i < n → i < leaves t = λ i h. omega arith in
    let sofar : (i : ℕ) → i ≤ n → then_all (leaf_value n s) start i ≡ before effect start i = λ i h.
    ap (λ f. then_all f start i) values ∙ all_before effect start t s done marks first i (omega arith) in
    record {
      did = λ i h. let l = leaf_is_serial effect start t s done marks first i (inside i h) in
          ap (λ f. f i) values ∙ l.did ∙ ap (effect i) (sym (sofar i (omega arith)));
      stands_for = λ i h. let l = leaf_is_serial effect start t s done marks first i (inside i h) in
          leaf_last effect start t s done i (inside i h) ∙ ap Some (l.corrected ∙ sym (sofar i (omega arith)));
      whole = root_is effect start t s done marks first ∙ ap (then_all (λ k. s.value (Effect (node_of t k))) []) len
          ∙ ap (λ f. then_all f [] n) (sym values);
    }

-- with each job done, whatever correction the root has. Without leaves the root has no effect
pub serial_from : (effect : ℕ → List Mark → List Mark) (start : List Mark) (n : ℕ) (s : State)
    → ((j : ℕ) → IsDone (circuit_net effect (tree_of n)) s j) → ((x : Cell) → AreMarks (s.value x)) → s.value (Correction 0) ≡ start
    → (n ≡ 0 → s.value (Effect 0) ≡ []) → IsSerialFrom effect start n s
serial_from effect start zero s done marks first none = record {
  did = λ i k. absurd (omega arith);
  stands_for = λ i k. absurd (omega arith);
  whole = none refl;
}
serial_from effect start (suc n) s done marks first none =
    let t = halved (suc n) (suc n) in
    tree_serial effect start (suc n) t s refl (halved_leaves (suc n) (suc n) (omega arith) (omega arith)) done marks first

-- no job gives the root's correction, and without leaves none gives the root's effect
pub root_free_of : (effect : ℕ → List Mark → List Mark) (n j : ℕ) → has_cell (Correction 0) ((circuit_net effect (tree_of n)).outputs j) ≡ false
root_free_of effect n j = root_free (tree_of n) (job_of j)

-- a settled state that an opening comes to, with marks at each cell
pub serial_of : (effect : ℕ → List Mark → List Mark) (n : ℕ) (s : State) → IsKept (circuit_net effect (tree_of n)) s → IsBare (circuit_net effect (tree_of n)) s → ((x : Cell) → AreMarks (s.value x)) → IsSettled s
    → IsSerial effect n s
serial_of effect n s kept bare marks settled =
    let none : n ≡ 0 → s.value (Effect 0) ≡ [] = λ e. bare (Effect 0) (λ j. ap (λ k. has_cell (Effect 0) (outputs_of (tree_of k) (job_of j))) e ∙ none_free (job_of j) (Effect 0)) in
    let h = serial_from effect [] n s (λ j. kept.clean j (settled j)) marks (bare (Correction 0) (λ j. root_free (tree_of n) (job_of j))) none in
    record { did = h.did; stands_for = h.stands_for; whole = h.whole }

pub reached_kept : (effect : ℕ → List Mark → List Mark) (n : ℕ) (events : List Event) (s : State)
    → replay (circuit_net effect (tree_of n)) (Some (opening (circuit_net effect (tree_of n)))) events ≡ Some s → IsKept (circuit_net effect (tree_of n)) s
reached_kept effect n events s h =
    let net = circuit_net effect (tree_of n) in
    let is = circuit_is_net effect (tree_of n) in
    replay_kept net is events (opening net) s (opening_kept net is) h

pub settled_serial : (effect : ℕ → List Mark → List Mark) (n : ℕ) (events : List Event) (s : State) → GiveMarks effect n
    → replay (circuit_net effect (tree_of n)) (Some (opening (circuit_net effect (tree_of n)))) events ≡ Some s → IsSettled s → IsSerial effect n s
settled_serial effect n events s give h settled =
    serial_of effect n s (reached_kept effect n events s h) (reached_bare (circuit_net effect (tree_of n)) events s h) (marks_of effect n give events s h) settled

pub reached_root : (effect : ℕ → List Mark → List Mark) (n : ℕ) (events : List Event) (s : State)
    → replay (circuit_net effect (tree_of n)) (Some (opening (circuit_net effect (tree_of n)))) events ≡ Some s → s.value (Correction 0) ≡ []
reached_root effect n events s h = reached_bare (circuit_net effect (tree_of n)) events s h (Correction 0) (root_free_of effect n)
