-- Where each job of a tree is done, its cells are what serial running gives.
use Rattle.std.proofs.Common.{◌≡◌, ℕ, zero, suc, ◌+◌, ◌-◌, ◌*◌, ◌<◌, inl, inr, List, [], refl, sym, ap, ◌∙◌, subst, arith, add-one, add-zero}
use Rattle.lt_model.specs.declared.mark.Mark.{Mark}
use Rattle.lt_model.specs.Marks.{AreMarks, and_then}
use Rattle.lt_delta.proofs.Composes.{associative}
use Rattle.lt_delta.proofs.Merges.{after_none}
use Rattle.lt_model.proofs.Composition.{AreMarks-and_then}
use Rattle.lt_net.specs.Net.{Cell, Correction, Effect}
use Rattle.lt_net.proofs.Shape.{lt_tells, node_left, node_right}
use Rattle.lt_net.specs.Tree.{Tree, Tip, Fork, leaves, node_of, before, then_all}

-- ---- the marks of several, one after another

-- the first j, and then so many more
then_more : (g : ℕ → List Mark) (a : List Mark) (j k : ℕ) → then_all g a (j + k) ≡ then_all (λ i. g (j + i)) (then_all g a j) k
then_more g a j zero = ap (then_all g a) (add-zero j)
then_more g a j (suc k) =
    let next : j + suc k ≡ suc (j + k) = omega arith in
    ap (then_all g a) next ∙ ap (λ c. and_then c (g (j + k))) (then_more g a j k)

all_marks : (g : ℕ → List Mark) → ((i : ℕ) → AreMarks (g i)) → (k : ℕ) → AreMarks (then_all g [] k)
all_marks g marks zero = tt
all_marks g marks (suc k) = AreMarks-and_then (then_all g [] k) (g k) (all_marks g marks k)

-- begun with some marks they are these, and then begun with none
pub then_from : (g : ℕ → List Mark) (a : List Mark) → AreMarks a → ((i : ℕ) → AreMarks (g i)) → (k : ℕ) → then_all g a k ≡ and_then a (then_all g [] k)
then_from g a up marks zero = refl
then_from g a up marks (suc k) =
    ap (λ c. and_then c (g k)) (then_from g a up marks k) ∙ associative a (then_all g [] k) (g k) up (all_marks g marks k)

same_all : (g h : ℕ → List Mark) (a : List Mark) (k : ℕ) → ((i : ℕ) → i < k → g i ≡ h i) → then_all g a k ≡ then_all h a k
same_all g h a zero e = refl
same_all g h a (suc k) e =
    let p : then_all g a k ≡ then_all h a k = same_all g h a k (λ i lt. e i (omega arith)) in
    let q : g k ≡ h k = e k (omega arith) in
    rw (p, q)

module _ (effect : ℕ → List Mark → List Mark) (start : List Mark) (f : Cell → List Mark) where
  -- the Merge and the Correct of inner node v, whose children are left and right, are done
  pub record IsInnerDone (v left right : ℕ) : Type 0 where
    pub merged : f (Effect v) ≡ and_then (f (Effect left)) (f (Effect right))
    pub to_left : f (Correction left) ≡ f (Correction v)
    pub to_right : f (Correction right) ≡ and_then (f (Correction v)) (f (Effect left))

  -- the jobs of the tree whose root is node v and whose first leaf is i are done
  abbrev pub AreDone : Tree → ℕ → ℕ → Type 0
  AreDone Tip v i = f (Effect v) ≡ effect i (f (Correction v))
  AreDone (Fork l r) v i =
      IsInnerDone v (v + 1) (v + 2 * leaves l) × AreDone l (v + 1) i × AreDone r (v + 2 * leaves l) (i + leaves l)

  module _ (l r : Tree) (v i : ℕ) (d : AreDone (Fork l r) v i) where
    -- what the left part passes on is the right part's correction
    passed_on : and_then (f (Correction (v + 1))) (f (Effect (v + 1))) ≡ before effect start (i + leaves l) → f (Correction (v + 2 * leaves l)) ≡ before effect start (i + leaves l)
    passed_on e = d.0.to_right ∙ ap (λ c. and_then c (f (Effect (v + 1)))) (sym d.0.to_left) ∙ e

  -- a tree passes on its correction and its effect
  pub solved : ((x : Cell) → AreMarks (f x)) → (t : Tree) (v i : ℕ) → AreDone t v i → f (Correction v) ≡ before effect start i → and_then (f (Correction v)) (f (Effect v)) ≡ before effect start (i + leaves t)
  solved marks Tip v i d h = rw (add-one, d, h)
  solved marks (Fork l r) v i d h =
      let right = passed_on l r v i d (solved marks l (v + 1) i d.1 (d.0.to_left ∙ h)) in
      let last = solved marks r (v + 2 * leaves l) (i + leaves l) d.2 right in
      let place : i + leaves l + leaves r ≡ i + (leaves l + leaves r) = omega arith in
      ap (and_then (f (Correction v))) d.0.merged
      ∙ sym (associative (f (Correction v)) (f (Effect (v + 1))) (f (Effect (v + 2 * leaves l))) (marks (Correction v)) (marks (Effect (v + 1))))
      ∙ ap (λ c. and_then c (f (Effect (v + 2 * leaves l)))) (sym d.0.to_right)
      ∙ last ∙ ap (before effect start) place

  -- a tree's root has the effects of all its leaves, one after another
  pub merged : ((x : Cell) → AreMarks (f x)) → (t : Tree) (v i : ℕ) → AreDone t v i → f (Effect v) ≡ then_all (λ k. f (Effect (v + node_of t k))) [] (leaves t)
  merged marks Tip v i d = sym (after_none (f (Effect v)) (marks (Effect v))) ∙ ap (λ n. and_then [] (f (Effect n))) (sym (add-zero v))
  merged marks (Fork l r) v i d =
      let g : ℕ → List Mark = λ k. f (Effect (v + node_of (Fork l r) k)) in
      let up : (k : ℕ) → AreMarks (g k) = λ k. marks (Effect (v + node_of (Fork l r) k)) in
      let left : then_all (λ k. f (Effect (v + 1 + node_of l k))) [] (leaves l) ≡ then_all g [] (leaves l) =
      same_all (λ k. f (Effect (v + 1 + node_of l k))) g [] (leaves l) (λ k h.
      let p : v + 1 + node_of l k ≡ v + node_of (Fork l r) k = omega (arith, node_left l r k h) in ap (λ n. f (Effect n)) p) in
      let right : then_all (λ k. f (Effect (v + 2 * leaves l + node_of r k))) [] (leaves r) ≡ then_all (λ k. g (leaves l + k)) [] (leaves r) =
      same_all (λ k. f (Effect (v + 2 * leaves l + node_of r k))) (λ k. g (leaves l + k)) [] (leaves r) (λ k h.
      let swap : leaves l + k ≡ k + leaves l = omega arith in
      let p : v + 2 * leaves l + node_of r k ≡ v + node_of (Fork l r) (k + leaves l) = omega (arith, node_right l r k) in
      ap (λ n. f (Effect n)) p ∙ ap g (sym swap)) in
      d.0.merged
      ∙ ap (λ a. and_then a (f (Effect (v + 2 * leaves l)))) (merged marks l (v + 1) i d.1 ∙ left)
      ∙ ap (and_then (then_all g [] (leaves l))) (merged marks r (v + 2 * leaves l) (i + leaves l) d.2 ∙ right)
      ∙ sym (then_from (λ k. g (leaves l + k)) (then_all g [] (leaves l)) (all_marks g up (leaves l)) (λ k. up (leaves l + k)) (leaves r))
      ∙ sym (then_more g [] (leaves l) (leaves r))

  -- at this node leaf i has the correction of serial running, and its effect there
  pub record IsSerial (node i : ℕ) : Type 0 where
    pub corrected : f (Correction node) ≡ before effect start i
    pub did : f (Effect node) ≡ effect i (before effect start i)

  pub leaf_solved : ((x : Cell) → AreMarks (f x)) → (t : Tree) (v i : ℕ) → AreDone t v i → f (Correction v) ≡ before effect start i → (k : ℕ) → k < leaves t → IsSerial (v + node_of t k) (i + k)
  leaf_solved marks Tip v i d h k lt =
      let p : v ≡ v + 0 = omega arith in
      let q : i ≡ i + k = omega arith in
      subst (λ n. IsSerial n (i + k)) p (subst (IsSerial v) q (record { corrected = h; did = d ∙ ap (effect i) h }))
  leaf_solved marks (Fork l r) v i d h k lt = elim (lt_tells k (leaves l)) [
    | inl g ↦
        let p : v + 1 + node_of l k ≡ v + node_of (Fork l r) k = omega (arith, node_left l r k g.1) in
        subst (λ n. IsSerial n (i + k)) p (leaf_solved marks l (v + 1) i d.1 (d.0.to_left ∙ h) k g.1)
    | inr g ↦
        let back : k - leaves l + leaves l ≡ k = omega (arith, g.1) in
        let below : k - leaves l < leaves r = omega (arith, g.1) in
        let there : node_of (Fork l r) k ≡ node_of r (k - leaves l) + 2 * leaves l = sym (ap (node_of (Fork l r)) back) ∙ node_right l r (k - leaves l) in
        let p : v + 2 * leaves l + node_of r (k - leaves l) ≡ v + node_of (Fork l r) k = omega (arith, there) in
        let q : i + leaves l + (k - leaves l) ≡ i + k = omega (arith, g.1) in
        let right = passed_on l r v i d (solved marks l (v + 1) i d.1 (d.0.to_left ∙ h)) in
        subst (λ n. IsSerial n (i + k)) p (subst (IsSerial (v + 2 * leaves l + node_of r (k - leaves l))) q
        (leaf_solved marks r (v + 2 * leaves l) (i + leaves l) d.2 right (k - leaves l) below))
  ]
