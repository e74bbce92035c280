-- The tree's numbers, one level down, as the code walks.
use Rattle.std.proofs.Common.{◌≡◌, ℕ, ◌+◌, ◌-◌, ◌*◌, ◌/◌, ◌<◌, ◌≤◌, true, false, Some, sym, ap, ◌∙◌, arith}
use Rattle.std.specs.Prelude.{◌==◌, nat_lt}
use Rattle.std.specs.Option.{option_map}
use Rattle.lt_net.specs.Tree.{Fork, leaves, right_of, node_of, parent_of, leaf_at, halved_tree}
use Rattle.lt_net.proofs.Shape.{lt_true, eq_true, eq_false, tree_split, tree_leaves, right_left, right_right, node_left, node_right, parent_left, parent_right, leaf_right}

-- the two parts of the tree over c leaves, of which the left one has h
module _ (c h : ℕ) (two : 2 ≤ c) (half : h ≡ (c + 1) / 2) where
  pub split_tree : halved_tree c ≡ Fork (halved_tree h) (halved_tree (c - h))
  split_tree =
      let p : c - h ≡ c / 2 = omega arith in
      rw (p, half) (tree_split c two)

  pub left_leaves : leaves (halved_tree h) ≡ h
  left_leaves = tree_leaves h (omega arith)

  pub node_in_left : (i : ℕ) → i < h → node_of (halved_tree c) i ≡ node_of (halved_tree h) i + 1
  node_in_left i k = rw split_tree (node_left (halved_tree h) (halved_tree (c - h)) i (omega (arith, left_leaves)))

  pub node_in_right : (i : ℕ) → h ≤ i → node_of (halved_tree c) i ≡ node_of (halved_tree (c - h)) (i - h) + 2 * h
  node_in_right i k =
      let back : i - h + leaves (halved_tree h) ≡ i = omega (arith, left_leaves) in
      let e = node_right (halved_tree h) (halved_tree (c - h)) (i - h) in
      rw split_tree (ap (node_of (Fork (halved_tree h) (halved_tree (c - h)))) (sym back) ∙ e ∙ ap (λ n. node_of (halved_tree (c - h)) (i - h) + 2 * n) left_leaves)

  pub right_at_root : right_of (halved_tree c) 0 ≡ Some (2 * h)
  right_at_root = ap (λ t. right_of t 0) split_tree ∙ ap (λ n. Some (2 * n)) left_leaves

  pub right_in_left : (x : ℕ) → 0 < x → x < 2 * h → right_of (halved_tree c) x ≡ option_map (λ y. y + 1) (right_of (halved_tree h) (x - 1))
  right_in_left x a b =
      let back : x - 1 + 1 ≡ x = omega arith in
      ap (λ t. right_of t x) split_tree ∙ ap (right_of (Fork (halved_tree h) (halved_tree (c - h)))) (sym back)
      ∙ right_left (halved_tree h) (halved_tree (c - h)) (x - 1) (omega (arith, left_leaves))

  pub right_in_right : (x : ℕ) → 2 * h ≤ x → right_of (halved_tree c) x ≡ option_map (λ y. y + 2 * h) (right_of (halved_tree (c - h)) (x - 2 * h))
  right_in_right x a =
      let back : x - 2 * h + 2 * leaves (halved_tree h) ≡ x = omega (arith, left_leaves) in
      ap (λ t. right_of t x) split_tree ∙ ap (right_of (Fork (halved_tree h) (halved_tree (c - h)))) (sym back)
      ∙ right_right (halved_tree h) (halved_tree (c - h)) (x - 2 * h)
      ∙ ap (λ n. option_map (λ y. y + 2 * n) (right_of (halved_tree (c - h)) (x - 2 * h))) left_leaves

  pub parent_at_left : parent_of (halved_tree c) 1 ≡ 0
  parent_at_left = ap (λ t. parent_of t 1) split_tree

  pub parent_at_right : (x : ℕ) → x ≡ 2 * h → parent_of (halved_tree c) x ≡ 0
  parent_at_right x e =
      let l = left_leaves in
      let a : (2 * leaves (halved_tree h) == 1) ≡ false = eq_false (2 * leaves (halved_tree h)) 1 (omega arith) in
      let b : (2 * leaves (halved_tree h) == 2 * leaves (halved_tree h)) ≡ true = eq_true (2 * leaves (halved_tree h)) in
      let p : parent_of (Fork (halved_tree h) (halved_tree (c - h))) (2 * leaves (halved_tree h)) ≡ 0 = rw (a, b) in
      ap (λ t. parent_of t x) split_tree ∙ ap (parent_of (Fork (halved_tree h) (halved_tree (c - h)))) (e ∙ ap (λ n. 2 * n) (sym l)) ∙ p

  pub parent_in_left : (x : ℕ) → 1 < x → x < 2 * h → parent_of (halved_tree c) x ≡ parent_of (halved_tree h) (x - 1) + 1
  parent_in_left x a b =
      let back : x - 1 + 1 ≡ x = omega arith in
      ap (λ t. parent_of t x) split_tree ∙ ap (parent_of (Fork (halved_tree h) (halved_tree (c - h)))) (sym back)
      ∙ parent_left (halved_tree h) (halved_tree (c - h)) (x - 1) (omega arith) (omega (arith, left_leaves))

  pub parent_in_right : (x : ℕ) → 2 * h < x → parent_of (halved_tree c) x ≡ parent_of (halved_tree (c - h)) (x - 2 * h) + 2 * h
  parent_in_right x a =
      let back : x - 2 * h + 2 * leaves (halved_tree h) ≡ x = omega (arith, left_leaves) in
      ap (λ t. parent_of t x) split_tree ∙ ap (parent_of (Fork (halved_tree h) (halved_tree (c - h)))) (sym back)
      ∙ parent_right (halved_tree h) (halved_tree (c - h)) (x - 2 * h) (omega arith)
      ∙ ap (λ n. parent_of (halved_tree (c - h)) (x - 2 * h) + 2 * n) left_leaves

  pub leaf_in_left : (x : ℕ) → x < 2 * h → leaf_at (halved_tree c) x ≡ leaf_at (halved_tree h) (x - 1)
  leaf_in_left x b =
      let l = left_leaves in
      let k : nat_lt x (2 * leaves (halved_tree h)) ≡ true = lt_true x (2 * leaves (halved_tree h)) (omega (arith, l)) in
      let p : leaf_at (Fork (halved_tree h) (halved_tree (c - h))) x ≡ leaf_at (halved_tree h) (x - 1) = rw k in
      ap (λ t. leaf_at t x) split_tree ∙ p

  pub leaf_in_right : (x : ℕ) → 2 * h ≤ x → leaf_at (halved_tree c) x ≡ leaf_at (halved_tree (c - h)) (x - 2 * h) + h
  leaf_in_right x a =
      let back : x - 2 * h + 2 * leaves (halved_tree h) ≡ x = omega (arith, left_leaves) in
      ap (λ t. leaf_at t x) split_tree ∙ ap (leaf_at (Fork (halved_tree h) (halved_tree (c - h)))) (sym back)
      ∙ leaf_right (halved_tree h) (halved_tree (c - h)) (x - 2 * h)
      ∙ ap (λ n. leaf_at (halved_tree (c - h)) (x - 2 * h) + n) left_leaves
