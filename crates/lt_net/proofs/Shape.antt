-- The tree's numbering: what it gives in the left part and in the right part, and its way back.
use Rattle.std.proofs.Common.{◌≡◌, ℕ, zero, suc, ◌+◌, ◌-◌, ◌*◌, ◌/◌, ◌<◌, ◌≤◌, ◌≢◌, ◌⊎◌, inl, inr, Bool, true, false, Option, Some, None, refl, sym, ap, ◌∙◌, subst, arith}
use Rattle.std.specs.Prelude.{◌==◌, nat_lt}
use Rattle.std.specs.Option.{option_map}
use Rattle.std.proofs.lemmas.Bool.Decides.{eqb_tells, leb_tells}
use Rattle.lt_net.specs.Tree.{Tree, Tip, Fork, leaves, right_of, node_of, parent_of, leaf_at, halved, halved_tree}

pub some_leaf : (t : Tree) → 0 < leaves t
some_leaf Tip = omega arith
some_leaf (Fork l r) = omega (arith, some_leaf l)

pub lt_tells : (a b : ℕ) → ((nat_lt a b ≡ true) × (a < b)) ⊎ ((nat_lt a b ≡ false) × (b ≤ a))
lt_tells a b = elim (leb_tells (suc a) b) [ inl h ↦ inl (h.0, omega arith) | inr h ↦ inr (h.0, omega arith) ]

pub lt_true : (a b : ℕ) → a < b → nat_lt a b ≡ true
lt_true a b h = elim (lt_tells a b) [ inl g ↦ g.0 | inr g ↦ absurd (omega arith) ]

pub lt_false : (a b : ℕ) → b ≤ a → nat_lt a b ≡ false
lt_false a b h = elim (lt_tells a b) [ inl g ↦ absurd (omega arith) | inr g ↦ g.0 ]

pub eq_false : (a b : ℕ) → a ≢ b → (a == b) ≡ false
eq_false a b h = elim (eqb_tells a b) [ inl g ↦ absurd (h g.1) | inr g ↦ g.0 ]

pub eq_true : (a : ℕ) → (a == a) ≡ true
eq_true a = elim (eqb_tells a a) [ inl g ↦ g.0 | inr g ↦ absurd (g.1 refl) ]

module _ (l r : Tree) where
  pub right_left : (x : ℕ) → x + 1 < 2 * leaves l → right_of (Fork l r) (x + 1) ≡ option_map (λ y. y + 1) (right_of l x)
  right_left x h =
      let a : (x + 1 == 0) ≡ false = eq_false (x + 1) 0 (omega arith) in
      let b : nat_lt (x + 1) (2 * leaves l) ≡ true = lt_true (x + 1) (2 * leaves l) h in
      let c : x + 1 - 1 ≡ x = omega arith in
      rw (a, b, c)

  pub right_right : (x : ℕ) → right_of (Fork l r) (x + 2 * leaves l) ≡ option_map (λ y. y + 2 * leaves l) (right_of r x)
  right_right x =
      let a : (x + 2 * leaves l == 0) ≡ false = eq_false (x + 2 * leaves l) 0 (omega (arith, some_leaf l)) in
      let b : nat_lt (x + 2 * leaves l) (2 * leaves l) ≡ false = lt_false (x + 2 * leaves l) (2 * leaves l) (omega arith) in
      let c : x + 2 * leaves l - 2 * leaves l ≡ x = omega arith in
      rw (a, b, c)

  pub node_left : (i : ℕ) → i < leaves l → node_of (Fork l r) i ≡ node_of l i + 1
  node_left i h = rw (lt_true i (leaves l) h)

  pub node_right : (i : ℕ) → node_of (Fork l r) (i + leaves l) ≡ node_of r i + 2 * leaves l
  node_right i =
      let b : nat_lt (i + leaves l) (leaves l) ≡ false = lt_false (i + leaves l) (leaves l) (omega arith) in
      let c : i + leaves l - leaves l ≡ i = omega arith in
      rw (b, c)

-- ---- the way back: the parent of a node, and the leaf at one

module _ (l r : Tree) where
  pub parent_left : (x : ℕ) → 0 < x → x + 1 < 2 * leaves l → parent_of (Fork l r) (x + 1) ≡ parent_of l x + 1
  parent_left x h k =
      let a : (x + 1 == 1) ≡ false = eq_false (x + 1) 1 (omega arith) in
      let b : (x + 1 == 2 * leaves l) ≡ false = eq_false (x + 1) (2 * leaves l) (omega arith) in
      let c : nat_lt (x + 1) (2 * leaves l) ≡ true = lt_true (x + 1) (2 * leaves l) k in
      let d : x + 1 - 1 ≡ x = omega arith in
      rw (a, b, c, d)

  pub parent_right : (x : ℕ) → 0 < x → parent_of (Fork l r) (x + 2 * leaves l) ≡ parent_of r x + 2 * leaves l
  parent_right x h =
      let a : (x + 2 * leaves l == 1) ≡ false = eq_false (x + 2 * leaves l) 1 (omega (arith, some_leaf l)) in
      let b : (x + 2 * leaves l == 2 * leaves l) ≡ false = eq_false (x + 2 * leaves l) (2 * leaves l) (omega arith) in
      let c : nat_lt (x + 2 * leaves l) (2 * leaves l) ≡ false = lt_false (x + 2 * leaves l) (2 * leaves l) (omega arith) in
      let d : x + 2 * leaves l - 2 * leaves l ≡ x = omega arith in
      rw (a, b, c, d)

  pub leaf_left : (x : ℕ) → x + 1 < 2 * leaves l → leaf_at (Fork l r) (x + 1) ≡ leaf_at l x
  leaf_left x k =
      let c : nat_lt (x + 1) (2 * leaves l) ≡ true = lt_true (x + 1) (2 * leaves l) k in
      let d : x + 1 - 1 ≡ x = omega arith in
      rw (c, d)

  pub leaf_right : (x : ℕ) → leaf_at (Fork l r) (x + 2 * leaves l) ≡ leaf_at r x + leaves l
  leaf_right x =
      let c : nat_lt (x + 2 * leaves l) (2 * leaves l) ≡ false = lt_false (x + 2 * leaves l) (2 * leaves l) (omega arith) in
      let d : x + 2 * leaves l - 2 * leaves l ≡ x = omega arith in
      rw (c, d)

  -- a node is the root, in the left part, or in the right part
  pub place : (x : ℕ) → (x ≡ 0) ⊎ (((y : ℕ) × (x ≡ y + 1) × (y + 1 < 2 * leaves l)) ⊎ ((y : ℕ) × (x ≡ y + 2 * leaves l)))
  place x = elim (eqb_tells x 0) [
    | inl h ↦ inl h.1
    | inr h ↦ elim (lt_tells x (2 * leaves l)) [
      | inl g ↦ inr (inl (x - 1, omega arith, omega arith))
      | inr g ↦ inr (inr (x - 2 * leaves l, omega arith))
    ]
  ]

mapped : (o : Option ℕ) (a y : ℕ) → option_map (λ z. z + a) o ≡ Some y → (z : ℕ) × (o ≡ Some z) × (y ≡ z + a)
mapped None a y e = cc
mapped (Some z) a y e = (z, refl, (let f : z + a ≡ y = cc in sym f))

-- what holds of an inner node and its right child
pub record IsRight (t : Tree) (x y : ℕ) : Type 0 where
  pub after : x + 1 < y
  pub inside : y + 1 < 2 * leaves t
  pub left_back : parent_of t (x + 1) ≡ x
  pub right_back : parent_of t y ≡ x

module _ (l r : Tree) where
  right_root : IsRight (Fork l r) 0 (2 * leaves l)
  right_root =
      let a : (2 * leaves l == 1) ≡ false = eq_false (2 * leaves l) 1 (omega arith) in
      let b : (2 * leaves l == 2 * leaves l) ≡ true = eq_true (2 * leaves l) in
      record {
        after = omega (arith, some_leaf l);
        inside = omega (arith, some_leaf r);
        left_back = refl;
        right_back = rw (a, b);
      }

  right_in_left : (x y : ℕ) → IsRight l x y → IsRight (Fork l r) (x + 1) (y + 1)
  right_in_left x y h = record {
    after = omega (arith, h.after);
    inside = omega (arith, h.inside, some_leaf r);
    left_back = parent_left l r (x + 1) (omega arith) (omega (arith, h.after, h.inside)) ∙ ap (λ n. n + 1) h.left_back;
    right_back = parent_left l r y (omega (arith, h.after)) h.inside ∙ ap (λ n. n + 1) h.right_back;
  }

  right_in_right : (x y : ℕ) → IsRight r x y → IsRight (Fork l r) (x + 2 * leaves l) (y + 2 * leaves l)
  right_in_right x y h =
      let swap : x + 1 + 2 * leaves l ≡ x + 2 * leaves l + 1 = omega arith in
      record {
        after = omega (arith, h.after);
        inside = omega (arith, h.inside);
        left_back = sym (ap (parent_of (Fork l r)) swap) ∙ parent_right l r (x + 1) (omega arith) ∙ ap (λ n. n + 2 * leaves l) h.left_back;
        right_back = parent_right l r y (omega (arith, h.after)) ∙ ap (λ n. n + 2 * leaves l) h.right_back;
      }

pub right_is : (t : Tree) (x y : ℕ) → right_of t x ≡ Some y → IsRight t x y
right_is Tip x y e = cc
right_is (Fork l r) x y e = elim (place l r x) [
  | inl h ↦
      let f : Some (2 * leaves l) ≡ Some y = sym (ap (right_of (Fork l r)) h) ∙ e in
      let g : 2 * leaves l ≡ y = cc in
      subst (λ n. IsRight (Fork l r) n y) (sym h) (subst (IsRight (Fork l r) 0) g (right_root l r))
  | inr s ↦ elim s [
    | inl h ↦
        let m = mapped (right_of l h.0) 1 y (sym (right_left l r h.0 h.2) ∙ sym (ap (right_of (Fork l r)) h.1) ∙ e) in
        subst (λ n. IsRight (Fork l r) n y) (sym h.1) (subst (IsRight (Fork l r) (h.0 + 1)) (sym m.2) (right_in_left l r h.0 m.0 (right_is l h.0 m.0 m.1)))
    | inr h ↦
        let m = mapped (right_of r h.0) (2 * leaves l) y (sym (right_right l r h.0) ∙ sym (ap (right_of (Fork l r)) h.1) ∙ e) in
        subst (λ n. IsRight (Fork l r) n y) (sym h.1) (subst (IsRight (Fork l r) (h.0 + 2 * leaves l)) (sym m.2) (right_in_right l r h.0 m.0 (right_is r h.0 m.0 m.1)))
  ]
]

-- what holds of the node of a leaf
pub record IsLeafNode (t : Tree) (node i : ℕ) : Type 0 where
  pub inside : node + 1 < 2 * leaves t
  pub childless : right_of t node ≡ None
  pub back : leaf_at t node ≡ i

module _ (l r : Tree) where
  leaf_in_left : (x i : ℕ) → IsLeafNode l x i → IsLeafNode (Fork l r) (x + 1) i
  leaf_in_left x i h = record {
    inside = omega (arith, h.inside, some_leaf r);
    childless = right_left l r x h.inside ∙ ap (option_map (λ y. y + 1)) h.childless;
    back = leaf_left l r x h.inside ∙ h.back;
  }

  leaf_in_right : (x i : ℕ) → IsLeafNode r x i → IsLeafNode (Fork l r) (x + 2 * leaves l) (i + leaves l)
  leaf_in_right x i h = record {
    inside = omega (arith, h.inside);
    childless = right_right l r x ∙ ap (option_map (λ y. y + 2 * leaves l)) h.childless;
    back = leaf_right l r x ∙ ap (λ n. n + leaves l) h.back;
  }

pub leaf_is : (t : Tree) (i : ℕ) → i < leaves t → IsLeafNode t (node_of t i) i
leaf_is Tip i h = record { inside = omega arith; childless = refl; back = omega arith }
leaf_is (Fork l r) i h = elim (lt_tells i (leaves l)) [
  | inl g ↦ subst (λ n. IsLeafNode (Fork l r) n i) (sym (node_left l r i g.1)) (leaf_in_left l r (node_of l i) i (leaf_is l i g.1))
  | inr g ↦
      let j = i - leaves l in
      let p : i - leaves l + leaves l ≡ i = omega (arith, g.1) in
      let below : i - leaves l < leaves r = omega (arith, g.1) in
      subst (λ k. IsLeafNode (Fork l r) (node_of (Fork l r) k) k) p
      (subst (λ n. IsLeafNode (Fork l r) n (i - leaves l + leaves l)) (sym (node_right l r (i - leaves l)))
      (leaf_in_right l r (node_of r (i - leaves l)) (i - leaves l) (leaf_is r (i - leaves l) below)))
]

-- ---- the tree over c leaves

pub halved_leaves : (depth c : ℕ) → 0 < c → c ≤ depth → leaves (halved depth c) ≡ c
halved_leaves zero c a b = absurd (omega arith)
halved_leaves (suc depth) c a b = split (nat_lt c 2) refl (halved_leaves depth ((c + 1) / 2)) (halved_leaves depth (c / 2))
  where
    split : (small : Bool) → nat_lt c 2 ≡ small
        → (0 < (c + 1) / 2 → (c + 1) / 2 ≤ depth → leaves (halved depth ((c + 1) / 2)) ≡ (c + 1) / 2)
        → (0 < c / 2 → c / 2 ≤ depth → leaves (halved depth (c / 2)) ≡ c / 2)
        → leaves (elim small [ true ↦ Tip | false ↦ Fork (halved depth ((c + 1) / 2)) (halved depth (c / 2)) ]) ≡ c
    split true e f g = elim (lt_tells c 2) [ inl h ↦ omega arith | inr h ↦ absurd (let k : true ≡ false = sym e ∙ h.0 in cc) ]
    split false e f g = elim (lt_tells c 2) [
      | inl h ↦ absurd (let k : true ≡ false = sym h.0 ∙ e in cc)
      | inr h ↦ rw (f (omega (arith, h.1)) (omega (arith, h.1)), g (omega (arith, h.1)) (omega (arith, h.1))) (omega arith)
    ]

-- the depth doesn't matter, where it suffices
halved_same : (d e c : ℕ) → 0 < c → c ≤ d → c ≤ e → halved d c ≡ halved e c
halved_same zero e c a b k = absurd (omega arith)
halved_same (suc d) zero c a b k = absurd (omega arith)
halved_same (suc d) (suc e) c a b k = elim (lt_tells c 2) [
  | inl h ↦ rw (h.0, halved)
  | inr h ↦
      let p = halved_same d e ((c + 1) / 2) (omega (arith, h.1)) (omega (arith, h.1)) (omega (arith, h.1)) in
      let q = halved_same d e (c / 2) (omega (arith, h.1)) (omega (arith, h.1)) (omega (arith, h.1)) in
      rw (h.0, halved) (λ i. Fork (p i) (q i))
]

pub tree_one : halved_tree 1 ≡ Tip
tree_one = refl

-- the rule of the tree: its left child has the first half of the leaves, with the odd one
pub tree_split : (c : ℕ) → 2 ≤ c → halved_tree c ≡ Fork (halved_tree ((c + 1) / 2)) (halved_tree (c / 2))
tree_split zero h = absurd (omega arith)
tree_split (suc d) h =
    let small : nat_lt (suc d) 2 ≡ false = lt_false (suc d) 2 h in
    let p = halved_same d ((suc d + 1) / 2) ((suc d + 1) / 2) (omega arith) (omega arith) (omega arith) in
    let q = halved_same d (suc d / 2) (suc d / 2) (omega arith) (omega arith) (omega arith) in
    rw (small, halved) (λ i. Fork (p i) (q i))

pub tree_leaves : (c : ℕ) → 0 < c → leaves (halved_tree c) ≡ c
tree_leaves c h = halved_leaves c c h (omega arith)
