-- The leaves below each node: from its first to the one behind its last.
use Rattle.std.proofs.Common.{◌≡◌, ℕ, ◌+◌, ◌-◌, ◌*◌, ◌<◌, inl, inr, true, false, Option, Some, None, refl, sym, ap, ◌∙◌, subst, arith, zero-add}
use Rattle.std.specs.Prelude.{if◌then◌else◌, ◌==◌, nat_lt}
use Rattle.std.specs.Option.{option_map}
use Rattle.lt_net.specs.Net.{Cell, Correction, Effect}
use Rattle.lt_net.specs.Tree.{Tree, Tip, Fork, leaves, right_of, node_of, leaf_at}
use Rattle.lt_net.proofs.Shape.{some_leaf, lt_tells, lt_true, lt_false, eq_false, right_left, right_right, node_left, node_right, leaf_left, leaf_right, place, leaf_is}

-- the leaf behind the last one below a node
abbrev pub end_at : Tree → ℕ → ℕ
end_at Tip x = 1
end_at (Fork l r) x =
    if x == 0 then leaves l + leaves r
    else (if nat_lt x (2 * leaves l) then end_at l (x - 1) else end_at r (x - 2 * leaves l) + leaves l)

pub root_leaf : (t : Tree) → leaf_at t 0 ≡ 0
root_leaf Tip = refl
root_leaf (Fork l r) =
    let k : nat_lt 0 (2 * leaves l) ≡ true = lt_true 0 (2 * leaves l) (omega (arith, some_leaf l)) in
    rw k (root_leaf l)

pub root_end : (t : Tree) → end_at t 0 ≡ leaves t
root_end Tip = refl
root_end (Fork l r) = refl

module _ (l r : Tree) where
  pub end_left : (x : ℕ) → x + 1 < 2 * leaves l → end_at (Fork l r) (x + 1) ≡ end_at l x
  end_left x h =
      let a : (x + 1 == 0) ≡ false = eq_false (x + 1) 0 (omega arith) in
      let b : nat_lt (x + 1) (2 * leaves l) ≡ true = lt_true (x + 1) (2 * leaves l) h in
      let c : x + 1 - 1 ≡ x = omega arith in
      rw (a, b, c)

  pub end_right : (x : ℕ) → end_at (Fork l r) (x + 2 * leaves l) ≡ end_at r x + leaves l
  end_right x =
      let a : (x + 2 * leaves l == 0) ≡ false = eq_false (x + 2 * leaves l) 0 (omega (arith, some_leaf l)) in
      let b : nat_lt (x + 2 * leaves l) (2 * leaves l) ≡ false = lt_false (x + 2 * leaves l) (2 * leaves l) (omega arith) in
      let c : x + 2 * leaves l - 2 * leaves l ≡ x = omega arith in
      rw (a, b, c)

-- the leaves below the children x + 1 and y of node x
pub record IsSplit (t : Tree) (x y : ℕ) : Type 0 where
  pub first : leaf_at t (x + 1) ≡ leaf_at t x
  pub middle : end_at t (x + 1) ≡ leaf_at t y
  pub last : end_at t y ≡ end_at t x
  pub some : leaf_at t x < leaf_at t y
  pub more : leaf_at t y < end_at t y
  pub after : x + 1 < y
  pub inside : y + 1 < 2 * leaves t

mapped : (o : Option ℕ) (a y : ℕ) → option_map (λ z. z + a) o ≡ Some y → (z : ℕ) × (o ≡ Some z) × (y ≡ z + a)
mapped None a y e = cc
mapped (Some z) a y e = (z, refl, (let f : z + a ≡ y = cc in sym f))

module _ (l r : Tree) where
  split_root : IsSplit (Fork l r) 0 (2 * leaves l)
  split_root =
      let a : leaf_at (Fork l r) 1 ≡ leaf_at l 0 = leaf_left l r 0 (omega (arith, some_leaf l)) in
      let b : leaf_at (Fork l r) (2 * leaves l) ≡ leaf_at r 0 + leaves l = ap (leaf_at (Fork l r)) (sym (zero-add (2 * leaves l))) ∙ leaf_right l r 0 in
      let c : end_at (Fork l r) 1 ≡ end_at l 0 = end_left l r 0 (omega (arith, some_leaf l)) in
      let d : end_at (Fork l r) (2 * leaves l) ≡ end_at r 0 + leaves l = ap (end_at (Fork l r)) (sym (zero-add (2 * leaves l))) ∙ end_right l r 0 in
      let e : leaf_at (Fork l r) 0 ≡ 0 = root_leaf (Fork l r) in
      let f : end_at (Fork l r) 0 ≡ leaves l + leaves r = refl in
      record {
        first = omega (arith, a, e, root_leaf l);
        middle = omega (arith, b, c, root_leaf r, root_end l);
        last = omega (arith, d, f, root_end r);
        some = omega (arith, b, e, some_leaf l);
        more = omega (arith, b, d, root_leaf r, root_end r, some_leaf r);
        after = omega (arith, some_leaf l);
        inside = omega (arith, some_leaf r);
      }

  split_left : (x y : ℕ) → IsSplit l x y → IsSplit (Fork l r) (x + 1) (y + 1)
  split_left x y h =
      let a : leaf_at (Fork l r) (x + 1 + 1) ≡ leaf_at l (x + 1) = leaf_left l r (x + 1) (omega (arith, h.after, h.inside)) in
      let b : leaf_at (Fork l r) (x + 1) ≡ leaf_at l x = leaf_left l r x (omega (arith, h.after, h.inside)) in
      let c : leaf_at (Fork l r) (y + 1) ≡ leaf_at l y = leaf_left l r y h.inside in
      let d : end_at (Fork l r) (x + 1 + 1) ≡ end_at l (x + 1) = end_left l r (x + 1) (omega (arith, h.after, h.inside)) in
      let e : end_at (Fork l r) (x + 1) ≡ end_at l x = end_left l r x (omega (arith, h.after, h.inside)) in
      let f : end_at (Fork l r) (y + 1) ≡ end_at l y = end_left l r y h.inside in
      record {
        first = a ∙ h.first ∙ sym b;
        middle = d ∙ h.middle ∙ sym c;
        last = f ∙ h.last ∙ sym e;
        some = omega (arith, b, c, h.some);
        more = omega (arith, c, f, h.more);
        after = omega (arith, h.after);
        inside = omega (arith, h.inside, some_leaf r);
      }

  split_right : (x y : ℕ) → IsSplit r x y → IsSplit (Fork l r) (x + 2 * leaves l) (y + 2 * leaves l)
  split_right x y h =
      let swap : x + 1 + 2 * leaves l ≡ x + 2 * leaves l + 1 = omega arith in
      let a : leaf_at (Fork l r) (x + 2 * leaves l + 1) ≡ leaf_at r (x + 1) + leaves l = ap (leaf_at (Fork l r)) (sym swap) ∙ leaf_right l r (x + 1) in
      let d : end_at (Fork l r) (x + 2 * leaves l + 1) ≡ end_at r (x + 1) + leaves l = ap (end_at (Fork l r)) (sym swap) ∙ end_right l r (x + 1) in
      record {
        first = omega (arith, a, leaf_right l r x, h.first);
        middle = omega (arith, d, leaf_right l r y, h.middle);
        last = omega (arith, end_right l r y, end_right l r x, h.last);
        some = omega (arith, leaf_right l r x, leaf_right l r y, h.some);
        more = omega (arith, leaf_right l r y, end_right l r y, h.more);
        after = omega (arith, h.after);
        inside = omega (arith, h.inside);
      }

pub split_is : (t : Tree) (x y : ℕ) → right_of t x ≡ Some y → IsSplit t x y
split_is Tip x y e = cc
split_is (Fork l r) x y e = elim (place l r x) [
  | inl h ↦
      let f : Some (2 * leaves l) ≡ Some y = sym (ap (right_of (Fork l r)) h) ∙ e in
      let g : 2 * leaves l ≡ y = cc in
      subst (λ n. IsSplit (Fork l r) n y) (sym h) (subst (IsSplit (Fork l r) 0) g (split_root l r))
  | inr s ↦ elim s [
    | inl h ↦
        let m = mapped (right_of l h.0) 1 y (sym (right_left l r h.0 h.2) ∙ sym (ap (right_of (Fork l r)) h.1) ∙ e) in
        subst (λ n. IsSplit (Fork l r) n y) (sym h.1) (subst (IsSplit (Fork l r) (h.0 + 1)) (sym m.2) (split_left l r h.0 m.0 (split_is l h.0 m.0 m.1)))
    | inr h ↦
        let m = mapped (right_of r h.0) (2 * leaves l) y (sym (right_right l r h.0) ∙ sym (ap (right_of (Fork l r)) h.1) ∙ e) in
        subst (λ n. IsSplit (Fork l r) n y) (sym h.1) (subst (IsSplit (Fork l r) (h.0 + 2 * leaves l)) (sym m.2) (split_right l r h.0 m.0 (split_is r h.0 m.0 m.1)))
  ]
]

-- below a leaf's node is the leaf alone
pub leaf_end : (t : Tree) (i : ℕ) → i < leaves t → end_at t (node_of t i) ≡ i + 1
leaf_end Tip i h = omega arith
leaf_end (Fork l r) i h = elim (lt_tells i (leaves l)) [
  | inl g ↦ ap (end_at (Fork l r)) (node_left l r i g.1) ∙ end_left l r (node_of l i) (leaf_is l i g.1).inside ∙ leaf_end l i g.1
  | inr g ↦
      let p : i - leaves l + leaves l ≡ i = omega (arith, g.1) in
      let below : i - leaves l < leaves r = omega (arith, g.1) in
      let at : node_of (Fork l r) i ≡ node_of r (i - leaves l) + 2 * leaves l = ap (node_of (Fork l r)) (sym p) ∙ node_right l r (i - leaves l) in
      let here : end_at r (node_of r (i - leaves l)) ≡ i - leaves l + 1 = leaf_end r (i - leaves l) below in
      let there : end_at (Fork l r) (node_of r (i - leaves l) + 2 * leaves l) ≡ end_at r (node_of r (i - leaves l)) + leaves l = end_right l r (node_of r (i - leaves l)) in
      ap (end_at (Fork l r)) at ∙ there ∙ omega (arith, here, g.1)
]

-- how many leaves have to be final before the cell is
abbrev pub rank : Tree → Cell → ℕ
rank t (Correction x) = leaf_at t x
rank t (Effect x) = end_at t x

abbrev pub rank_in : Option Tree → Cell → ℕ
rank_in None x = 0
rank_in (Some t) x = rank t x
