-- Orders, and lists that stand in one.
use Rattle.std.proofs.Common.{◌≡◌, ℕ, zero, suc, ◌<◌, ◌≤◌, true, false, List, [], ◌∷◌, ◌++◌, map, Some, refl, sym, ap, ◌∙◌, subst, arith, inl, inr}
use mathlib.Core.Bool.{true≢false}
use Rattle.std.specs.Prelude.{slice_get}
use Rattle.std.specs.List.{AllByRecursion}
use Rattle.std.specs.Ordering.{nat_cmp, is_eq, is_gt, ordering_then, MatchOrdering}
use Rattle.std.specs.declared.cmp.Ordering.{Ordering}
use Rattle.std.specs.declared.cmp.Ordering.TheVariants.{Less, Equal, Greater}
use Rattle.std.specs.Cmp.{ranks}
use Rattle.std.specs.FinMap.{nat_cmp-IsAntisymmetric}
use Rattle.lt_face.specs.Rows.{row_cmp}
use Rattle.lt_face.specs.Lists.{IsIn, AreInOrder}
use Rattle.lt_face.proofs.RowLemmas.{rows_exact}
use Rattle.lt_sense.specs.declared.covering.KeptGap.{KeptGap}
use Rattle.lt_sense.specs.Ordered.{family_cmp}

pub both_tied : (o x : Ordering) → ordering_then o x ≡ Equal → (o ≡ Equal) × (x ≡ Equal)
both_tied Less x h = absurd cc
both_tied Equal x h = (refl, h)
both_tied Greater x h = absurd cc

pub less_up : (o : Ordering) → o ≡ Less → is_gt o ≡ false
less_up o e = ap is_gt e

pub is_tie : (o : Ordering) → is_eq o ≡ true → o ≡ Equal
is_tie Less h = absurd (true≢false (sym h))
is_tie Equal h = refl
is_tie Greater h = absurd (true≢false (sym h))

pub up_number : (x y : ℕ) → x ≤ y → is_gt (nat_cmp x y) ≡ false
up_number x y le = by (nat_cmp x y) (ranks x y)
  where
    by : (o : Ordering) → MatchOrdering o (x < y) (x ≡ y) (y < x) → is_gt o ≡ false
    by Less m = refl
    by Equal m = refl
    by Greater m = absurd (omega (arith, m, le))

-- ---- gaps

pub same_family_parts : (a b : KeptGap) → family_cmp a b ≡ Equal → (a.relation ≡ b.relation) × (a.columns ≡ b.columns)
same_family_parts a b e = let k = both_tied (nat_cmp a.relation b.relation) (row_cmp a.columns b.columns) e in (nat_cmp-IsAntisymmetric a.relation b.relation k.0, rows_exact a.columns b.columns k.1)

-- ---- lists in order

pub all_push : {X : Type 0} (P : X → Type 0) (xs : List X) (x : X) → AllByRecursion P xs → P x → AllByRecursion P (xs ++ x ∷ [])
all_push P [] x h p = (p, tt)
all_push P (y ∷ xs) x h p = (h.0, all_push P xs x h.1 p)

pub all_init : {X : Type 0} (P : X → Type 0) (xs : List X) (x : X) → AllByRecursion P (xs ++ x ∷ []) → AllByRecursion P xs × P x
all_init P [] x h = (tt, h.0)
all_init P (y ∷ xs) x h = let k = all_init P xs x h.1 in ((h.0, k.0), k.1)

pub in_order_push : {X : Type 0} (B : X → X → Type 0) (xs : List X) (x : X) → AreInOrder B xs → AllByRecursion (λ y. B y x) xs → AreInOrder B (xs ++ x ∷ [])
in_order_push B [] x h p = (tt, tt)
in_order_push B (y ∷ xs) x h p = (all_push (B y) xs x h.0 p.0, in_order_push B xs x h.1 p.1)

pub in_order_init : {X : Type 0} (B : X → X → Type 0) (xs : List X) (x : X) → AreInOrder B (xs ++ x ∷ []) → AreInOrder B xs × AllByRecursion (λ y. B y x) xs
in_order_init B [] x h = (tt, tt)
in_order_init B (y ∷ xs) x h =
    let k = in_order_init B xs x h.1 in
    let a = all_init (B y) xs x h.0 in
    ((a.0, k.0), (a.1, k.1))

pub each_then : {X : Type 0} (P Q : X → Type 0) → ((x : X) → P x → Q x) → (xs : List X) → AllByRecursion P xs → AllByRecursion Q xs
each_then P Q f [] h = tt
each_then P Q f (x ∷ xs) h = (f x h.0, each_then P Q f xs h.1)

-- one more, which the last comes before
pub in_order_next : {X : Type 0} (B : X → X → Type 0) → ((a b c : X) → B a b → B b c → B a c) → (xs : List X) (l x : X) → AreInOrder B (xs ++ l ∷ []) → B l x → AreInOrder B ((xs ++ l ∷ []) ++ x ∷ [])
in_order_next B trans xs l x h lx =
    in_order_push B (xs ++ l ∷ []) x h
    (all_push (λ y. B y x) xs l (each_then (λ y. B y l) (λ y. B y x) (λ y yl. trans y l x yl lx) xs (in_order_init B xs l h).1) lx)

pub got_in : {X : Type 0} (xs : List X) (p : ℕ) (x : X) → slice_get xs p ≡ Some x → IsIn x xs
got_in [] p x h = absurd cc
got_in (y ∷ xs) zero x h = (let e : y ≡ x = cc in inl e)
got_in (y ∷ xs) (suc p) x h = inr (got_in xs p x h)

pub placed : {X : Type 0} (xs : List X) (x : X) → IsIn x xs → (p : ℕ) × (slice_get xs p ≡ Some x)
placed [] x h = absurd h
placed (y ∷ xs) x h = elim h [ inl e ↦ (zero, ap Some e) | inr k ↦ (let r = placed xs x k in (suc r.0, r.1)) ]

pub all_in : {X : Type 0} (P : X → Type 0) (xs : List X) (x : X) → AllByRecursion P xs → IsIn x xs → P x
all_in P [] x h i = absurd i
all_in P (y ∷ xs) x h i = elim i [ inl e ↦ subst P e h.0 | inr k ↦ all_in P xs x h.1 k ]

pub some_is : {X : Type 0} (x y : X) → Some x ≡ Some y → x ≡ y
some_is x y e = cc

pub same_at : {X : Type 0} (xs : List X) (p q : ℕ) (x y : X) → slice_get xs p ≡ Some x → slice_get xs q ≡ Some y → p ≡ q → x ≡ y
same_at xs p q x y a b e = some_is x y (sym a ∙ (ap (slice_get xs) e ∙ b))

pub in_order_at : {X : Type 0} (B : X → X → Type 0) (xs : List X) (p q : ℕ) (x y : X) → AreInOrder B xs → slice_get xs p ≡ Some x → slice_get xs q ≡ Some y → p < q → B x y
in_order_at B [] p q x y h a b lt = absurd cc
in_order_at B (z ∷ xs) zero zero x y h a b lt = absurd (omega arith)
in_order_at B (z ∷ xs) zero (suc q) x y h a b lt = (let e : z ≡ x = cc in subst (λ w. B w y) e (all_in (B z) xs y h.0 (got_in xs q y b)))
in_order_at B (z ∷ xs) (suc p) zero x y h a b lt = absurd (omega arith)
in_order_at B (z ∷ xs) (suc p) (suc q) x y h a b lt = in_order_at B xs p q x y h.1 a b (omega arith)

-- the element at a place of the images
pub image_at : {X Y : Type 0} (f : X → Y) (xs : List X) (i : ℕ) (x : X) → slice_get xs i ≡ Some x → slice_get (map f xs) i ≡ Some (f x)
image_at f [] i x h = absurd cc
image_at f (y ∷ xs) zero x h = (let e : y ≡ x = cc in ap (λ z. Some (f z)) e)
image_at f (y ∷ xs) (suc i) x h = image_at f xs i x h
