-- Indexes among the others of a relation.
use Rattle.std.specs.Prelude.{◌≡◌, ◌≢◌, ℕ, zero, suc, ◌+◌, ◌<◌, Bool, true, false, ◌||◌, List, [], ◌∷◌, length, map, take}
use Rattle.std.specs.List.{AllByRecursion, list_any}
use Rattle.std.proofs.Common.{refl, sym, ap, ◌∙◌, subst, inl, inr, arith, get_or}
use Rattle.lt_face.specs.Lists.{IsIn}
use Rattle.lt_face.specs.Rows.{IsRow, IsRowSet}
use Rattle.lt_face.specs.State.{Row, row_eq, IsIndexOf}
use Rattle.lt_base.specs.declared.index.Index.{Index}
use Rattle.lt_delta.specs.Columns.{IsPermOf}
use Rattle.lt_base.specs.Indexed.{IsIndexed}
use Rattle.lt_base.proofs.OwnOrder.{row_eq-itself, row_eq-false, row_at}

pub in_at : {X : Type 0} (xs : List X) (i : ℕ) (x : X) → i < length xs → x ≡ get_or xs i x → IsIn x xs
in_at [] i x lt is = absurd (omega arith)
in_at (y ∷ xs) zero x lt is = inl (sym is)
in_at (y ∷ xs) (suc i) x lt is = inr (in_at xs i x (omega arith) is)

or_true : (b : Bool) → (b || true) ≡ true
or_true true = refl
or_true false = refl

pub any_in : (perm : List ℕ) (others : List Index) (index : Index) → IsIn index others → index.columns ≡ perm → list_any (row_eq perm) (map (λ (i : Index). i.columns) others) ≡ true
any_in perm [] index h is = absurd h
any_in perm (o ∷ others) index h is = elim h [
  | inl e ↦ ap (λ b. b || list_any (row_eq perm) (map (λ (i : Index). i.columns) others)) (ap (row_eq perm) (ap (λ (i : Index). i.columns) e ∙ is) ∙ row_eq-itself perm)
  | inr k ↦ ap (λ b. row_eq perm o.columns || b) (any_in perm others index k is) ∙ or_true (row_eq perm o.columns)
]

rest_none : (a b c : Bool) → (a || b) ≡ false → (b ≡ false → c ≡ false) → (a || c) ≡ false
rest_none true b c h more = absurd cc
rest_none false b c h more = more h

pub none_more : (perm : List ℕ) (others : List Index) (i : ℕ) (index : Index) → i < length others → index ≡ get_or others i index → index.columns ≢ perm → list_any (row_eq perm) (map (λ (o : Index). o.columns) (take i others)) ≡ false → list_any (row_eq perm) (map (λ (o : Index). o.columns) (take (i + 1) others)) ≡ false
none_more perm [] i index lt is ne before = absurd (omega arith)
none_more perm (o ∷ others) zero index lt is ne before =
    let head : row_eq perm o.columns ≡ false = row_eq-false perm o.columns (λ e. ne (ap (λ (x : Index). x.columns) is ∙ sym e)) in
    rw head refl
none_more perm (o ∷ others) (suc i) index lt is ne before =
    let e : suc i + 1 ≡ suc (i + 1) = omega arith in
    ap (λ n. list_any (row_eq perm) (map (λ (x : Index). x.columns) (take n (o ∷ others)))) e
    ∙ rest_none (row_eq perm o.columns) (list_any (row_eq perm) (map (λ (x : Index). x.columns) (take i others))) (list_any (row_eq perm) (map (λ (x : Index). x.columns) (take (i + 1) others))) before (λ h. none_more perm others i index (omega arith) is ne h)

indexed_at : (width : ℕ) (rows : List Row) (others : List Index) (index : Index) → AllByRecursion (IsIndexed width rows) others → IsIn index others → IsIndexed width rows index
indexed_at width rows [] index all h = absurd h
indexed_at width rows (o ∷ others) index all h = elim h [ inl e ↦ subst (IsIndexed width rows) e all.0 | inr k ↦ indexed_at width rows others index all.1 k ]

pub other_index : (width : ℕ) (rows : List Row) (others : List Index) (index : Index) (perm : List ℕ) → IsRowSet width rows → AllByRecursion (IsIndexed width rows) others → IsIn index others → index.columns ≡ perm
    → IsIndexOf (record { width = width; rows = rows } ∷ []) 0 perm index.rows.width index.rows.rows
other_index width rows others index perm set all h is =
    let one = indexed_at width rows others index all h in
    let long : length index.columns ≡ width = one.same.perm.as_long in
    subst (λ columns. IsIndexOf (record { width = width; rows = rows } ∷ []) 0 columns index.rows.width index.rows.rows) is (record {
      wide = one.wide ∙ sym long;
      rows_wide = λ row k. (row_at (IsRow width) rows row set.each k).is_wide ∙ sym long;
      there = one.same.there;
      from = one.same.from;
    })

pub perms_of : (width : ℕ) (rows : List Row) (others : List Index) → AllByRecursion (IsIndexed width rows) others → AllByRecursion (λ (i : Index). IsPermOf i.rows.width i.columns) others
perms_of width rows [] all = tt
perms_of width rows (o ∷ others) all = (subst (λ n. IsPermOf n o.columns) (sym all.0.wide) all.0.same.perm, perms_of width rows others all.1)
