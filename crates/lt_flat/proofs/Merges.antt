-- Two ascending lists of rows, gone through side by side.
use Rattle.std.proofs.Common.{◌≡◌, ℕ, zero, suc, ◌+◌, ◌-◌, ◌<◌, ◌≤◌, ◌⊎◌, inl, inr, true, false, not, ◌||◌, List, [], ◌∷◌, ◌++◌, length, take, drop, get_or, refl, sym, ap, ◌∙◌, subst, arith, length-drop, append_assoc, append-nil, drop_of_length-le, fold}
use Rattle.std.specs.List.{AllByRecursion}
use Rattle.std.specs.Ordering.{is_eq}
use Rattle.std.specs.declared.cmp.Ordering.{Ordering}
use Rattle.std.specs.declared.cmp.Ordering.TheVariants.{Less, Equal, Greater}
use Rattle.std.proofs.Math.Seq.{drop-cons, take-length}
use Rattle.lt_face.specs.Rows.{row_cmp, IsAscending, IsRowSet, has_row, with_row}
use Rattle.lt_face.specs.State.{Row}
use Rattle.lt_face.proofs.RowLemmas.{rows_exact, cmp_itself, less_back, greater_back, below_all, ascending-filter, each_filter, IsRowSet-with_row}
use Rattle.lt_flat.specs.Flat.{kept}

-- ---- rows put in among others

-- a row that is below all that come stays in front
front_stays : (x : Row) (xs ys : List Row) → AllByRecursion (λ y. row_cmp x y ≡ Less) ys → fold with_row (x ∷ xs) ys ≡ x ∷ fold with_row xs ys
front_stays x xs [] above = refl
front_stays x xs (y ∷ ys) above = rw above.0 (front_stays x (with_row xs y) ys above.1)

pub after_none : (ys : List Row) → IsAscending ys → fold with_row [] ys ≡ ys
after_none [] up = refl
after_none (y ∷ ys) up = front_stays y [] ys up.0 ∙ ap (λ (zs : List Row). y ∷ zs) (after_none ys up.1)

pub after_empty : (a b : List Row) → length a ≡ 0 → IsAscending b → b ≡ fold with_row a b
after_empty [] b none up = sym (after_none b up)
after_empty (x ∷ a) b none up = absurd (omega arith)

pub none_after : (a b : List Row) → length b ≡ 0 → a ≡ fold with_row a b
none_after a [] none = refl
none_after a (x ∷ b) none = absurd (omega arith)

pub IsRowSet-union : (width : ℕ) (a b : List Row) → IsRowSet width a → IsRowSet width b → IsRowSet width (fold with_row a b)
IsRowSet-union width a [] set more = set
IsRowSet-union width a (x ∷ b) set more =
    IsRowSet-union width (with_row a x) b (IsRowSet-with_row width a x set more.each.0) (record { rises = more.rises.1; each = more.each.1 })

put_less : (x y : Row) (xs ys : List Row) → IsAscending (y ∷ ys) → row_cmp x y ≡ Less → fold with_row (x ∷ xs) (y ∷ ys) ≡ x ∷ fold with_row xs (y ∷ ys)
put_less x y xs ys up less = front_stays x xs (y ∷ ys) (less, below_all x y ys less up.0)

put_equal : (x y : Row) (xs ys : List Row) → IsAscending (y ∷ ys) → row_cmp x y ≡ Equal → fold with_row (x ∷ xs) (y ∷ ys) ≡ y ∷ fold with_row xs ys
put_equal x y xs ys up equal =
    let same : x ≡ y = rows_exact x y equal in
    rw equal (rw same (front_stays y xs ys up.0))

put_greater : (x y : Row) (xs ys : List Row) → IsAscending (y ∷ ys) → row_cmp x y ≡ Greater → fold with_row (x ∷ xs) (y ∷ ys) ≡ y ∷ fold with_row (x ∷ xs) ys
put_greater x y xs ys up greater = rw greater (front_stays y (x ∷ xs) ys up.0)

-- ---- rows that others lack

pub kept_none : (a : List Row) → kept a [] ≡ a
kept_none [] = refl
kept_none (x ∷ a) = ap (λ (l : List Row). x ∷ l) (kept_none a)

pub without_none : (a b : List Row) → length b ≡ 0 → a ≡ kept a b
without_none a [] none = sym (kept_none a)
without_none a (x ∷ b) none = absurd (omega arith)

pub none_left : (a b : List Row) → length a ≡ 0 → a ≡ kept a b
none_left [] b none = refl
none_left (x ∷ a) b none = absurd (omega arith)

pub IsRowSet-difference : (width : ℕ) (a b : List Row) → IsRowSet width a → IsRowSet width (kept a b)
IsRowSet-difference width a b set = record { rises = ascending-filter (λ r. not (has_row b r)) a set.rises; each = each_filter _ (λ r. not (has_row b r)) a set.each }

-- none of the rows is this one, which is below them
lacks_lower : (x : Row) (ys : List Row) → AllByRecursion (λ y. row_cmp x y ≡ Less) ys → has_row ys x ≡ false
lacks_lower x [] above = refl
lacks_lower x (y ∷ ys) above = rw (ap is_eq (less_back x y above.0)) (lacks_lower x ys above.1)

-- a row below all of them makes no difference
kept_past : (xs ys : List Row) (y : Row) → AllByRecursion (λ x. row_cmp y x ≡ Less) xs → kept xs (y ∷ ys) ≡ kept xs ys
kept_past [] ys y above = refl
kept_past (x ∷ xs) ys y above = rw (ap is_eq above.0, kept_past xs ys y above.1) refl

left_less : (x y : Row) (xs ys : List Row) → IsAscending (y ∷ ys) → row_cmp x y ≡ Less → kept (x ∷ xs) (y ∷ ys) ≡ x ∷ kept xs (y ∷ ys)
left_less x y xs ys up less = rw (lacks_lower x (y ∷ ys) (less, below_all x y ys less up.0)) refl

left_equal : (x y : Row) (xs ys : List Row) → IsAscending (x ∷ xs) → row_cmp x y ≡ Equal → kept (x ∷ xs) (y ∷ ys) ≡ kept xs ys
left_equal x y xs ys up equal =
    let same : x ≡ y = rows_exact x y equal in
    let there : (is_eq (row_cmp y x) || has_row ys x) ≡ true = ap (λ b. b || has_row ys x) (ap is_eq (ap (λ (r : Row). row_cmp r x) (sym same) ∙ cmp_itself x)) in
    rw there (kept_past xs ys y (subst (λ (r : Row). AllByRecursion (λ s. row_cmp r s ≡ Less) xs) same up.0))

left_greater : (x y : Row) (xs ys : List Row) → IsAscending (x ∷ xs) → row_cmp y x ≡ Less → kept (x ∷ xs) (y ∷ ys) ≡ kept (x ∷ xs) ys
left_greater x y xs ys up less = kept_past (x ∷ xs) ys y (less, below_all y x xs less up.0)

-- ---- from places on

pub rest_ascends : (xs : List Row) (i : ℕ) → IsAscending xs → IsAscending (drop i xs)
rest_ascends xs zero up = up
rest_ascends [] (suc i) up = tt
rest_ascends (x ∷ xs) (suc i) up = rest_ascends xs i up.1

next : (xs : List Row) (i : ℕ) (d : Row) → i < length xs → drop i xs ≡ get_or xs i d ∷ drop (i + 1) xs
next xs i d lt = let e : suc i ≡ i + 1 = omega arith in drop-cons xs i d lt ∙ ap (λ n. get_or xs i d ∷ drop n xs) e

-- one more row moved from what is left to what is done
moved : (out new : List Row) (x : Row) (left rest whole : List Row) → new ≡ out ++ x ∷ [] → left ≡ x ∷ rest → out ++ left ≡ whole → new ++ rest ≡ whole
moved out new x left rest whole is step before =
    ap (λ (l : List Row). l ++ rest) is ∙ append_assoc out (x ∷ []) rest ∙ ap (λ (l : List Row). out ++ l) (sym step) ∙ before

-- rows a and b from places i and j on; out is done
module _ (a b out : List Row) (i j : ℕ) (x y : Row) (o : Ordering) (up_a : IsAscending a) (up_b : IsAscending b) (in_a : i < length a) (in_b : j < length b) (is_x : x ≡ get_or a i x) (is_y : y ≡ get_or b j y) (is : o ≡ row_cmp x y) where
  at_a : drop i a ≡ x ∷ drop (i + 1) a
  at_a = next a i x in_a ∙ ap (λ (r : Row). r ∷ drop (i + 1) a) (sym is_x)

  at_b : drop j b ≡ y ∷ drop (j + 1) b
  at_b = next b j y in_b ∙ ap (λ (r : Row). r ∷ drop (j + 1) b) (sym is_y)

  first : IsAscending (x ∷ drop (i + 1) a)
  first = subst (λ (t : List Row). IsAscending t) at_a (rest_ascends a i up_a)

  second : IsAscending (y ∷ drop (j + 1) b)
  second = subst (λ (t : List Row). IsAscending t) at_b (rest_ascends b j up_b)

  module _ (new : List Row) (done : out ++ fold with_row (drop i a) (drop j b) ≡ fold with_row a b) where
    pub united_less : o ≡ Less → new ≡ out ++ x ∷ [] → new ++ fold with_row (drop (i + 1) a) (drop j b) ≡ fold with_row a b
    united_less e push =
        moved out new x (fold with_row (drop i a) (drop j b)) (fold with_row (drop (i + 1) a) (drop j b)) (fold with_row a b) push
        (rw (at_a, at_b) (put_less x y (drop (i + 1) a) (drop (j + 1) b) second (sym is ∙ e))) done

    pub united_equal : o ≡ Equal → new ≡ out ++ y ∷ [] → new ++ fold with_row (drop (i + 1) a) (drop (j + 1) b) ≡ fold with_row a b
    united_equal e push =
        moved out new y (fold with_row (drop i a) (drop j b)) (fold with_row (drop (i + 1) a) (drop (j + 1) b)) (fold with_row a b) push
        (rw (at_a, at_b) (put_equal x y (drop (i + 1) a) (drop (j + 1) b) second (sym is ∙ e))) done

    pub united_greater : o ≡ Greater → new ≡ out ++ y ∷ [] → new ++ fold with_row (drop i a) (drop (j + 1) b) ≡ fold with_row a b
    united_greater e push =
        moved out new y (fold with_row (drop i a) (drop j b)) (fold with_row (drop i a) (drop (j + 1) b)) (fold with_row a b) push
        (rw (at_a, at_b) (put_greater x y (drop (i + 1) a) (drop (j + 1) b) second (sym is ∙ e))) done

  at_both : kept (drop i a) (drop j b) ≡ kept (x ∷ drop (i + 1) a) (y ∷ drop (j + 1) b)
  at_both = ap (λ (l : List Row). kept l (drop j b)) at_a ∙ ap (λ (l : List Row). kept (x ∷ drop (i + 1) a) l) at_b

  module _ (new : List Row) (done : out ++ kept (drop i a) (drop j b) ≡ kept a b) where
    pub left_by_less : o ≡ Less → new ≡ out ++ x ∷ [] → new ++ kept (drop (i + 1) a) (drop j b) ≡ kept a b
    left_by_less e push =
        moved out new x (kept (drop i a) (drop j b)) (kept (drop (i + 1) a) (drop j b)) (kept a b) push
        (at_both ∙ left_less x y (drop (i + 1) a) (drop (j + 1) b) second (sym is ∙ e) ∙ ap (λ (l : List Row). x ∷ kept (drop (i + 1) a) l) (sym at_b)) done

    pub left_by_equal : o ≡ Equal → new ≡ out → new ++ kept (drop (i + 1) a) (drop (j + 1) b) ≡ kept a b
    left_by_equal e same =
        ap (λ (l : List Row). l ++ kept (drop (i + 1) a) (drop (j + 1) b)) same
        ∙ ap (λ (l : List Row). out ++ l) (sym (at_both ∙ left_equal x y (drop (i + 1) a) (drop (j + 1) b) first (sym is ∙ e))) ∙ done

    pub left_by_greater : o ≡ Greater → new ≡ out → new ++ kept (drop i a) (drop (j + 1) b) ≡ kept a b
    left_by_greater e same =
        ap (λ (l : List Row). l ++ kept (drop i a) (drop (j + 1) b)) same
        ∙ ap (λ (l : List Row). out ++ l) (sym (at_both ∙ left_greater x y (drop (i + 1) a) (drop (j + 1) b) first (greater_back x y (sym is ∙ e)) ∙ ap (λ (l : List Row). kept l (drop (j + 1) b)) (sym at_a))) ∙ done

tail : (xs : List Row) (i : ℕ) → take (length xs - i) (drop i xs) ≡ drop i xs
tail xs i = ap (λ n. take n (drop i xs)) (sym (length-drop i xs)) ∙ take-length (drop i xs)

-- where one of the lists is used up, the rest of the other follows
one_left : (a b : List Row) (i j : ℕ) → IsAscending b → (length a ≤ i) ⊎ (length b ≤ j) → fold with_row (drop i a) (drop j b) ≡ drop i a ++ drop j b
one_left a b i j up (inl h) =
    let e : drop i a ≡ [] = drop_of_length-le a h in
    rw e (after_none (drop j b) (rest_ascends b j up))
one_left a b i j up (inr h) =
    let e : drop j b ≡ [] = drop_of_length-le b h in
    rw e (sym (append-nil (drop i a)))

pub united_all : (out mid new a b : List Row) (i j : ℕ) → IsAscending b → (length a ≤ i) ⊎ (length b ≤ j) → out ++ fold with_row (drop i a) (drop j b) ≡ fold with_row a b
    → mid ≡ out ++ take (length a - i) (drop i a) → new ≡ mid ++ take (length b - j) (drop j b) → new ≡ fold with_row a b
united_all out mid new a b i j up over before one two =
    two
    ∙ ap (λ (l : List Row). mid ++ l) (tail b j)
    ∙ ap (λ (l : List Row). l ++ drop j b) (one ∙ ap (λ (l : List Row). out ++ l) (tail a i))
    ∙ append_assoc out (drop i a) (drop j b)
    ∙ ap (λ (l : List Row). out ++ l) (sym (one_left a b i j up over))
    ∙ before

rest_kept : (a b : List Row) (i j : ℕ) → (length a ≤ i) ⊎ (length b ≤ j) → kept (drop i a) (drop j b) ≡ drop i a
rest_kept a b i j (inl h) = let e : drop i a ≡ [] = drop_of_length-le a h in rw e refl
rest_kept a b i j (inr h) = let e : drop j b ≡ [] = drop_of_length-le b h in rw e (kept_none (drop i a))

pub left_all : (out new a b : List Row) (i j : ℕ) → (length a ≤ i) ⊎ (length b ≤ j) → out ++ kept (drop i a) (drop j b) ≡ kept a b
    → new ≡ out ++ take (length a - i) (drop i a) → new ≡ kept a b
left_all out new a b i j over before one =
    one ∙ ap (λ (l : List Row). out ++ l) (tail a i ∙ sym (rest_kept a b i j over)) ∙ before
