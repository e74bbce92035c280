-- Columns in their own order.
use Rattle.std.specs.Prelude.{◌≡◌, ◌≢◌, ℕ, zero, suc, ◌+◌, ◌-◌, ◌<◌, ◌≤◌, Bool, true, false, ◌==◌, List, [], ◌∷◌, ◌++◌, map, length, drop, slice_index}
use Rattle.std.specs.List.{AllByRecursion}
use Rattle.std.proofs.Common.{refl, sym, ap, ◌∙◌, subst, inl, inr, arith}
use Rattle.std.proofs.lemmas.Bool.{and_parts, eqb-true, eqb-false, eq-eqb, ne_eqb, cases_Bool}
use Rattle.lt_face.specs.Rows.{IsRow, IsRowSet}
use Rattle.lt_face.specs.Lists.{IsIn}
use Rattle.lt_face.specs.State.{Row, row_eq, permuted, IsIndexOf}
use Rattle.lt_delta.specs.Columns.{numbers, IsPermOf, IsPermuted}

pub row_eq-true : (xs ys : List ℕ) → row_eq xs ys ≡ true → xs ≡ ys
row_eq-true [] [] h = refl
row_eq-true [] (y ∷ ys) h = cc
row_eq-true (x ∷ xs) [] h = cc
row_eq-true (x ∷ xs) (y ∷ ys) h =
    let both = and_parts (x == y) (row_eq xs ys) h in
    ap (λ (z : ℕ). z ∷ xs) (eqb-true x y both.0) ∙ ap (λ (zs : List ℕ). y ∷ zs) (row_eq-true xs ys both.1)

pub row_eq-itself : (xs : List ℕ) → row_eq xs xs ≡ true
row_eq-itself [] = refl
row_eq-itself (x ∷ xs) = rw (eq-eqb x x refl, row_eq-itself xs) refl

pub row_eq-false : (xs ys : List ℕ) → xs ≢ ys → row_eq xs ys ≡ false
row_eq-false xs ys ne = elim (cases_Bool (row_eq xs ys)) [ inl t ↦ absurd (ne (row_eq-true xs ys t)) | inr f ↦ f ]

pub long_numbers : (from n : ℕ) → length (numbers from n) ≡ n
long_numbers from zero = refl
long_numbers from (suc n) = let e = long_numbers (from + 1) n in omega arith

pub differs_in_length : (xs ys : List ℕ) → length xs ≢ length ys → row_eq xs ys ≡ false
differs_in_length xs ys ne = elim (cases_Bool (row_eq xs ys)) [ inl t ↦ absurd (ne (ap length (row_eq-true xs ys t))) | inr f ↦ f ]

pub not_long : (xs : List ℕ) (n : ℕ) → length xs ≢ n → row_eq xs (numbers 0 n) ≡ false
not_long xs n ne = differs_in_length xs (numbers 0 n) (λ e. ne (e ∙ long_numbers 0 n))

drop_next : (xs : List ℕ) (i : ℕ) → i < length xs → drop i xs ≡ slice_index xs i ∷ drop (i + 1) xs
drop_next [] i lt = absurd (omega arith)
drop_next (x ∷ xs) zero lt = refl
drop_next (x ∷ xs) (suc i) lt = drop_next xs i (omega arith) ∙ (let e : suc (i + 1) ≡ suc i + 1 = omega arith in ap (λ n. slice_index xs i ∷ drop n (x ∷ xs)) e)

numbers_next : (n i : ℕ) → i < n → numbers i (n - i) ≡ i ∷ numbers (i + 1) (n - (i + 1))
numbers_next n i lt = let e : n - i ≡ suc (n - (i + 1)) = omega arith in ap (numbers i) e

pub own_step : (xs : List ℕ) (n i : ℕ) → length xs ≡ n → i < n → slice_index xs i ≡ i → row_eq (drop i xs) (numbers i (n - i)) ≡ row_eq (drop (i + 1) xs) (numbers (i + 1) (n - (i + 1)))
own_step xs n i long lt same = rw (drop_next xs i (omega arith), numbers_next n i lt, eq-eqb (slice_index xs i) i same) refl

pub own_differs : (xs : List ℕ) (n i : ℕ) → length xs ≡ n → i < n → slice_index xs i ≢ i → row_eq (drop i xs) (numbers i (n - i)) ≡ false
own_differs xs n i long lt differs = rw (drop_next xs i (omega arith), numbers_next n i lt, ne_eqb (slice_index xs i) i differs) refl

-- ---- the index

shifted : (x : ℕ) (xs : Row) (from n : ℕ) → map (slice_index (x ∷ xs)) (numbers (from + 1) n) ≡ map (slice_index xs) (numbers from n)
shifted x xs from zero = refl
shifted x xs from (suc n) =
    let head : slice_index (x ∷ xs) (from + 1) ≡ slice_index xs from = let e : from + 1 ≡ suc from = omega arith in ap (slice_index (x ∷ xs)) e in
    let tail = shifted x xs (from + 1) n in
    cc

own_row : (xs : Row) → map (slice_index xs) (numbers 0 (length xs)) ≡ xs
own_row [] = refl
own_row (x ∷ xs) = ap (λ t. x ∷ t) (shifted x xs 0 (length xs) ∙ own_row xs)

pub permuted_own : (columns : List ℕ) (row : Row) (n : ℕ) → columns ≡ numbers 0 n → length row ≡ n → permuted columns row ≡ row
permuted_own columns row n is long = ap (map (slice_index row)) (is ∙ ap (numbers 0) (sym long)) ∙ own_row row

pub row_at : (P : Row → Type 0) (rows : List Row) (row : Row) → AllByRecursion P rows → IsIn row rows → P row
row_at P [] row all h = absurd h
row_at P (x ∷ rows) row all h = elim h [ inl e ↦ subst P e all.0 | inr r ↦ row_at P rows row all.1 r ]

-- a relation's rows are its index on the columns in their own order
pub own_index : (width : ℕ) (rows : List Row) (columns : List ℕ) → IsRowSet width rows → row_eq columns (numbers 0 width) ≡ true → IsIndexOf (record { width = width; rows = rows } ∷ []) 0 columns width rows
own_index width rows columns set own =
    let is = row_eq-true columns (numbers 0 width) own in
    let long : length columns ≡ width = ap length is ∙ long_numbers 0 width in
    let wide : (row : Row) → IsIn row rows → length row ≡ width = λ row h. (row_at (IsRow width) rows row set.each h).is_wide in
    record {
      wide = sym long;
      rows_wide = λ row h. wide row h ∙ sym long;
      there = λ row h. rw (permuted_own columns row width is (wide row h)) h;
      from = λ row h. (row, h, permuted_own columns row width is (wide row h));
    }

-- ---- the columns of a relation in their own order

numbers_within : (from n bound : ℕ) → from + n ≤ bound → AllByRecursion (λ c. c < bound) (numbers from n)
numbers_within from zero bound le = tt
numbers_within from (suc n) bound le = (omega (arith, le), numbers_within (from + 1) n bound (omega (arith, le)))

numbered : (from n c : ℕ) → from ≤ c → c < from + n → IsIn c (numbers from n)
numbered from zero c le lt = absurd (omega (arith, le, lt))
numbered from (suc n) c le lt = by (from == c) refl (λ up. numbered (from + 1) n c up (omega (arith, lt)))
  where
    by : (b : Bool) → (from == c) ≡ b → (from + 1 ≤ c → IsIn c (numbers (from + 1) n)) → IsIn c (numbers from (suc n))
    by true e more = inl (eqb-true from c e)
    by false e more = inr (more (let ne = eqb-false from c e in omega (arith, le, ne)))

own_perm : (width : ℕ) → IsPermOf width (numbers 0 width)
own_perm width = record { as_long = long_numbers 0 width; within = numbers_within 0 width width (omega arith); each = λ c lt. numbered 0 width c (omega arith) (omega (arith, lt)) }

pub own_order : (width : ℕ) (columns : List ℕ) → columns ≡ numbers 0 width → IsPermOf width columns
own_order width columns is = subst (IsPermOf width) (sym is) (own_perm width)

pub own_permuted : (width : ℕ) (columns : List ℕ) (rows : List Row) → columns ≡ numbers 0 width → AllByRecursion (IsRow width) rows → IsPermuted width columns rows rows
own_permuted width columns rows is wide = record {
  perm = own_order width columns is;
  there = λ row h. subst (λ (r : Row). IsIn r rows) (sym (permuted_own columns row width is (row_at (IsRow width) rows row wide h).is_wide)) h;
  from = λ row h. (row, h, permuted_own columns row width is (row_at (IsRow width) rows row wide h).is_wide);
}

numbers_more : (from n : ℕ) → numbers from (suc n) ≡ numbers from n ++ (from + n) ∷ []
numbers_more from zero = let e : from + 0 ≡ from = omega arith in ap (λ (k : ℕ). k ∷ []) (sym e)
numbers_more from (suc n) =
    let e : (from + 1) + n ≡ from + suc n = omega arith in
    ap (λ (ns : List ℕ). from ∷ ns) (numbers_more (from + 1) n ∙ ap (λ (k : ℕ). numbers (from + 1) n ++ k ∷ []) e)

pub numbers_end : (n : ℕ) → numbers 0 (n + 1) ≡ numbers 0 n ++ n ∷ []
numbers_end n = let e : n + 1 ≡ suc n = omega arith in let f : 0 + n ≡ n = omega arith in ap (numbers 0) e ∙ numbers_more 0 n ∙ ap (λ (k : ℕ). numbers 0 n ++ k ∷ []) f
