-- Lists that are parted, and rows that lie in a page one behind another.
use Rattle.std.proofs.Common.{◌≡◌, ℕ, zero, suc, ◌+◌, ◌<◌, ◌≤◌, length, get_or, take, drop, set, List, [], ◌∷◌, ◌++◌, refl, sym, ap, ◌∙◌, subst, arith, append_assoc}
use Rattle.std.proofs.lemmas.List.{append-nil}
use Rattle.std.specs.List.{AllByRecursion, insert, remove, splice}
use Rattle.std.specs.declared.cmp.Ordering.TheVariants.{Less}
use Rattle.lt_face.specs.Rows.{row_cmp, IsAscending, has_row, with_row, without_row}
use Rattle.lt_face.proofs.RowLemmas.{rows_total, with_row-after}
use Rattle.lt_flat.specs.Flat.{IsFound, IsAbsent}
use Rattle.lt_shared.specs.declared.entry.Put.TheVariants.{Was, Fits, Halves}
use Rattle.lt_shared.specs.declared.entry.Taken.TheVariants.{Missing, Out}
use Rattle.lt_shared.specs.Entries.{joined, two_for, IsPut, IsTaken}
use Rattle.lt_shared.specs.Shared.{row_rows}
use Rattle.lt_shared.proofs.Joins.{joined-append, has-less, without-less}
use Rattle.lt_shared.proofs.Gathered.{joined-rows}

-- ---- a list with others between its parts, which is parted in two

take_drop : {X : Type 0} (xs : List X) (m : ℕ) → take m xs ++ drop m xs ≡ xs
take_drop xs zero = refl
take_drop [] (suc m) = refl
take_drop (x ∷ xs) (suc m) = ap (λ t. x ∷ t) (take_drop xs m)

drop_take : {X : Type 0} (xs : List X) (j m : ℕ) → j ≤ m → drop j (take m xs) ++ drop m xs ≡ drop j xs
drop_take xs zero m le = take_drop xs m
drop_take xs (suc j) zero le = absurd (omega arith)
drop_take [] (suc j) (suc m) le = refl
drop_take (x ∷ xs) (suc j) (suc m) le = drop_take xs j m (omega arith)

-- the others lie in the first part
pub splice-lower : {X : Type 0} (xs ys : List X) (i j m : ℕ) → i ≤ j → j ≤ m → splice (take m xs) i j ys ++ drop m xs ≡ splice xs i j ys
splice-lower xs ys zero j m le within = append_assoc ys (drop j (take m xs)) (drop m xs) ∙ ap (λ t. ys ++ t) (drop_take xs j m within)
splice-lower xs ys (suc i) zero m le within = absurd (omega arith)
splice-lower xs ys (suc i) (suc j) zero le within = absurd (omega arith)
splice-lower [] ys (suc i) (suc j) (suc m) le within = append_assoc ys [] []
splice-lower (x ∷ xs) ys (suc i) (suc j) (suc m) le within = ap (λ t. x ∷ t) (splice-lower xs ys i j m (omega arith) (omega arith))

-- or in the second
pub splice-upper : {X : Type 0} (xs ys : List X) (m i j k l : ℕ) → i ≡ m + k → j ≡ m + l → take m xs ++ splice (drop m xs) k l ys ≡ splice xs i j ys
splice-upper xs ys zero i j k l e f =
    let same : k ≡ i = omega (arith, e) in
    let more : l ≡ j = omega (arith, f) in
    ap (λ n. splice xs n l ys) same ∙ ap (λ n. splice xs i n ys) more
splice-upper xs ys (suc m) zero j k l e f = absurd (omega (arith, e))
splice-upper xs ys (suc m) (suc i) zero k l e f = absurd (omega (arith, f))
splice-upper [] ys (suc m) (suc i) (suc j) k l e f = none k l
  where
    none : (k l : ℕ) → splice [] k l ys ≡ ys ++ []
    none zero zero = refl
    none zero (suc l) = refl
    none (suc k) zero = refl
    none (suc k) (suc l) = refl
splice-upper (x ∷ xs) ys (suc m) (suc i) (suc j) k l e f = ap (λ t. x ∷ t) (splice-upper xs ys m i j k l (omega (arith, e)) (omega (arith, f)))

-- ---- a list with others in the place of one

next : (at : ℕ) → at + 1 ≡ suc at
next at = omega arith

pub splice-one : {X : Type 0} (xs : List X) (at : ℕ) (y : X) → at < length xs → splice xs at (at + 1) (y ∷ []) ≡ set xs at y
splice-one xs at y lt = ap (λ n. splice xs at n (y ∷ [])) (next at) ∙ here xs at lt
  where
    here : (zs : List _) (i : ℕ) → i < length zs → splice zs i (suc i) (y ∷ []) ≡ set zs i y
    here [] i lt = absurd (omega arith)
    here (z ∷ zs) zero lt = refl
    here (z ∷ zs) (suc i) lt = ap (λ t. z ∷ t) (here zs i (omega arith))

pub splice-two : {X : Type 0} (xs : List X) (at : ℕ) (a b : X) → splice xs at (at + 1) (a ∷ (b ∷ [])) ≡ two_for xs at a b
splice-two xs at a b = ap (λ n. splice xs at n (a ∷ (b ∷ []))) (next at)

pub splice-none : {X : Type 0} (xs : List X) (at : ℕ) → splice xs at (at + 1) [] ≡ remove xs at
splice-none xs at = ap (λ n. splice xs at n []) (next at)

-- ---- what an edit of a page does

-- a row above the last is above all
all-below : (rows : List (List ℕ)) (r q : List ℕ) (at : ℕ) → IsAscending rows → length rows ≡ suc at → r ≡ get_or rows at r → row_cmp r q ≡ Less → AllByRecursion (λ s. row_cmp s q ≡ Less) rows
all-below [] r q at up e is less = tt
all-below (x ∷ []) r q zero up e is less = (subst (λ t. row_cmp t q ≡ Less) is less, tt)
all-below (x ∷ []) r q (suc at) up e is less = absurd (omega (arith, e))
all-below (x ∷ (y ∷ ys)) r q zero up e is less = absurd (omega (arith, e))
all-below (x ∷ (y ∷ ys)) r q (suc at) up e is less =
    let rest = all-below (y ∷ ys) r q at up.1 (omega (arith, e)) is less in
    (rows_total.trans x y q up.0.0 rest.0, rest)

insert-end : (rows : List (List ℕ)) (q : List ℕ) → insert rows (length rows) q ≡ rows ++ q ∷ []
insert-end [] q = refl
insert-end (x ∷ rows) q = ap (λ t. x ∷ t) (insert-end rows q)

pub absent-behind : (rows : List (List ℕ)) (r q : List ℕ) (at : ℕ) → IsAscending rows → length rows ≡ suc at → r ≡ get_or rows at r → row_cmp r q ≡ Less → IsAbsent rows q (length rows)
absent-behind rows r q at up e is less =
    let below = all-below rows r q at up e is less in
    record {
      within = omega arith;
      has = has-less rows q below;
      with_it = ap (λ t. with_row t q) (sym (append-nil rows)) ∙ with_row-after rows [] q below ∙ sym (insert-end rows q);
      without_it = without-less rows q below;
    }

with-rows : (rows now : List (List ℕ)) (row : List ℕ) → now ≡ with_row rows row → now ≡ with_row (joined row_rows rows) row
with-rows rows now row is = is ∙ ap (λ t. with_row t row) (sym (joined-rows rows))

has-rows : (rows : List (List ℕ)) (row : List ℕ) → has_row (joined row_rows rows) row ≡ has_row rows row
has-rows rows row = ap (λ t. has_row t row) (joined-rows rows)

pub put-found : {Y : Type 0} (h : Y → List (List ℕ)) (rows : List (List ℕ)) (row : List ℕ) (at : ℕ) → IsFound rows row at → IsPut h Was (joined row_rows rows) (joined row_rows rows) row
put-found h rows row at found = record {
  rows = with-rows rows (joined row_rows rows) row (joined-rows rows ∙ sym found.with_it);
  was = sym (has-rows rows row ∙ found.has);
  kept = refl;
}

pub put-absent : {Y : Type 0} (h : Y → List (List ℕ)) (rows new : List (List ℕ)) (row : List ℕ) (at : ℕ) → IsAbsent rows row at → new ≡ insert rows at row
    → IsPut h Fits (joined row_rows rows) (joined row_rows new) row
put-absent h rows new row at absent is = record {
  rows = with-rows rows (joined row_rows new) row (joined-rows new ∙ is ∙ sym absent.with_it);
  was = sym (has-rows rows row ∙ absent.has);
  kept = tt;
}

pub put-parted : {Y : Type 0} (h : Y → List (List ℕ)) (rows new first second : List (List ℕ)) (v w : Y) (row : List ℕ) (at : ℕ) → IsAbsent rows row at → first ++ second ≡ insert rows at row
    → h v ≡ joined row_rows first → h w ≡ joined row_rows second → new ≡ rows → IsPut h (Halves v w) (joined row_rows rows) (joined row_rows new) row
put-parted h rows new first second v w row at absent all hv hw same = record {
  rows = with-rows rows (h v ++ h w) row
      (ap (λ t. t ++ h w) hv ∙ ap (λ t. joined row_rows first ++ t) hw ∙ sym (joined-append row_rows first second) ∙ joined-rows (first ++ second) ∙ all ∙ sym absent.with_it);
  was = sym (has-rows rows row ∙ absent.has);
  kept = ap (joined row_rows) same;
}

pub take-absent : (rows : List (List ℕ)) (row : List ℕ) (at : ℕ) → IsAbsent rows row at → IsTaken Missing (joined row_rows rows) (joined row_rows rows) row
take-absent rows row at absent = record {
  rows = joined-rows rows ∙ sym absent.without_it ∙ ap (λ t. without_row t row) (sym (joined-rows rows));
  was = sym (has-rows rows row ∙ absent.has);
  kept = refl;
}

pub take-found : (rows new : List (List ℕ)) (row : List ℕ) (at : ℕ) → IsFound rows row at → new ≡ remove rows at → IsTaken Out (joined row_rows rows) (joined row_rows new) row
take-found rows new row at found is = record {
  rows = joined-rows new ∙ is ∙ sym found.without_it ∙ ap (λ t. without_row t row) (sym (joined-rows rows));
  was = sym (has-rows rows row ∙ found.has);
  kept = tt;
}
