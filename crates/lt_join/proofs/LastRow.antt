-- The last of some rows, and what is added behind it.
use Rattle.std.specs.Prelude.{◌≡◌, ℕ, zero, suc, ◌+◌, ◌<◌, List, [], ◌∷◌, ◌++◌, ◌⊎◌, map, length, take, slice_get, get_or, Some}
use Rattle.std.proofs.Common.{refl, sym, ap, ◌∙◌, subst, inl, inr, arith}
use Rattle.lt_face.specs.Lists.{IsIn}
use Rattle.lt_face.specs.State.{Row}
use Rattle.lt_face.proofs.Membership.{IsIn-append_left, IsIn-append_right, IsIn-append_cases}

-- one more cell is that of its term
pub same_more : {T : Type 0} (f : T → ℕ) (cells : List ℕ) (terms : List T) (i x : ℕ) (t : T) → i < length cells → i < length terms → get_or cells i x ≡ f (get_or terms i t)
    → take i cells ≡ map f (take i terms) → take (i + 1) cells ≡ map f (take (i + 1) terms)
same_more f [] terms i x t in_cells in_terms same so = absurd (omega (arith, in_cells))
same_more f (c ∷ cells) [] i x t in_cells in_terms same so = absurd (omega (arith, in_terms))
same_more f (c ∷ cells) (u ∷ terms) zero x t in_cells in_terms same so = ap (λ z. z ∷ []) same
same_more f (c ∷ cells) (u ∷ terms) (suc i) x t in_cells in_terms same so =
    let head : c ≡ f u = cc in
    let tail : take i cells ≡ map f (take i terms) = cc in
    let more = same_more f cells terms i x t (omega (arith, in_cells)) (omega (arith, in_terms)) same tail in
    let one_on : suc (i + 1) ≡ suc i + 1 = omega arith in
    subst (λ n. take n (c ∷ cells) ≡ map f (take n (u ∷ terms))) one_on (let both : c ∷ take (i + 1) cells ≡ f u ∷ map f (take (i + 1) terms) = cc in both)

take_whole : {X : Type 0} (xs : List X) (n : ℕ) → n ≡ length xs → take n xs ≡ xs
take_whole [] zero e = refl
take_whole [] (suc n) e = refl
take_whole (x ∷ xs) zero e = absurd (omega (arith, e))
take_whole (x ∷ xs) (suc n) e = ap (λ ys. x ∷ ys) (take_whole xs n (omega (arith, e)))

-- all are
pub same_all : {T : Type 0} (f : T → ℕ) (cells : List ℕ) (terms : List T) (i : ℕ) → i ≡ length terms → length cells ≡ length terms → take i cells ≡ map f (take i terms) → cells ≡ map f terms
same_all f cells terms i end long so =
    sym (take_whole cells i (end ∙ sym long)) ∙ (so ∙ ap (map f) (take_whole terms i end))

-- a row that stands at a place is one of them
pub is_there : (rows : List Row) (i : ℕ) (row : Row) → slice_get rows i ≡ Some row → IsIn row rows
is_there [] i row e = cc
is_there (r ∷ rows) zero row e = inl (let k = e in let same : r ≡ row = cc in same)
is_there (r ∷ rows) (suc i) row e = inr (is_there rows i row e)

-- so is the last
pub last_is_in : (rows : List Row) (i : ℕ) (last row : Row) → slice_get rows i ≡ Some last → last ≡ row → IsIn row rows
last_is_in rows i last row here same = subst (λ r. IsIn r rows) same (is_there rows i last here)

-- ---- one more row

pub added_there : (old new : List Row) (row : Row) → new ≡ old ++ row ∷ [] → IsIn row new
added_there old new row is = subst (IsIn row) (sym is) (IsIn-append_right row old (row ∷ []) (inl refl))

pub added_kept : (old new : List Row) (row : Row) → new ≡ old ++ row ∷ [] → (r : Row) → IsIn r old → IsIn r new
added_kept old new row is r there = subst (IsIn r) (sym is) (IsIn-append_left r old (row ∷ []) there)

pub added_each : (old new : List Row) (row : Row) → new ≡ old ++ row ∷ [] → (r : Row) → IsIn r new → IsIn r old ⊎ (r ≡ row)
added_each old new row is r there =
    elim (IsIn-append_cases r old (row ∷ []) (subst (IsIn r) is there)) [
      | inl before ↦ inl before
      | inr last ↦ elim last [ inl same ↦ inr (sym same) | inr none ↦ absurd none ]
    ]
