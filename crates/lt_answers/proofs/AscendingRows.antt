-- Rows that are in order.
use Rattle.std.specs.Prelude.{◌≡◌, ℕ, ◌+◌, ◌-◌, ◌<◌, ◌≤◌, true, List, [], ◌∷◌, ◌++◌, length, take}
use Rattle.std.specs.Ordering.{is_lt}
use Rattle.std.specs.declared.cmp.Ordering.{Ordering}
use Rattle.std.specs.declared.cmp.Ordering.TheVariants.{Less, Equal, Greater}
use Rattle.std.proofs.Common.{refl, sym, ap, ◌∙◌, subst, inl, inr, arith, get_or}
use Rattle.std.proofs.lemmas.List.{take_more}
use Rattle.lt_face.specs.Rows.{row_cmp, IsAscending}
use Rattle.lt_face.specs.State.{Row}
use Rattle.lt_face.proofs.Membership.{IsIn-append_right, IsIn-append_cases}
use Rattle.lt_face.proofs.RowLemmas.{rows_total}
use Rattle.lt_model.specs.Answers.{ascending}
use Rattle.lt_query.proofs.Elements.{All_at, All_from}
use Rattle.lt_query.proofs.Ascending.{IsAscending-ascending, IsIn-ascending, IsIn-ascending_from, ascending_same}

push_ascends : (rows : List Row) (x y : Row) → row_cmp x y ≡ Less → IsAscending (rows ++ x ∷ []) → IsAscending ((rows ++ x ∷ []) ++ y ∷ [])
push_ascends [] x y below h = ((below, tt), (tt, tt))
push_ascends (r ∷ rows) x y below h = (
  All_from (λ (s : Row). row_cmp r s ≡ Less) ((rows ++ x ∷ []) ++ y ∷ []) (λ s at. elim (IsIn-append_cases s (rows ++ x ∷ []) (y ∷ []) at) [
    | inl old ↦ All_at (λ (s : Row). row_cmp r s ≡ Less) s (rows ++ x ∷ []) h.0 old
    | inr new ↦ elim new [
      | inl e ↦ subst (λ (s : Row). row_cmp r s ≡ Less) e (rows_total.trans r x y (All_at (λ (s : Row). row_cmp r s ≡ Less) x (rows ++ x ∷ []) h.0 (IsIn-append_right x rows (x ∷ []) (inl refl))) below)
      | inr none ↦ absurd none
    ]
  ]),
  push_ascends rows x y below h.1,
)

-- the rows up to one that is known
read : (rows : List Row) (i : ℕ) (x : Row) → i < length rows → x ≡ get_or rows i x → take (i + 1) rows ≡ take i rows ++ x ∷ []
read rows i x lt is_x = take_more rows i x lt ∙ ap (λ z. take i rows ++ z ∷ []) (sym is_x)

pub ascends_one : (rows : List Row) → IsAscending (take 1 rows)
ascends_one [] = tt
ascends_one (row ∷ rows) = (tt, tt)

pub ascends_more : (rows : List Row) (i : ℕ) (x y : Row) → 1 ≤ i → i < length rows → x ≡ get_or rows (i - 1) x → y ≡ get_or rows i y → row_cmp x y ≡ Less → IsAscending (take i rows) → IsAscending (take (i + 1) rows)
ascends_more rows i x y some lt is_x is_y below so =
    let e : (i - 1) + 1 ≡ i = omega arith in
    let front : take i rows ≡ take (i - 1) rows ++ x ∷ [] = subst (λ n. take n rows ≡ take (i - 1) rows ++ x ∷ []) e (read rows (i - 1) x (omega arith) is_x) in
    subst IsAscending (sym (read rows i y lt is_y)) (subst (λ (rs : List Row). IsAscending (rs ++ y ∷ [])) (sym front) (push_ascends (take (i - 1) rows) x y below (subst IsAscending front so)))

-- rows in order are what sorting them gives
pub ascending_itself : (rows : List Row) → IsAscending rows → rows ≡ ascending rows
ascending_itself rows h = ascending_same rows (ascending rows) h (IsAscending-ascending rows) (λ row at. IsIn-ascending row rows at) (λ row at. IsIn-ascending_from row rows at)

-- ---- an order that was compared

pub is_less : (o : Ordering) → is_lt o ≡ true → o ≡ Less
is_less Less e = refl
is_less Equal e = cc
is_less Greater e = cc
