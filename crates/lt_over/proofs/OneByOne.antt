-- Rows that are taken out one by one, or put in.
use Rattle.std.proofs.Common.{◌≡◌, ℕ, ◌+◌, ◌<◌, Bool, true, false, cond, not, ◌||◌, List, [], ◌∷◌, ◌++◌, length, take, get_or, refl, sym, ap, ◌∙◌}
use Rattle.std.specs.Prelude.{fold}
use Rattle.std.specs.Ordering.{is_eq, ordering_reverse}
use Rattle.std.specs.declared.cmp.Ordering.{Ordering}
use Rattle.std.specs.declared.cmp.Ordering.TheVariants.{Less, Equal, Greater}
use Rattle.std.proofs.lemmas.List.{take_more}
use Rattle.std.proofs.lemmas.List.Sums.{fold_more}
use Rattle.lt_face.specs.Rows.{row_cmp, has_row, with_row, without_row}
use Rattle.lt_face.specs.State.{Row}
use Rattle.lt_face.proofs.RowLemmas.{rows_total}
use Rattle.lt_flat.specs.Flat.{kept}

grouped : (a b c : Bool) → ((a || b) || c) ≡ (a || (b || c))
grouped true b c = refl
grouped false b c = refl

flips : (a b : Row) → is_eq (row_cmp a b) ≡ is_eq (row_cmp b a)
flips a b = ap is_eq (rows_total.antisymm a b) ∙ turned_over (row_cmp b a)
  where
    turned_over : (o : Ordering) → is_eq (ordering_reverse o) ≡ is_eq o
    turned_over Less = refl
    turned_over Equal = refl
    turned_over Greater = refl

has-end : (rows : List Row) (q r : Row) → has_row (rows ++ q ∷ []) r ≡ (has_row rows r || is_eq (row_cmp r q))
has-end [] q r = ap (λ b. b || false) (flips q r) ∙ alone (is_eq (row_cmp r q))
  where
    alone : (b : Bool) → (b || false) ≡ b
    alone true = refl
    alone false = refl
has-end (x ∷ rows) q r = ap (λ b. is_eq (row_cmp x r) || b) (has-end rows q r) ∙ sym (grouped (is_eq (row_cmp x r)) (has_row rows r) (is_eq (row_cmp r q)))

-- a row more is taken out
pub one_less : (base gone : List Row) (row : Row) → kept base (gone ++ row ∷ []) ≡ without_row (kept base gone) row
one_less [] gone row = refl
one_less (r ∷ base) gone row =
    ap (λ b. cond (not b) (r ∷ kept base (gone ++ row ∷ [])) (kept base (gone ++ row ∷ []))) (has-end gone row r)
    ∙ ap (λ (l : List Row). cond (not (has_row gone r || is_eq (row_cmp r row))) (r ∷ l) l) (one_less base gone row)
    ∙ both (has_row gone r)
  where
    both : (h : Bool) → cond (not (h || is_eq (row_cmp r row))) (r ∷ without_row (kept base gone) row) (without_row (kept base gone) row) ≡ without_row (cond (not h) (r ∷ kept base gone) (kept base gone)) row
    both true = refl
    both false = refl

taken_next : (rows : List Row) (i : ℕ) (row : Row) → i < length rows → row ≡ get_or rows i row → take (i + 1) rows ≡ take i rows ++ row ∷ []
taken_next rows i row lt is = take_more rows i row lt ∙ ap (λ (r : Row). take i rows ++ r ∷ []) (sym is)

pub one_taken : (old now new rows : List Row) (i : ℕ) (row : Row) → i < length rows → row ≡ get_or rows i row → now ≡ kept old (take i rows) → new ≡ without_row now row → new ≡ kept old (take (i + 1) rows)
one_taken old now new rows i row lt is before step =
    step ∙ ap (λ (l : List Row). without_row l row) before ∙ sym (one_less old (take i rows) row) ∙ ap (kept old) (sym (taken_next rows i row lt is))

pub one_put : (old now new rows : List Row) (i : ℕ) (row : Row) → i < length rows → row ≡ get_or rows i row → now ≡ fold with_row old (take i rows) → new ≡ with_row now row → new ≡ fold with_row old (take (i + 1) rows)
one_put old now new rows i row lt is before step =
    step ∙ ap (λ (l : List Row). with_row l row) before ∙ ap (with_row (fold with_row old (take i rows))) is ∙ sym (fold_more with_row old rows i row lt)

-- nothing is taken out
pub kept_bare : (rows : List Row) → kept rows [] ≡ rows
kept_bare [] = refl
kept_bare (r ∷ rows) = ap (λ (rs : List Row). r ∷ rs) (kept_bare rows)
