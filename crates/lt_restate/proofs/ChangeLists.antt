-- The rows on which two states differ, as a list.
use Rattle.std.proofs.Common.{◌≡◌, ℕ, zero, suc, ◌+◌, Bool, true, false, not, List, [], ◌∷◌, map, refl, sym, ap, ◌∙◌, inl, inr, subst, arith}
use mathlib.Core.Bool.{true≢false}
use Rattle.std.specs.Prelude.{filter, if◌then◌else◌}
use Rattle.lt_face.specs.Lists.{IsIn}
use Rattle.lt_face.specs.Rows.{has_row}
use Rattle.lt_face.specs.State.{Row, State, rows_in}
use Rattle.lt_face.proofs.Membership.{IsIn-append_left, IsIn-append_right, IsIn-append_cases, IsIn-map, IsIn-map_from}
use Rattle.lt_base.specs.Changed.{differ_on}
use Rattle.lt_base.proofs.Apart.{has_from, has_to}
use Rattle.lt_restate.specs.Changes.{lost_from, changes_between}

pub in_filter : {X : Type 0} (p : X → Bool) (x : X) (xs : List X) → IsIn x xs → p x ≡ true → IsIn x (filter p xs)
in_filter p x [] h e = absurd h
in_filter p x (y ∷ xs) h e = elim (p y) as (λ b. p y ≡ b → IsIn x (filter p (y ∷ xs))) [
  | true ↦ λ q. rw q (elim h [ inl s ↦ inl s | inr r ↦ inr (in_filter p x xs r e) ])
  | false ↦ λ q. rw q (elim h [ inl s ↦ absurd (true≢false (sym e ∙ ap p (sym s) ∙ q)) | inr r ↦ in_filter p x xs r e ])
] refl

pub from_filter : {X : Type 0} (p : X → Bool) (x : X) (xs : List X) → IsIn x (filter p xs) → IsIn x xs × (p x ≡ true)
from_filter p x [] h = absurd h
from_filter p x (y ∷ xs) h = elim (p y) as (λ b. p y ≡ b → IsIn x (y ∷ xs) × (p x ≡ true)) [
  | true ↦ λ q. (let k : IsIn x (y ∷ filter p xs) = rw q at h in elim k [ inl s ↦ (inl s, ap p (sym s) ∙ q) | inr r ↦ (let f = from_filter p x xs r in (inr f.0, f.1)) ])
  | false ↦ λ q. (let k : IsIn x (filter p xs) = rw q at h in let f = from_filter p x xs k in (inr f.0, f.1))
] refl

-- whether the state lacks the row
abbrev lacks : State → ℕ → Row → Bool
lacks t n row = not (has_row (rows_in t n) row)

not_true : (b : Bool) → not b ≡ true → b ≡ false
not_true true e = absurd (true≢false (sym e))
not_true false e = refl

lost_there : (n k r : ℕ) (s t : State) (row : Row) → r ≡ n + k → IsIn row (rows_in s k) → has_row (rows_in t r) row ≡ false → IsIn (r, row) (lost_from n s t)
lost_there n k r [] t row is there gone = absurd there
lost_there n zero r (relation ∷ s) t row is there gone =
    let e : n ≡ r = omega (arith, is) in
    IsIn-append_left (r, row) (map (λ (x : Row). (n, x)) (filter (lacks t n) relation.rows)) (lost_from (n + 1) s t)
    (subst (λ m. IsIn {X = ℕ × Row} (r, row) (map (λ (x : Row). (m, x)) (filter (lacks t m) relation.rows))) (sym e)
    (IsIn-map (λ (x : Row). (r, x)) row (filter (lacks t r) relation.rows) (in_filter (lacks t r) row relation.rows there (ap not gone))))
lost_there n (suc k) r (relation ∷ s) t row is there gone =
    IsIn-append_right (r, row) (map (λ (x : Row). (n, x)) (filter (lacks t n) relation.rows)) (lost_from (n + 1) s t) (lost_there (n + 1) k r s t row (omega (arith, is)) there gone)

lost_is : (n r : ℕ) (s t : State) (row : Row) → IsIn (r, row) (lost_from n s t) → (k : ℕ) × (r ≡ n + k) × IsIn row (rows_in s k) × (has_row (rows_in t r) row ≡ false)
lost_is n r [] t row h = absurd h
lost_is n r (relation ∷ s) t row h =
    elim (IsIn-append_cases (r, row) (map (λ (x : Row). (n, x)) (filter (lacks t n) relation.rows)) (lost_from (n + 1) s t) h) [
      | inl here ↦
          let found = IsIn-map_from (λ (x : Row). (n, x)) (r, row) (filter (lacks t n) relation.rows) here in
          let there = from_filter (lacks t n) found.0 relation.rows found.1 in
          let number : n ≡ r = ap (λ (z : ℕ × Row). z.0) found.2 in
          let same : found.0 ≡ row = ap (λ (z : ℕ × Row). z.1) found.2 in
          (0, omega (arith, number), subst (λ (x : Row). IsIn x relation.rows) same there.0, ap (λ m. has_row (rows_in t m) row) (sym number) ∙ ap (λ (x : Row). has_row (rows_in t n) x) (sym same) ∙ not_true (has_row (rows_in t n) found.0) there.1)
      | inr later ↦
          let found = lost_is (n + 1) r s t row later in
          let number : r ≡ n + suc found.0 = (let e = found.1 in omega (arith, e)) in
          (suc found.0, number, found.2, found.3)
    ]

differs_so : (s t : State) (relation : ℕ) (row : Row) (a b : Bool) → has_row (rows_in s relation) row ≡ a → has_row (rows_in t relation) row ≡ b → differ_on s t relation row ≡ (if a then not b else b)
differs_so s t relation row a b e f = ap (λ x. if x then not (has_row (rows_in t relation) row) else has_row (rows_in t relation) row) e ∙ ap (λ x. if a then not x else x) f

-- a row on which the states differ is one of their changes
pub change_there : (s t : State) (relation : ℕ) (row : Row) → differ_on s t relation row ≡ true → IsIn (relation, row) (changes_between s t)
change_there s t relation row differs = go (has_row (rows_in s relation) row) (has_row (rows_in t relation) row) refl refl
  where
    zero_is : relation ≡ 0 + relation
    zero_is = omega arith

    go : (a b : Bool) → has_row (rows_in s relation) row ≡ a → has_row (rows_in t relation) row ≡ b → IsIn (relation, row) (changes_between s t)
    go true false e f = IsIn-append_left (relation, row) (lost_from 0 s t) (lost_from 0 t s) (lost_there 0 relation relation s t row zero_is (has_from (rows_in s relation) row e) f)
    go false true e f = IsIn-append_right (relation, row) (lost_from 0 s t) (lost_from 0 t s) (lost_there 0 relation relation t s row zero_is (has_from (rows_in t relation) row f) e)
    go true true e f = absurd (true≢false (sym differs ∙ differs_so s t relation row true true e f))
    go false false e f = absurd (true≢false (sym differs ∙ differs_so s t relation row false false e f))

-- on each of their changes the states differ
pub change_differs : (s t : State) (relation : ℕ) (row : Row) → IsIn (relation, row) (changes_between s t) → differ_on s t relation row ≡ true
change_differs s t relation row h = elim (IsIn-append_cases (relation, row) (lost_from 0 s t) (lost_from 0 t s) h) [
  | inl lost ↦
      let found = lost_is 0 relation s t row lost in
      let e : found.0 ≡ relation = (let q = found.1 in omega (arith, q)) in
      differs_so s t relation row true false (has_to (rows_in s relation) row (subst (λ n. IsIn row (rows_in s n)) e found.2)) found.3
  | inr come ↦
      let found = lost_is 0 relation t s row come in
      let e : found.0 ≡ relation = (let q = found.1 in omega (arith, q)) in
      differs_so s t relation row false true found.3 (has_to (rows_in t relation) row (subst (λ n. IsIn row (rows_in t n)) e found.2))
]
