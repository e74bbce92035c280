-- Of rows that ascend, two clash exactly where two that stand side by side have one key.
use Rattle.std.proofs.Common.{◌≡◌, ℕ, zero, suc, ◌+◌, ◌-◌, ◌≤◌, ◌<◌, Bool, true, false, List, [], ◌∷◌, length, get_or, refl, sym, ap, subst, ◌∙◌, arith, inl, inr}
use Rattle.std.specs.List.{AllByRecursion, list_any}
use Rattle.std.specs.Prelude.{take, not}
use Rattle.std.specs.Ordering.{is_eq}
use Rattle.std.specs.declared.cmp.Ordering.TheVariants.{Less}
use Rattle.std.proofs.lemmas.Bool.{and_from, cases_lt, true≢false}
use Rattle.std.proofs.lemmas.List.{take_all, length-take-le}
use Rattle.lt_model.proofs.Laws.{same_is, itself}
use Rattle.lt_face.specs.Lists.{IsIn}
use Rattle.lt_face.specs.Rows.{row_cmp, IsAscending}
use Rattle.lt_face.specs.State.{Row}
use Rattle.lt_face.proofs.RowLemmas.{each_weaker}
use Rattle.lt_model.specs.Effect.{same_row, contend, has_clash}
use Rattle.lt_query.proofs.Neighbours.{apart_at, one_for_key, clashes_not}
use Rattle.lt_query.proofs.Picks.{any_is}
use Rattle.lt_query.proofs.Wide.{each_in}
use Rattle.lt_model.specs.Keyed.{HasOneForKey}
use Rattle.lt_program.specs.Displacing.{has_key_of, HaveOneWidth}
use Rattle.lt_program.proofs.IndexesMade.{in_place}

-- the row at a place, whatever stands for none
got_again : (rows : List Row) (i : ℕ) (d : Row) → i < length rows → get_or rows i d ≡ get_or rows i (get_or rows i d)
got_again [] i d lt = absurd (omega (arith, lt))
got_again (x ∷ rows) zero d lt = refl
got_again (x ∷ rows) (suc i) d lt = got_again rows i d (omega (arith, lt))

less_at : (rows : List Row) (i : ℕ) (a b : Row) → IsAscending rows → suc i < length rows → a ≡ get_or rows i a → b ≡ get_or rows (suc i) b → row_cmp a b ≡ Less
less_at [] i a b up lt ea eb = absurd (omega (arith, lt))
less_at (x ∷ []) i a b up lt ea eb = absurd (omega (arith, lt))
less_at (x ∷ y ∷ rows) zero a b up lt ea eb = subst (λ (r : Row). row_cmp a r ≡ Less) (sym eb) (subst (λ (r : Row). row_cmp r y ≡ Less) (sym ea) up.0.0)
less_at (x ∷ y ∷ rows) (suc i) a b up lt ea eb = less_at (y ∷ rows) i a b up.1 (omega (arith, lt)) ea eb

-- two with one key, side by side
pub clash_here : (keys : ℕ) (rows : List Row) (i : ℕ) (a b : Row) → IsAscending rows → suc i < length rows → a ≡ get_or rows i a → b ≡ get_or rows (suc i) b → has_key_of keys b a ≡ true → has_clash keys rows ≡ true
clash_here keys rows i a b up lt ea eb same =
    let differ : not (same_row a b) ≡ true = ap (λ o. not (is_eq o)) (less_at rows i a b up lt ea eb) in
    any_is (λ x. list_any (contend keys x) rows) a rows (in_place rows i a (omega (arith, lt)) ea)
    (any_is (contend keys a) b rows (in_place rows (suc i) b lt eb) (and_from (same_row (take keys a) (take keys b)) (not (same_row a b)) same differ))

-- no two of the first n have one key, of those that stand side by side
abbrev pub AreApartBelow : ℕ → List Row → ℕ → Type 0
AreApartBelow keys rows n = (j : ℕ) (a b : Row) → suc j < n → a ≡ get_or rows j a → b ≡ get_or rows (suc j) b → keys ≤ length b → has_key_of keys b a ≡ false

pub apart_none : (keys : ℕ) (rows : List Row) → AreApartBelow keys rows 1
apart_none keys rows j a b lt = absurd (omega (arith, lt))

all_short : (keys : ℕ) (rows : List Row) → AllByRecursion (λ row. length row < keys) rows → HasOneForKey keys rows
all_short keys rows short a b in_a in_b same =
    let whole : (row : Row) → IsIn row rows → take keys row ≡ row = λ row there. let lt = each_in (λ (r : Row). length r < keys) row rows short there in take_all keys row (omega (arith, lt)) in
    sym (whole a in_a) ∙ same ∙ whole b in_b

pub none_clashes : (keys : ℕ) (rows : List Row) → IsAscending rows → HaveOneWidth rows → AreApartBelow keys rows (length rows) → has_clash keys rows ≡ false
none_clashes keys rows up even apart =
    clashes_not keys rows (elim (cases_lt even.width keys) [
      | inl short ↦ all_short keys rows (each_weaker (λ (r : Row). length r ≡ even.width) (λ (r : Row). length r < keys) (λ r e. omega (arith, e, short)) rows even.each)
      | inr long ↦
          let wide : AllByRecursion (λ (r : Row). keys ≤ length r) rows = each_weaker (λ (r : Row). length r ≡ even.width) (λ (r : Row). keys ≤ length r) (λ r e. omega (arith, e, long)) rows even.each in
          one_for_key keys rows wide up (apart_at keys rows [] (λ j lt.
          let a : Row = get_or rows j [] in
          let b : Row = get_or rows (suc j) [] in
          let eb : b ≡ get_or rows (suc j) b = got_again rows (suc j) [] lt in
          apart j a b lt (got_again rows j [] (omega (arith, lt))) eb (each_in (λ (r : Row). keys ≤ length r) b rows wide (in_place rows (suc j) b lt eb))))
    ])

pub apart_less : (keys : ℕ) (rows : List Row) (n m : ℕ) → n ≤ m → AreApartBelow keys rows m → AreApartBelow keys rows n
apart_less keys rows n m le apart j a b lt = apart j a b (omega (arith, le, lt))

-- one more pair that hasn't one key
pub apart_more : (keys : ℕ) (rows : List Row) (i : ℕ) (low high : Row) → 1 ≤ i → i < length rows → low ≡ get_or rows (i - 1) low → high ≡ get_or rows i high → AreApartBelow keys rows i → (keys ≤ length high → has_key_of keys high low ≡ false) → AreApartBelow keys rows (i + 1)
apart_more keys rows i low high some lt is_low is_high apart lacks j a b less ea eb wide =
    elim (cases_lt (suc j) i) [
      | inl before ↦ apart j a b before ea eb wide
      | inr at ↦
          let here : suc j ≡ i = omega (arith, at, less) in
          let back : j ≡ i - 1 = omega (arith, here) in
          let one : a ≡ low = ea ∙ (ap (λ k. get_or rows k a) back ∙ (default rows (i - 1) a low (omega (arith, lt, some)) ∙ sym is_low)) in
          let other : b ≡ high = eb ∙ (ap (λ k. get_or rows k b) here ∙ (default rows i b high lt ∙ sym is_high)) in
          ap (λ (r : Row). has_key_of keys b r) one ∙ (ap (λ (r : Row). has_key_of keys r low) other ∙ lacks (subst (λ (r : Row). keys ≤ length r) other wide))
    ]
  where
    default : (xs : List Row) (n : ℕ) (d e : Row) → n < length xs → get_or xs n d ≡ get_or xs n e
    default [] n d e h = absurd (omega (arith, h))
    default (x ∷ xs) zero d e h = refl
    default (x ∷ xs) (suc n) d e h = default xs n d e (omega (arith, h))

-- ---- whether two rows have one key

pub key_told : (keys : ℕ) (row other : Row) (b : Bool) {xs ys : Row} → xs ≡ take keys other → ys ≡ take keys row → (b ≡ true → xs ≡ ys) → (xs ≡ ys → b ≡ true) → b ≡ has_key_of keys row other
key_told keys row other b ex ey there back =
    elim (has_key_of keys row other) as (λ t. has_key_of keys row other ≡ t → b ≡ t) [
      | true ↦ λ e. back (ex ∙ (same_is (take keys other) (take keys row) e ∙ sym ey))
      | false ↦ λ e. not_so b (λ h. true≢false (sym (subst (λ (r : Row). same_row (take keys other) r ≡ true) (sym ex ∙ (there h ∙ ey)) (itself (take keys other))) ∙ e))
    ] refl
  where
    not_so : (b : Bool) → (b ≡ true → ⊥) → b ≡ false
    not_so true h = absurd (h refl)
    not_so false h = refl

pub key_short : (keys : ℕ) (row other cells : Row) → cells ≡ other → keys ≤ length row → length cells < keys → false ≡ has_key_of keys row other
key_short keys row other cells is le short =
    elim (has_key_of keys row other) as (λ t. has_key_of keys row other ≡ t → false ≡ t) [
      | true ↦ λ e.
          let same : take keys other ≡ take keys row = same_is (take keys other) (take keys row) e in
          let n = length-take-le keys row le in
          let whole = take_all keys other (omega (arith, ap length is, short)) in
          let m = ap length (sym whole ∙ same) in absurd (omega (arith, n, m, ap length is, short))
      | false ↦ λ e. refl
    ] refl

pub clash_at : (keys : ℕ) (rows all : List Row) (i : ℕ) (low high : Row) → all ≡ rows → IsAscending rows → 1 ≤ i → i < length all → low ≡ get_or all (i - 1) low → high ≡ get_or all i high → has_key_of keys high low ≡ true → true ≡ has_clash keys rows
clash_at keys rows all i low high is up some lt is_low is_high same =
    let next : suc (i - 1) ≡ i = omega (arith, some) in
    sym (clash_here keys rows (i - 1) low high up (subst (λ (xs : List Row). suc (i - 1) < length xs) is (omega (arith, lt, next))) (subst (λ (xs : List Row). low ≡ get_or xs (i - 1) low) is is_low)
    (subst (λ (xs : List Row). high ≡ get_or xs (suc (i - 1)) high) is (subst (λ k. high ≡ get_or all k high) (sym next) is_high)) same)

pub clash_not : (keys : ℕ) (rows all : List Row) (i : ℕ) → all ≡ rows → IsAscending rows → HaveOneWidth rows → length all ≤ i → AreApartBelow keys all i → false ≡ has_clash keys rows
clash_not keys rows all i is up even le apart =
    sym (none_clashes keys rows up even (subst (λ (xs : List Row). AreApartBelow keys xs (length rows)) is (apart_less keys all (length rows) i (omega (arith, ap length is, le)) apart)))

pub same_told : (row other : Row) (b : Bool) {xs ys : Row} → xs ≡ other → ys ≡ row → (b ≡ true → xs ≡ ys) → (xs ≡ ys → b ≡ true) → b ≡ same_row other row
same_told row other b ex ey there back =
    elim (same_row other row) as (λ t. same_row other row ≡ t → b ≡ t) [
      | true ↦ λ e. back (ex ∙ (same_is other row e ∙ sym ey))
      | false ↦ λ e. not_so b (λ h. true≢false (sym (subst (λ (r : Row). same_row other r ≡ true) (sym ex ∙ (there h ∙ ey)) (itself other)) ∙ e))
    ] refl
  where
    not_so : (b : Bool) → (b ≡ true → ⊥) → b ≡ false
    not_so true h = absurd (h refl)
    not_so false h = refl
