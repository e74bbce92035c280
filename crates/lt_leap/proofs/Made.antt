-- A ring made by putting one iterator after the other in its slot.
use Rattle.std.proofs.Common.{◌≡◌, ◌≢◌, ℕ, zero, suc, ◌+◌, ◌-◌, ◌<◌, ◌≤◌, ◌*◌, Bool, true, false, cond, nat_le, List, [], ◌∷◌, length, get_or, refl, sym, ap, ◌∙◌, subst, inl, inr, arith, ◌==◌, ◌||◌}
use Rattle.std.specs.List.{list_any, insert}
use Rattle.std.proofs.lemmas.Bool.{cases_lt}
use Rattle.std.proofs.lemmas.Bool.Decides.{nat_tests}
use Rattle.std.proofs.lemmas.List.Edits.{length-insert, get_or-insert_below, get_or-insert_at, get_or-insert_above}
use Rattle.lt_face.specs.Keys.{IsPlace, IsKeyList, least_from}
use Rattle.lt_leap.specs.Ring.{keys_at, IsRing, IsPart, IsSlot}
use Rattle.lt_leap.specs.Potential.{turns_before, moves_left, keys_left}
use Rattle.lt_leap.proofs.Turned.{cases_eq}
use Rattle.std.specs.Prelude.{filter}
use Rattle.std.proofs.Math.Nat.{mul-le-mul_left}
use Rattle.lt_leap.specs.Common.{has_key}
use Rattle.lt_leap.specs.Search.{NonePassed, IsGreatest}
use Rattle.lt_leap.proofs.Exact.{least_at_most, each_from_all}
use Rattle.lt_leap.proofs.Searched.{key_in, to_last}

pub part-none : (lists : List (List ℕ)) (heres : List ℕ) → IsPart lists heres [] 0
part-none lists heres = record {
  as_long = refl;
  covers = λ j lt. absurd (omega arith);
  in_range = λ a lt. absurd (omega arith);
  distinct = λ a b lt within. absurd (omega arith);
  rises = λ a b le within. absurd (omega arith);
  keyed = λ j lt. absurd (omega arith);
  placed = λ j lt. absurd (omega arith);
}

any_insert : (p : ℕ → Bool) (xs : List ℕ) (i x : ℕ) → list_any p (insert xs i x) ≡ (p x || list_any p xs)
any_insert p [] zero x = refl
any_insert p [] (suc i) x = refl
any_insert p (k ∷ xs) zero x = refl
any_insert p (k ∷ xs) (suc i) x = ap (λ t. p k || t) (any_insert p xs i x) ∙ swap (p k) (p x) (list_any p xs)
  where
    swap : (a b c : Bool) → (a || (b || c)) ≡ (b || (a || c))
    swap true true c = refl
    swap true false c = refl
    swap false b c = refl

or_right : (s t : Bool) → t ≡ true → (s || t) ≡ true
or_right true t h = refl
or_right false t h = h

module _ (lists : List (List ℕ)) (heres ring : List ℕ) (n at : ℕ) (part : IsPart lists heres ring n) (slot : IsSlot heres ring (get_or heres n 0) at)
    (keyed : IsKeyList (keys_at lists n)) (placed : IsPlace (keys_at lists n) (get_or heres n 0)) where
  long : length (insert ring at n) ≡ length ring + 1
  long = length-insert ring at n slot.within

  below : (a : ℕ) → a < at → get_or (insert ring at n) a 0 ≡ get_or ring a 0
  below a lt = get_or-insert_below ring at n 0 a lt slot.within

  here : (a : ℕ) → a ≡ at → get_or (insert ring at n) a 0 ≡ n
  here a is = rw is (get_or-insert_at ring at n 0 slot.within)

  above : (a : ℕ) → at < a → get_or (insert ring at n) a 0 ≡ get_or ring (a - 1) 0
  above a lt = subst (λ q. get_or (insert ring at n) q 0 ≡ get_or ring (a - 1) 0) {x = a - 1 + 1} (omega arith) (get_or-insert_above ring at n 0 (a - 1) (omega arith) slot.within)

  in_range_more : (a : ℕ) → a < length (insert ring at n) → get_or (insert ring at n) a 0 < n + 1
  in_range_more a lt = grind (arith, long, below a, here a, above a, part.in_range a, part.in_range (a - 1))

  distinct_more : (a b : ℕ) → a < b → b < length (insert ring at n) → get_or (insert ring at n) a 0 ≢ get_or (insert ring at n) b 0
  distinct_more a b lt within = grind (arith, long, below a, here a, above a, below b, here b, above b, part.distinct a b, part.distinct a (b - 1), part.distinct (a - 1) (b - 1), part.in_range a, part.in_range (a - 1), part.in_range b, part.in_range (b - 1))

  rises_more : (a b : ℕ) → a ≤ b → b < length (insert ring at n) → get_or heres (get_or (insert ring at n) a 0) 0 ≤ get_or heres (get_or (insert ring at n) b 0) 0
  rises_more a b le within =
      let len = long in
      elim (cases_lt b at) [
        | inl early ↦ rw (below a (omega arith), below b early) (part.rises a b le (let w = slot.within in omega arith))
        | inr late ↦ elim (cases_eq b at) [
          | inl b_is ↦ elim (cases_eq a at) [
            | inl a_is ↦ rw (here a a_is, here b b_is) (omega arith)
            | inr a_not ↦ rw (below a (let ne = a_not in less a at (omega arith) ne), here b b_is) (slot.before a (less a at (omega arith) a_not))
          ]
          | inr b_not ↦
              let b_above : at < b = less at b late (λ h. b_not (sym h)) in
              elim (cases_lt a at) [
                | inl a_early ↦ rw (below a a_early, above b b_above) (part.rises a (b - 1) (omega arith) (omega arith))
                | inr a_late ↦ elim (cases_eq a at) [
                  | inl a_is ↦ rw (here a a_is, above b b_above) (slot.after (b - 1) (omega arith) (omega arith))
                  | inr a_not ↦ rw (above a (less at a a_late (λ h. a_not (sym h))), above b b_above) (part.rises (a - 1) (b - 1) (omega arith) (omega arith))
                ]
              ]
        ]
      ]
    where
      less : (x y : ℕ) → x ≤ y → x ≢ y → x < y
      less x y le ne = elim (cases_lt x y) [ inl lt ↦ lt | inr ge ↦ absurd (ne (omega arith)) ]

  covers_more : (j : ℕ) → j < n + 1 → list_any (λ i. i == j) (insert ring at n) ≡ true
  covers_more j lt = any_insert (λ i. i == j) ring at n ∙ elim (cases_eq j n) [
    | inl same ↦ (let e : (n == j) ≡ true = grind (arith, nat_tests) in rw e refl)
    | inr other ↦ or_right (n == j) (list_any (λ i. i == j) ring) (part.covers j (elim (cases_lt j n) [ inl l ↦ l | inr g ↦ absurd (other (omega arith)) ]))
  ]

  pub part-more : IsPart lists heres (insert ring at n) (n + 1)
  part-more = record {
    as_long = long ∙ ap (λ k. k + 1) part.as_long;
    covers = covers_more;
    in_range = in_range_more;
    distinct = distinct_more;
    rises = rises_more;
    keyed = λ j lt. elim (cases_eq j n) [ inl same ↦ rw same keyed | inr other ↦ part.keyed j (elim (cases_lt j n) [ inl l ↦ l | inr g ↦ absurd (other (omega arith)) ]) ];
    placed = λ j lt. elim (cases_eq j n) [ inl same ↦ rw same placed | inr other ↦ part.placed j (elim (cases_lt j n) [ inl l ↦ l | inr g ↦ absurd (other (omega arith)) ]) ];
  }

-- the whole ring
pub part-all : (lists : List (List ℕ)) (heres ring : List ℕ) (n : ℕ) → IsPart lists heres ring n → n ≡ length heres → length lists ≡ length heres → 0 < n → IsRing lists heres ring
part-all lists heres ring n part all listed some = record {
  some = (let e = part.as_long in omega arith);
  as_long = part.as_long ∙ all;
  listed = listed;
  covers = λ j lt. part.covers j (omega arith);
  in_range = λ a lt. (let r = part.in_range a lt in omega arith);
  distinct = part.distinct;
  rises = part.rises;
  keyed = λ j lt. part.keyed j (omega arith);
  placed = λ j lt. part.placed j (omega arith);
}

-- ---- the first search

first_passed : (lists : List (List ℕ)) (heres : List ℕ) → length lists ≡ length heres → ((j : ℕ) → j < length heres → IsKeyList (keys_at lists j))
    → ((i : ℕ) → i < length heres → get_or heres i 0 ≡ least_from (keys_at lists i) 0) → NonePassed lists heres 0
first_passed lists heres listed keyed first c common le i lt =
    let most = least_at_most (keys_at lists i) 0 c (keyed i lt) (each_from_all (λ ks. has_key ks c) lists i common (omega arith)) (omega arith) in
    let is = first i lt in
    omega arith

few_left : (ks : List ℕ) (b : ℕ) → keys_left ks b ≤ length ks
few_left [] b = omega arith
few_left (k ∷ ks) b =
    let rest = few_left ks b in
    elim (nat_le b k) as (λ t. length (cond t (k ∷ filter (λ l. nat_le b l) ks) (filter (λ l. nat_le b l) ks)) ≤ length (k ∷ ks)) [ true ↦ omega arith | false ↦ omega arith ]

turns_within : (j : ℕ) (ring : List ℕ) → turns_before j ring ≤ length ring
turns_within j [] = omega arith
turns_within j (i ∷ is) =
    let rest = turns_within j is in
    elim (i == j) as (λ t. cond t 0 (turns_before j is + 1) ≤ length (i ∷ is)) [ true ↦ omega arith | false ↦ omega arith ]

-- what a first search starts from: no common key was passed, the last of the ring is the greatest, and few moves can come
pub record Starts (lists : List (List ℕ)) (heres ring : List ℕ) : Type 0 where
  pub none : NonePassed lists heres 0
  pub greatest : IsGreatest heres (key_in heres ring (length ring - 1))
  pub left : (i : ℕ) → i < length heres → moves_left lists heres ring i ≤ length heres * (length (keys_at lists i) + 1)

pub starts : (lists : List (List ℕ)) (heres ring : List ℕ) → IsRing lists heres ring → ((i : ℕ) → i < length heres → get_or heres i 0 ≡ least_from (keys_at lists i) 0) → Starts lists heres ring
starts lists heres ring is first =
    let some = is.some in
    record {
      none = first_passed lists heres is.listed is.keyed first;
      greatest = record {
        place = get_or ring (length ring - 1) 0;
        within = is.in_range (length ring - 1) (omega arith);
        is = refl;
        most = λ i lt. to_last lists heres ring (length ring - 1) is (omega arith) i lt;
      };
      left = λ i lt.
          let few = mul-le-mul_left (length heres) (few_left (keys_at lists i) (get_or heres i 0)) in
          let turns = turns_within i ring in
          let long = is.as_long in
          rw long (omega arith);
    }
