-- What a turn of the ring keeps.
use Rattle.std.proofs.Common.{◌≡◌, ◌≢◌, ℕ, suc, ◌+◌, ◌*◌, ◌<◌, ◌≤◌, ◌^◌, Bool, true, false, List, [], ◌∷◌, ◌++◌, length, get_or, set, refl, sym, ap, ◌∙◌, subst, inl, inr, arith, ◌==◌, ◌||◌, ◌⊎◌, length-set}
use Rattle.std.specs.List.{list_any}
use Rattle.std.proofs.Math.Nat.{mul-le-mul_left}
use Rattle.std.proofs.lemmas.Bool.{cases_lt}
use Rattle.std.proofs.lemmas.Bool.Decides.{nat_tests}
use Rattle.std.proofs.lemmas.Grind.{common_steps}
use Rattle.lt_face.specs.Keys.{end_key, least_from, IsPlace}
use Rattle.lt_face.proofs.KeyLemmas.{least_again, least_above}
use Rattle.lt_leap.specs.Potential.{keys_left, moves_left}
use Rattle.lt_leap.specs.Ring.{keys_at, IsRing}
use Rattle.lt_leap.proofs.Left.{left_falls, turns-push_there, turns-push_itself}

any_push : (j i : ℕ) (is : List ℕ) → list_any (λ k. k == j) (is ++ i ∷ []) ≡ ((i == j) || list_any (λ k. k == j) is)
any_push j i [] = refl
any_push j i (k ∷ is) = ap (λ t. (k == j) || t) (any_push j i is) ∙ swap (k == j) (i == j) (list_any (λ k. k == j) is)
  where
    swap : (a b c : Bool) → (a || (b || c)) ≡ (b || (a || c))
    swap true true c = refl
    swap true false c = refl
    swap false b c = refl

front : (i : ℕ) (is : List ℕ) (a : ℕ) → a < length is → get_or (is ++ i ∷ []) a 0 ≡ get_or is a 0
front i is a lt = grind (arith, common_steps)

pub back : (i : ℕ) (is : List ℕ) (a : ℕ) → a ≡ length is → get_or (is ++ i ∷ []) a 0 ≡ i
back i is a at = grind (arith, common_steps)

push_long : (i : ℕ) (is : List ℕ) → length (is ++ i ∷ []) ≡ length is + 1
push_long i is = grind (arith, common_steps)

pub cases_eq : (a b : ℕ) → (a ≡ b) ⊎ (a ≢ b)
cases_eq a b = elim (cases_lt a b) [
  | inl less ↦ inr (λ h. omega arith)
  | inr more ↦ elim (cases_lt b a) [ inl less ↦ inr (λ h. omega arith) | inr same ↦ inl (omega arith) ]
]

not_eq : (a b : ℕ) → a ≢ b → (a == b) ≡ false
not_eq a b ne = grind (arith, nat_tests)

module _ (lists : List (List ℕ)) (heres : List ℕ) (j : ℕ) (is : List ℕ) (to : ℕ) (ring : IsRing lists heres (j ∷ is))
    (ahead : (i : ℕ) → i < length heres → get_or heres i 0 ≤ to) (low : to ≤ 2 ^ 120) where
  abbrev pub y : ℕ
  y = least_from (keys_at lists j) to

  j_in : j < length heres
  j_in = ring.in_range 0 ring.some

  pub y_up : to ≤ y
  y_up = least_above (keys_at lists j) to (omega arith)

  pub at_j : get_or (set heres j y) j 0 ≡ y
  at_j = grind (arith, common_steps, j_in)

  pub at_other : (i : ℕ) → i ≢ j → get_or (set heres j y) i 0 ≡ get_or heres i 0
  at_other i ne = grind (arith, common_steps)

  under_y : (i : ℕ) → i < length heres → get_or (set heres j y) i 0 ≤ y
  under_y i lt = elim (cases_lt i j) [
    | inl less ↦ (let e = at_other i (λ h. omega arith) in let up = y_up in let a = ahead i lt in omega arith)
    | inr more ↦ elim (cases_lt j i) [
      | inl less ↦ (let e = at_other i (λ h. omega arith) in let up = y_up in let a = ahead i lt in omega arith)
      | inr same ↦ (let is_j : i ≡ j = omega arith in let e : get_or (set heres j y) i 0 ≡ y = rw is_j at_j in omega arith)
    ]
  ]

  in_rot : (a : ℕ) → a < length (is ++ j ∷ []) → get_or (is ++ j ∷ []) a 0 < length heres
  in_rot a lt = elim (cases_lt a (length is)) [
    | inl less ↦ rw (front j is a less) (ring.in_range (suc a) (omega arith))
    | inr last ↦ (let len = push_long j is in rw (back j is a (omega arith)) j_in)
  ]

  covers_rot : (i : ℕ) → i < length (set heres j y) → list_any (λ k. k == i) (is ++ j ∷ []) ≡ true
  covers_rot i lt = any_push i j is ∙ ring.covers i (let len = length-set heres j y in omega arith)

  distinct_rot : (a b : ℕ) → a < b → b < length (is ++ j ∷ []) → get_or (is ++ j ∷ []) a 0 ≢ get_or (is ++ j ∷ []) b 0
  distinct_rot a b lt within same =
      let len = push_long j is in
      let in_a : a < length is = omega arith in
      elim (cases_lt b (length is)) [
        | inl less ↦ ring.distinct (suc a) (suc b) (omega arith) (omega arith) (sym (front j is a in_a) ∙ same ∙ front j is b less)
        | inr last ↦ ring.distinct 0 (suc a) (omega arith) (omega arith) (sym (sym (front j is a in_a) ∙ same ∙ back j is b (omega arith)))
      ]

  value_front : (a : ℕ) → a < length is → get_or (set heres j y) (get_or (is ++ j ∷ []) a 0) 0 ≡ get_or heres (get_or is a 0) 0
  value_front a lt =
      rw (front j is a lt) (at_other (get_or is a 0) (λ same. ring.distinct 0 (suc a) (omega arith) (omega arith) (sym same)))

  value_back : (a : ℕ) → a ≡ length is → get_or (set heres j y) (get_or (is ++ j ∷ []) a 0) 0 ≡ y
  value_back a at = rw (back j is a at) at_j

  rises_rot : (a b : ℕ) → a ≤ b → b < length (is ++ j ∷ []) → get_or (set heres j y) (get_or (is ++ j ∷ []) a 0) 0 ≤ get_or (set heres j y) (get_or (is ++ j ∷ []) b 0) 0
  rises_rot a b le within =
      let len = push_long j is in
      elim (cases_lt b (length is)) [
        | inl less ↦ rw (value_front a (omega arith), value_front b less) (ring.rises (suc a) (suc b) (omega arith) (omega arith))
        | inr last ↦ rw (value_back b (omega arith)) (under_y (get_or (is ++ j ∷ []) a 0) (in_rot a (omega arith)))
      ]

  placed_rot : (i : ℕ) → i < length (set heres j y) → IsPlace (keys_at lists i) (get_or (set heres j y) i 0)
  placed_rot i lt =
      let len = length-set heres j y in
      let inside : i < length heres = omega arith in
      elim (cases_lt i j) [
        | inl less ↦ rw (at_other i (λ h. omega arith)) (ring.placed i inside)
        | inr more ↦ elim (cases_lt j i) [
          | inl less ↦ rw (at_other i (λ h. omega arith)) (ring.placed i inside)
          | inr same ↦ (let is_j : i ≡ j = omega arith in rw (is_j, at_j) (least_again (keys_at lists j) to (ring.keyed j j_in)))
        ]
      ]

  -- the ring after the turn is a ring again
  pub IsRing-turned : IsRing lists (set heres j y) (is ++ j ∷ [])
  IsRing-turned = record {
    some = (let len = push_long j is in omega arith);
    as_long = (let a = push_long j is in let b = length-set heres j y in let c = ring.as_long in omega arith);
    listed = (let b = length-set heres j y in let c = ring.listed in omega arith);
    covers = covers_rot;
    distinct = distinct_rot;
    in_range = λ a lt. (let b = length-set heres j y in let c = in_rot a lt in omega arith);
    rises = rises_rot;
    keyed = λ i lt. ring.keyed i (let b = length-set heres j y in omega arith);
    placed = placed_rot;
  }

  -- fewer moves can come, by any iterator's keys, where this one had to rise
  pub left_less : (i : ℕ) → i < length heres → get_or heres j 0 ≢ end_key → get_or heres j 0 < y → moves_left lists (set heres j y) (is ++ j ∷ []) i < moves_left lists heres (j ∷ is) i
  left_less i inside key rose =
      let n = length (j ∷ is) in
      let len : length (is ++ j ∷ []) ≡ n = (let l = push_long j is in omega arith) in
      elim (cases_eq i j) [
        | inl same ↦
            let falls : keys_left (keys_at lists j) y + 1 ≤ keys_left (keys_at lists j) (get_or heres j 0) = (let less = left_falls (keys_at lists j) (get_or heres j 0) y (ring.placed j j_in) key rose in omega arith) in
            let times : n * (keys_left (keys_at lists j) y + 1) ≤ n * keys_left (keys_at lists j) (get_or heres j 0) = mul-le-mul_left n falls in
            let turn = turns-push_itself j is in
            let first : (j == j) ≡ true = grind (arith, nat_tests) in
            rw (same, at_j, len, first) (omega arith)
        | inr other ↦
            let there : list_any (λ k. k == i) is ≡ true = subst (λ t. (t || list_any (λ k. k == i) is) ≡ true) (not_eq j i (λ h. other (sym h))) (ring.covers i inside) in
            rw (at_other i other, len, turns-push_there i is (j ∷ []) there, not_eq j i (λ h. other (sym h))) (omega arith)
      ]
