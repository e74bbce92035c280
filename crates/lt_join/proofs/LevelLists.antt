-- The lists of keys that the iterators of a level go through, and that the count of its moves speaks of.
use Rattle.std.specs.Prelude.{◌≡◌, ℕ, ◌+◌, ◌*◌, ◌≤◌, ◌<◌, true, nat_lt, List, [], ◌∷◌, ◌++◌, map, length}
use Rattle.std.specs.List.{AllByRecursion, AllZip, list_all}
use Rattle.std.proofs.Common.{refl, subst, inl, inr, cond, arith}
use Rattle.std.proofs.lemmas.Bool.{ltb-true, ltb-false, cases_Bool, and_from}
use Rattle.std.proofs.Math.Nat.{mul-le-mul_left}
use Rattle.lt_face.specs.Lists.{IsIn}
use Rattle.lt_query.proofs.Distinct.{IsIn-filter}
use Rattle.lt_leap.specs.Common.{has_key, common_keys}
use Rattle.lt_leap.specs.Potential.{least_length, join_cost}
use Rattle.lt_join.proofs.Opened.{zip_as_long}
use Rattle.lt_join.proofs.Under.{has_key-of}

-- ---- lists

pub length_map : {X Y : Type 0} (f : X → Y) (xs : List X) → length (map f xs) ≡ length xs
length_map f [] = refl
length_map f (x ∷ xs) = let e = length_map f xs in omega arith

pub length_append : {X : Type 0} (xs ys : List X) → length (xs ++ ys) ≡ length xs + length ys
length_append [] ys = omega arith
length_append (x ∷ xs) ys = let r = length_append xs ys in omega arith

pub all_append : {X : Type 0} (P : X → Type 0) (xs ys : List X) → AllByRecursion P xs → AllByRecursion P ys → AllByRecursion P (xs ++ ys)
all_append P [] ys h k = k
all_append P (x ∷ xs) ys h k = (h.0, all_append P xs ys h.1 k)

-- ---- lists of the same keys

-- the same members, and no more of them
pub record SameKeys (xs ys : List ℕ) : Type 0 where
  pub to : (y : ℕ) → IsIn y ys → IsIn y xs
  pub from : (y : ℕ) → IsIn y xs → IsIn y ys
  pub short : length ys ≤ length xs

pub same_in_all : (key : ℕ) (xss yss : List (List ℕ)) → AllZip SameKeys xss yss → AllByRecursion (λ ks. IsIn key ks) yss → AllByRecursion (λ ks. IsIn key ks) xss
same_in_all key [] [] h k = tt
same_in_all key [] (ys ∷ yss) h k = absurd h
same_in_all key (xs ∷ xss) [] h k = absurd h
same_in_all key (xs ∷ xss) (ys ∷ yss) h k = (h.0.to key k.0, same_in_all key xss yss h.1 k.1)

all_have : (key : ℕ) (xss : List (List ℕ)) → AllByRecursion (λ ks. IsIn key ks) xss → list_all (λ ys. has_key ys key) xss ≡ true
all_have key [] h = refl
all_have key (xs ∷ xss) h = and_from (has_key xs key) _ (has_key-of key xs h.0) (all_have key xss h.1)

pub in_common : (key : ℕ) (xss : List (List ℕ)) → 0 < length xss → AllByRecursion (λ ks. IsIn key ks) xss → IsIn key (common_keys xss)
in_common key [] lt h = absurd (omega arith)
in_common key (xs ∷ rest) lt h = IsIn-filter (λ k. list_all (λ ys. has_key ys k) rest) key xs h.0 (all_have key rest h.1)

-- ---- the least list

less_least : (a m a' m' : ℕ) → a' ≤ a → m' ≤ m → cond (nat_lt a' m') a' m' ≤ cond (nat_lt a m) a m
less_least a m a' m' la lm =
    elim (cases_Bool (nat_lt a' m')) [
      | inl t' ↦ (let u = ltb-true a' m' t' in rw t' (elim (cases_Bool (nat_lt a m)) [ inl t ↦ rw t la | inr f ↦ rw f (omega arith) ]))
      | inr f' ↦ (let u = ltb-false a' m' f' in rw f' (elim (cases_Bool (nat_lt a m)) [ inl t ↦ rw t (omega arith) | inr f ↦ rw f lm ]))
    ]

-- the shortest of the iterators' lists is no longer than the least that the count speaks of
least-least : (xss yss : List (List ℕ)) → AllZip SameKeys xss yss → least_length yss ≤ least_length xss
least-least [] [] h = omega arith
least-least [] (ys ∷ yss) h = absurd h
least-least (xs ∷ xss) [] h = absurd h
least-least (xs ∷ []) (ys ∷ []) h = h.0.short
least-least (xs ∷ []) (ys ∷ zs ∷ yss) h = absurd h.1
least-least (xs ∷ ws ∷ xss) (ys ∷ []) h = absurd h.1
least-least (xs ∷ ws ∷ xss) (ys ∷ zs ∷ yss) h =
    less_least (length xs) (least_length (ws ∷ xss)) (length ys) (least_length (zs ∷ yss)) h.0.short (least-least (ws ∷ xss) (zs ∷ yss) h.1)

pub cost-least : (xss yss : List (List ℕ)) → AllZip SameKeys xss yss → join_cost yss ≤ join_cost xss
cost-least xss yss h =
    let n = zip_as_long SameKeys xss yss h in
    let same : length yss ≡ length xss = omega arith in
    let fewer = mul-le-mul_left (length yss) (let b = least-least xss yss h in let c : least_length yss + 2 ≤ least_length xss + 2 = omega arith in c) in
    subst (λ k. join_cost yss ≤ k * (least_length xss + 2)) same fewer
