-- Groups of a list that is made from numbers.
use Rattle.std.proofs.Common.{◌≡◌, ◌∙◌, ℕ, zero, suc, ◌+◌, ◌-◌, ◌*◌, ◌/◌, ◌≤◌, min, List, [], ◌∷◌, ◌++◌, length, take, drop, sym, ap, add-zero, inl, inr, arith}
use Rattle.std.specs.Prelude.{map}
use Rattle.std.proofs.Math.Nat.{sub-zero}
use Rattle.std.proofs.lemmas.Bool.{cases_lt}
use Rattle.std.specs.List.{range_with_len}
use Rattle.std.proofs.lemmas.List.{map_push, take_all}
use Rattle.std.proofs.lemmas.List.FromFn.{length-map-range_with_len, map-range_with_len_more, take-map-range_with_len}
use Rattle.lt_gen.specs.Script.{group_at, groups, numbers}

-- what is left behind the first of them
drop-range : {X : Type 0} (f : ℕ → X) (m a n : ℕ) → drop m (map f (range_with_len a n)) ≡ map f (range_with_len (a + m) (n - m))
drop-range f zero a n = rw (add-zero, sub-zero)
drop-range f (suc m) a zero = let e : 0 - suc m ≡ 0 = omega arith in rw e
drop-range f (suc m) a (suc n) =
    let e : (a + 1) + m ≡ a + suc m = omega arith in
    let d : suc n - suc m ≡ n - m = omega arith in
    rw d (rw (← e) (drop-range f m (a + 1) n))

take-range : {X : Type 0} (f : ℕ → X) (m a n : ℕ) → take m (map f (range_with_len a n)) ≡ map f (range_with_len a (min m n))
take-range f m a n =
    elim (cases_lt m n) [
      | inl long ↦ let e : min m n ≡ m = omega (arith, long) in
          let within : m ≤ n = omega (arith, long) in
          rw e (take-map-range_with_len f a n m within)
      | inr short ↦ let e : min m n ≡ n = omega (arith, short) in
          let all : length (map f (range_with_len a n)) ≤ m = rw (length-map-range_with_len f a n) short in
          rw e (take_all m (map f (range_with_len a n)) all)
    ]

module _ {X : Type 0} (f : ℕ → X) where
  pub group-whole : (n j end : ℕ) → end ≡ 64 * j + min 64 (n - 64 * j) → group_at (map f (numbers n)) j ≡ map f (range_with_len (64 * j + 1) (end - 64 * j))
  group-whole n j end e =
      let start : 1 + 64 * j ≡ 64 * j + 1 = omega arith in
      let count : end - 64 * j ≡ min 64 (n - 64 * j) = omega (arith, e) in
      ap (take 64) (drop-range f (64 * j) 1 n) ∙ take-range f 64 (1 + 64 * j) (n - 64 * j) ∙ rw (start, count)

  -- one element more of a group
  pub group-more : (start before : ℕ) (xs : List X) (x : X) → start ≤ before → xs ≡ map f (range_with_len (start + 1) (before - start)) → x ≡ f (before + 1)
      → xs ++ x ∷ [] ≡ map f (range_with_len (start + 1) ((before + 1) - start))
  group-more start before xs x h is more =
      let place : (start + 1) + (before - start) ≡ before + 1 = omega (arith, h) in
      let count : (before + 1) - start ≡ (before - start) + 1 = omega (arith, h) in
      rw (is, more, count) (sym (map-range_with_len_more f (start + 1) (before - start) (before + 1) place))

-- one group more
pub groups-more : {X Y : Type 0} (g : List X → Y) (xs : List X) (j : ℕ) (ys : List Y) (y : Y) → ys ≡ map g (map (group_at xs) (range_with_len 0 j)) → y ≡ g (group_at xs j)
    → ys ++ y ∷ [] ≡ map g (map (group_at xs) (range_with_len 0 (j + 1)))
groups-more g xs j ys y is more =
    rw (is, more) (sym (ap (map g) (map-range_with_len_more (group_at xs) 0 j j (omega arith)) ∙ map_push g (map (group_at xs) (range_with_len 0 j)) (group_at xs j)))

-- all groups
pub groups-all : {X Y : Type 0} (g : List X → Y) (f : ℕ → X) (n count : ℕ) → count ≡ (n + 63) / 64
    → map g (map (group_at (map f (numbers n))) (range_with_len 0 count)) ≡ map g (groups (map f (numbers n)))
groups-all g f n count e = rw (e, length-map-range_with_len f 1 n)
