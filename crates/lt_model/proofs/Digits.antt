-- Digits to the base 256, the highest first, and the numbers that they write.
use Rattle.std.proofs.Common.{◌≡◌, ℕ, zero, suc, ◌+◌, ◌-◌, ◌*◌, ◌/◌, ◌%◌, ◌^◌, ◌<◌, ◌≤◌, List, [], ◌∷◌, length, take, fold, refl, sym, ap, ◌∙◌, arith}
use Rattle.std.specs.Prelude.{slice_index}
use Rattle.std.specs.List.{AllByRecursion}
use Rattle.std.specs.Int.{w128, byte_at, byte_worth, bytes_high_first, sum_through, from_be_bytes}
use Rattle.std.proofs.lemmas.List.Sums.{fold_more}
use Rattle.std.proofs.lemmas.List.{take_all}
use Rattle.std.proofs.Math.Nat.{pow-suc, div-div-eq-div-mul, mul_assoc, add-mul}

-- one more digit
abbrev pub step : ℕ → ℕ → ℕ
step n d = 256 * n + d

abbrev pub number : List ℕ → ℕ
number ds = fold step 0 ds

abbrev pub AreDigits : List ℕ → Type 0
AreDigits ds = AllByRecursion (λ d. d < 256) ds

-- what stands before k digits is the number over 256^k
pub high : (ds : List ℕ) (n k : ℕ) → length ds ≡ k → AreDigits ds → fold step n ds / 256 ^ k ≡ n
high [] n zero e all = omega arith
high [] n (suc k) e all = absurd (omega arith)
high (d ∷ ds) n zero e all = absurd (omega arith)
high (d ∷ ds) n (suc k) e all =
    let rest : fold step (256 * n + d) ds / 256 ^ k ≡ 256 * n + d = high ds (256 * n + d) k (omega arith) all.1 in
    let small : d < 256 = all.0 in
    let last : (256 * n + d) / 256 ≡ n = omega arith in
    ap (λ m. fold step (256 * n + d) ds / m) (pow-suc 256 k) ∙ sym (div-div-eq-div-mul (fold step (256 * n + d) ds) (256 ^ k) 256) ∙ ap (λ m. m / 256) rest ∙ last

byte_is : (k n q : ℕ) → n / 256 ^ k ≡ q → byte_at k n ≡ q % 256
byte_is zero n q e = omega arith
byte_is (suc k) n q e = ap (λ m. m % 256) e

-- the lowest bytes of a number are its last digits
pub digits_back : (ds : List ℕ) (n k : ℕ) → length ds ≡ k → AreDigits ds → bytes_high_first k (fold step n ds) ≡ ds
digits_back [] n zero e all = refl
digits_back [] n (suc k) e all = absurd (omega arith)
digits_back (d ∷ ds) n zero e all = absurd (omega arith)
digits_back (d ∷ ds) n (suc k) e all =
    let small : d < 256 = all.0 in
    let left : length ds ≡ k = omega arith in
    let first : byte_at k (fold step (256 * n + d) ds) ≡ d = byte_is k (fold step (256 * n + d) ds) (256 * n + d) (high ds (256 * n + d) k left all.1) ∙ omega arith in
    λ i. first i ∷ digits_back ds (256 * n + d) k left all.1 i

scaled : (n d p q : ℕ) → q ≡ p * 256 → n * q + d * p ≡ (256 * n + d) * p
scaled n d p q e = omega (arith, ap (λ m. n * m) e, mul_assoc n p 256, mul_assoc 256 n p, add-mul (256 * n) d p)

worth_more : (m n d : ℕ) → byte_worth (suc m) n + byte_worth m d ≡ byte_worth m (256 * n + d)
worth_more zero n d = omega arith
worth_more (suc m) n d = scaled n d (256 ^ suc m) (256 ^ suc (suc m)) (pow-suc 256 (suc m))

-- the first digits, at their worth
worth_front : (ds : List ℕ) (k j m : ℕ) → k ≡ j + m → j < length ds → sum_through (λ i. byte_worth (k - i) (slice_index ds i)) j ≡ byte_worth m (number (take (j + 1) ds))
worth_front ds k zero m e within =
    let first : slice_index ds 0 ≡ number (take (0 + 1) ds) = omega (arith, fold_more step 0 ds 0 0 within) in
    let left : k - 0 ≡ m = omega arith in
    ap (λ w. byte_worth w (slice_index ds 0)) left ∙ ap (byte_worth m) first
worth_front ds k (suc j) m e within =
    let earlier = worth_front ds k j (suc m) (omega arith) (omega arith) in
    let left : k - suc j ≡ m = omega arith in
    let f : ℕ → ℕ = λ i. byte_worth (k - i) (slice_index ds i) in
    let one_more : j + 1 ≡ suc j = omega arith in
    let more : 256 * number (take (j + 1) ds) + slice_index ds (suc j) ≡ number (take (suc j + 1) ds) = ap (λ n. 256 * number (take n ds) + slice_index ds (suc j)) one_more ∙ sym (fold_more step 0 ds (suc j) 0 within) in
    ap (λ s. s + f (suc j)) earlier ∙ ap (λ w. byte_worth (suc m) (number (take (j + 1) ds)) + byte_worth w (slice_index ds (suc j))) left ∙ worth_more m (number (take (j + 1) ds)) (slice_index ds (suc j)) ∙ ap (byte_worth m) more

-- 16 bytes, read as a number
pub bytes_number : (ds : List ℕ) → length ds ≡ 16 → from_be_bytes w128 ds ≡ number ds
bytes_number ds e = worth_front ds 15 15 0 refl (omega arith) ∙ ap number (take_all 16 ds (omega arith))

-- a number is not above what more digits make of it
pub grows : (ds : List ℕ) (n : ℕ) → n ≤ fold step n ds
grows [] n = omega arith
grows (d ∷ ds) n = omega (arith, grows ds (256 * n + d))

-- a smaller number stays smaller behind as many digits
pub stays_below : (xs ys : List ℕ) (m n : ℕ) → length xs ≡ length ys → AreDigits xs → m < n → fold step m xs < fold step n ys
stays_below [] [] m n e all h = h
stays_below [] (y ∷ ys) m n e all h = absurd (omega arith)
stays_below (x ∷ xs) [] m n e all h = absurd (omega arith)
stays_below (x ∷ xs) (y ∷ ys) m n e all h =
    let small : x < 256 = all.0 in
    stays_below xs ys (256 * m + x) (256 * n + y) (omega arith) all.1 (omega arith)
