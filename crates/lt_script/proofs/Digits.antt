-- The value of digits.
use Rattle.std.proofs.Common.{◌≡◌, ℕ, ◌+◌, ◌-◌, ◌*◌, ◌≤◌, ◌<◌, List, [], ◌∷◌, length, drop, get_or, arith, add-one, drop-cons}
use Rattle.std.specs.Prelude.{fold}
use Rattle.lt_model.specs.Grammar.{digits_value}

-- more digits make no smaller number
fold_grows : (n : ℕ) (ds : List ℕ) → n ≤ fold (λ n d. 10 * n + (d - 48)) n ds
fold_grows n [] = omega arith
fold_grows n (d ∷ ds) = let h : 10 * n + (d - 48) ≤ fold (λ n d. 10 * n + (d - 48)) (10 * n + (d - 48)) ds = fold_grows (10 * n + (d - 48)) ds in omega arith

-- with one digit more it is at most the whole
pub next_within : (value i : ℕ) (ds : List ℕ) → i < length ds → fold (λ n d. 10 * n + (d - 48)) value (drop i ds) ≡ digits_value ds → 10 * value + (get_or ds i 0 - 48) ≤ digits_value ds
next_within value i ds h is =
    let first : drop i ds ≡ get_or ds i 0 ∷ drop (i + 1) ds = rw (add-one, drop-cons ds i 0) in
    rw (← is) (rw first (fold_grows (10 * value + (get_or ds i 0 - 48)) (drop (i + 1) ds)))
