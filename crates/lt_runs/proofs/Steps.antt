-- What is left to do, as a number: bytes that may still be taken, and bytes that are kept.
use Rattle.std.proofs.Common.{◌≡◌, ◌≤◌, ◌<◌, ◌+◌, ◌*◌, ◌-◌, ℕ, Bool, true, false, zero, suc, refl, arith}
use Rattle.lt_runs.specs.Input.{limit}

abbrev pub reads_left : Bool → ℕ → ℕ
reads_left true count = zero
reads_left false count = suc (limit - count)

abbrev pub left_to_do : Bool → ℕ → ℕ → ℕ
left_to_do ended count kept = (limit + 1) * reads_left ended count + kept

-- less after an item
pub less_kept : (ended : Bool) (count old new : ℕ) → new < old → left_to_do ended count new < left_to_do ended count old
less_kept ended count old new less = omega (arith, less)

-- less once more was taken, or the end was met
pub less_taken : (ended : Bool) (count now old new : ℕ) → (ended ≡ false → count < now) → new ≤ now → now ≤ limit → left_to_do ended now new < left_to_do false count old
less_taken true count now old new more few within = omega (arith, few, within)
less_taken false count now old new more few within = let m : count < now = more refl in omega (arith, m, few, within)
