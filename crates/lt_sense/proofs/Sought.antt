-- The binary digits that a search by halves has left.
use Rattle.std.proofs.Common.{ℕ, zero, suc, ◌≡◌, ◌+◌, ◌^◌, ◌<◌, ◌≤◌, arith, refl}
use Rattle.std.proofs.Math.Nat.{two-pow-succ}

-- however many digits suffice for n, what is left of them suffices for the span
abbrev pub AreDigitsLeft : ℕ → ℕ → ℕ → ℕ → Type 0
AreDigitsLeft n first now span = (d : ℕ) → n < 2 ^ d → (e : ℕ) × (span < 2 ^ e) × (now + e ≤ first + d)

double : (e : ℕ) → 2 ^ suc e ≡ 2 ^ e + 2 ^ e
double e = two-pow-succ e

fewer : (first d now span more e : ℕ) → 0 < span → more + more ≤ span → span < 2 ^ e → now + e ≤ first + d → (f : ℕ) × (more < 2 ^ f) × (now + 1 + f ≤ first + d)
fewer first d now span more zero some half lt le = absurd (let q : 2 ^ 0 ≡ 1 = refl in omega (arith, q, some, lt))
fewer first d now span more (suc e) some half lt le = (e, (let q = double e in omega (arith, q, half, lt)), omega (arith, le))

pub digits_next : (n first now span more : ℕ) → AreDigitsLeft n first now span → 0 < span → more + more ≤ span → AreDigitsLeft n first (now + 1) more
digits_next n first now span more h some half d lt = let r = h d lt in fewer first d now span more r.0 some half r.1 r.2

pub digits_ended : (n first now span : ℕ) → AreDigitsLeft n first now span → (d : ℕ) → n < 2 ^ d → now ≤ first + d
digits_ended n first now span h d lt = let r = h d lt in let q = r.2 in omega (arith, q)
