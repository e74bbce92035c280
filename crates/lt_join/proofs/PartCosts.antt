-- So many moves for each of so many parts.
use Rattle.std.proofs.Common.{◌≡◌, ℕ, ◌+◌, ◌-◌, ◌*◌, ◌<◌, ◌≤◌, ap, ◌∙◌, arith}
use Rattle.std.proofs.Math.Nat.{add-mul}

-- the parts before a number, and those from it on
pub halves_cost : (first middle end most one next both : ℕ) → first ≤ middle → middle ≤ end → both ≡ one + next → one ≤ (middle - first) * most → next ≤ (end - middle) * most → both ≤ (end - first) * most
halves_cost first middle end most one next both le le' is a b =
    let n : end - first ≡ (middle - first) + (end - middle) = omega arith in
    let whole : (end - first) * most ≡ (middle - first) * most + (end - middle) * most = ap (λ k. k * most) n ∙ add-mul (middle - first) (end - middle) most in
    omega arith

pub more_parts : (few many most : ℕ) → few ≤ many → few * most ≤ many * most
more_parts few many most le =
    let n : many ≡ few + (many - few) = omega arith in
    let whole : many * most ≡ few * most + (many - few) * most = ap (λ k. k * most) n ∙ add-mul few (many - few) most in
    omega arith

pub one_part : (many most : ℕ) → 0 < many → most ≤ many * most
one_part many most some =
    let n : many ≡ 1 + (many - 1) = omega arith in
    let whole : many * most ≡ 1 * most + (many - 1) * most = ap (λ k. k * most) n ∙ add-mul 1 (many - 1) most in
    omega arith
