-- What the moves of a join cost, by its potential.
use Rattle.std.proofs.Common.{◌≡◌, ℕ, ◌+◌, ◌*◌, ◌<◌, ◌≤◌, List, length, get_or, sym, subst, arith}
use Rattle.lt_face.specs.Keys.{least_from}
use Rattle.lt_leap.specs.Ring.{keys_at, IsRing, IsFound}
use Rattle.lt_leap.specs.Potential.{least_length, shortest, moves_left, join_cost}
use Rattle.lt_leap.proofs.Made.{starts}
use Rattle.lt_leap.proofs.Shortest.{shortest_within, shortest_least}

-- what falls by every iterator's keys falls by those of the shortest
potential-falls : (lists lists' : List (List ℕ)) (heres ring heres' ring' : List ℕ) (begun now : ℕ) → lists' ≡ lists → IsRing lists heres ring
    → ((i : ℕ) → i < length heres → now + moves_left lists' heres' ring' i ≤ begun + moves_left lists heres ring i)
    → now + moves_left lists' heres' ring' (shortest lists') ≤ begun + moves_left lists heres ring (shortest lists)
potential-falls lists lists' heres ring heres' ring' begun now keys is falls =
    let some = is.some in
    let listed = is.listed in
    let long = is.as_long in
    let within = shortest_within lists (omega arith) in
    subst (λ ks. now + moves_left lists' heres' ring' (shortest ks) ≤ begun + moves_left lists heres ring (shortest lists)) (sym keys) (falls (shortest lists) (omega arith))

-- from iterators at their first keys
pub paid-first : (lists lists' : List (List ℕ)) (heres ring heres' ring' : List ℕ) (begun now n : ℕ) → IsRing lists heres ring → ((i : ℕ) → i < length heres → get_or heres i 0 ≡ least_from (keys_at lists i) 0)
    → lists' ≡ lists → n ≡ length heres
    → ((i : ℕ) → i < length heres → now + moves_left lists' heres' ring' i ≤ begun + moves_left lists heres ring i)
    → now + moves_left lists' heres' ring' (shortest lists') + n ≤ begun + join_cost lists
paid-first lists lists' heres ring heres' ring' begun now n is first keys count falls =
    let s = starts lists heres ring is first in
    let some = is.some in
    let listed = is.listed in
    let long = is.as_long in
    let left = s.left (shortest lists) (let w = shortest_within lists (omega arith) in omega arith) in
    let left' : moves_left lists heres ring (shortest lists) ≤ length lists * (least_length lists + 1) = rw (listed, sym (shortest_least lists)) left in
    let after = potential-falls lists lists' heres ring heres' ring' begun now keys is falls in
    omega arith

-- from a key that was found, to one above it
pub paid-more : (lists lists' : List (List ℕ)) (heres ring heres' ring' : List ℕ) (key to begun now : ℕ) → IsFound lists heres ring key → key < to → lists' ≡ lists
    → (get_or heres (get_or ring 0 0) 0 < to → (i : ℕ) → i < length heres → now + moves_left lists' heres' ring' i ≤ begun + moves_left lists heres ring i)
    → now + moves_left lists' heres' ring' (shortest lists') ≤ begun + moves_left lists heres ring (shortest lists)
paid-more lists lists' heres ring heres' ring' key to begun now found above keys falls =
    let at = found.together (get_or ring 0 0) (found.is_ring.in_range 0 found.is_ring.some) in
    potential-falls lists lists' heres ring heres' ring' begun now keys found.is_ring (falls (omega arith))
