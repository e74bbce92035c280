-- The turns of so many, round once.
use Rattle.std.proofs.Common.{◌≡◌, ℕ, zero, suc, ◌+◌, ◌-◌, ◌<◌, List, [], ◌∷◌, ◌++◌, length, get_or, take, drop, refl, sym, ap, ◌∙◌, arith, append_assoc, append-nil}
use Rattle.std.proofs.lemmas.Grind.{common_steps}
use Rattle.lt_leap.specs.Places.{counted_from, turned}
use Rattle.lt_leap.proofs.Turned.{back}

length-counted : (first n : ℕ) → length (counted_from first n) ≡ n
length-counted first zero = refl
length-counted first (suc n) = ap suc (length-counted (first + 1) n)

counted-push : (first n : ℕ) → counted_from first n ++ (first + n) ∷ [] ≡ counted_from first (suc n)
counted-push first zero = (let e : first + 0 ≡ first = omega arith in ap (λ k. k ∷ []) e)
counted-push first (suc n) = (let e : first + suc n ≡ first + 1 + n = omega arith in ap (λ k. first ∷ (counted_from (first + 1) n ++ k ∷ [])) e ∙ ap (λ t. first ∷ t) (counted-push (first + 1) n))

counted-zero : (n : ℕ) → counted_from 0 n ++ n ∷ [] ≡ counted_from 0 (suc n)
counted-zero n = (let e : n ≡ 0 + n = omega arith in ap (λ k. counted_from 0 n ++ k ∷ []) e ∙ counted-push 0 n)

get-counted : (first n i : ℕ) → i < n → get_or (counted_from first n) i 0 ≡ first + i
get-counted first zero i lt = absurd (omega arith)
get-counted first (suc n) zero lt = omega arith
get-counted first (suc n) (suc i) lt = (let rest = get-counted (first + 1) n i (omega arith) in omega arith)

long_both : (xs ys : List ℕ) → length (xs ++ ys) ≡ length xs + length ys
long_both xs ys = grind (arith, common_steps)

pub turned-long : (count turn : ℕ) → turn < count → length (turned count turn) ≡ count
turned-long count turn lt =
    let both = long_both (counted_from (turn + 1) (count - (turn + 1))) (counted_from 0 turn) in
    let a = length-counted (turn + 1) (count - (turn + 1)) in
    let b = length-counted 0 turn in
    omega arith

-- from the first turn on
pub turned-first : (count : ℕ) → 0 < count → turned count 0 ≡ counted_from 0 count
turned-first zero some = absurd (omega arith)
turned-first (suc n) some = (let e : suc n - (0 + 1) ≡ n = omega arith in ap (λ t. 0 ∷ t) (append-nil (counted_from 1 (suc n - (0 + 1))) ∙ ap (counted_from 1) e))

-- the first goes to the end
pub turned-next : (count turn : ℕ) → turn + 1 < count → drop 1 (turned count turn) ++ take 1 (turned count turn) ≡ turned count (turn + 1)
turned-next count turn lt =
    let one : suc turn ≡ turn + 1 = omega arith in
    let more : count - (turn + 1) ≡ suc (count - (turn + 1 + 1)) = omega arith in
    append_assoc (counted_from (turn + 1) (count - (turn + 1))) (counted_from 0 turn) (turn ∷ [])
    ∙ ap (λ t. counted_from (turn + 1) (count - (turn + 1)) ++ t) (counted-zero turn)
    ∙ ap (λ n. counted_from (turn + 1) n ++ counted_from 0 (suc turn)) more
    ∙ ap (λ n. (turn + 1) ∷ (counted_from (turn + 1 + 1) (count - (turn + 1 + 1)) ++ counted_from 0 n)) one

pub turned-round : (count turn : ℕ) → turn + 1 ≡ count → drop 1 (turned count turn) ++ take 1 (turned count turn) ≡ turned count 0
turned-round count turn last =
    let over : count - (turn + 1) ≡ 0 = omega arith in
    let all : suc turn ≡ count = omega arith in
    ap (λ n. (counted_from (turn + 1) n ++ counted_from 0 turn) ++ turn ∷ []) over ∙ counted-zero turn ∙ ap (counted_from 0) all ∙ sym (turned-first count (omega arith))

-- the turn before is the last
pub turned-last : (count turn before : ℕ) → turn < count → (turn ≡ 0 → before + 1 ≡ count) → (0 < turn → before + 1 ≡ turn) → get_or (turned count turn) (length (turned count turn) - 1) 0 ≡ before
turned-last count zero before lt start more =
    let at : length (turned count 0) - 1 ≡ before = (let long = turned-long count 0 lt in let e = start refl in omega arith) in
    let e = start refl in
    ap (λ a. get_or (turned count 0) a 0) at ∙ ap (λ xs. get_or xs before 0) (turned-first count lt) ∙ (let at : 0 + before ≡ before = omega arith in get-counted 0 count before (omega arith) ∙ at)
turned-last count (suc t) before lt start more =
    let front = suc t ∷ (counted_from (suc t + 1) (count - (suc t + 1)) ++ counted_from 0 t) in
    let is : front ++ t ∷ [] ≡ turned count (suc t) =
    ap (λ xs. suc t ∷ xs) (append_assoc (counted_from (suc t + 1) (count - (suc t + 1))) (counted_from 0 t) (t ∷ []) ∙ ap (λ xs. counted_from (suc t + 1) (count - (suc t + 1)) ++ xs) (counted-zero t)) in
    let at : length (turned count (suc t)) - 1 ≡ length front =
    (let e = ap length is in let f = long_both front (t ∷ []) in omega arith) in
    let e = more (omega arith) in
    let last : t ≡ before = omega arith in
    ap (λ xs. get_or xs (length (turned count (suc t)) - 1) 0) (sym is) ∙ back t front (length (turned count (suc t)) - 1) at ∙ last
