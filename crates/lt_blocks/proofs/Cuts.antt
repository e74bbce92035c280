-- Lists cut at the first place of a byte.
use Rattle.std.proofs.Common.{◌≡◌, ◌<◌, ◌≤◌, ◌+◌, ◌==◌, not, ℕ, zero, suc, true, false, List, [], ◌∷◌, ◌++◌, length, take, drop, get_or, refl, sym, ap, subst, ◌∙◌, arith}
use Rattle.std.specs.List.{prefix_len}
use Rattle.std.proofs.lemmas.Bool.{eqb-true, eq-eqb}
use Rattle.std.proofs.lemmas.List.{take_all, take-append-drop}
use Rattle.std.proofs.lemmas.List.Sums.{prefix_len_passes, prefix_len_stops}
use Rattle.lt_blocks.specs.Lines.{Lacks}

-- how many bytes stand before it
abbrev pub before : ℕ → List ℕ → ℕ
before c xs = prefix_len (λ b. not (b == c)) xs

-- two lists that are cut at it are cut alike
pub cut_same : (c : ℕ) (a b x y : List ℕ) → Lacks c a → Lacks c b → a ++ (c ∷ x) ≡ b ++ (c ∷ y) → (a ≡ b) × (x ≡ y)
cut_same c [] [] x y p q e = (refl, cc)
cut_same c [] (f ∷ b) x y p q e = absurd (q.0 (let h : f ≡ c = cc in h))
cut_same c (d ∷ a) [] x y p q e = absurd (p.0 (let h : d ≡ c = cc in h))
cut_same c (d ∷ a) (f ∷ b) x y p q e =
    let tail : a ++ (c ∷ x) ≡ b ++ (c ∷ y) = cc in
    let r = cut_same c a b x y p.1 q.1 tail in
    let front : a ≡ b = r.0 in
    let whole : d ∷ a ≡ f ∷ b = cc in
    (whole, r.1)

-- it isn't lacking where it stands
pub stands : (c : ℕ) (a x : List ℕ) → Lacks c (a ++ (c ∷ x)) → ⊥
stands c [] x p = p.0 refl
stands c (d ∷ a) x p = stands c a x p.1

pub lacks_both : (c : ℕ) (a b : List ℕ) → Lacks c a → Lacks c b → Lacks c (a ++ b)
lacks_both c [] b p q = q
lacks_both c (d ∷ a) b p q = (p.0, lacks_both c a b p.1 q)

differs : (x c : ℕ) → not (x == c) ≡ true → x ≡ c → ⊥
differs x c n e = absurd (let t : x == c ≡ true = eq-eqb x c e in cc)

same : (x c : ℕ) → not (x == c) ≡ false → x ≡ c
same x c n = elim (x == c) as (λ t. x == c ≡ t → not t ≡ false → x ≡ c) [ true ↦ (λ e m. eqb-true x c e) | false ↦ (λ e m. absurd cc) ] refl n

lacks_below : (c : ℕ) (xs : List ℕ) (k : ℕ) → ((i : ℕ) → i < k → not (get_or xs i 0 == c) ≡ true) → Lacks c (take k xs)
lacks_below c [] zero h = tt
lacks_below c (x ∷ xs) zero h = tt
lacks_below c [] (suc k) h = tt
lacks_below c (x ∷ xs) (suc k) h = (differs x c (h 0 (omega arith)), lacks_below c xs k (λ i l. h (suc i) (omega arith)))

drop_at : (xs : List ℕ) (k : ℕ) → k < length xs → drop k xs ≡ get_or xs k 0 ∷ drop (k + 1) xs
drop_at [] k h = absurd (omega (arith, h))
drop_at (x ∷ xs) zero h = refl
drop_at (x ∷ xs) (suc k) h =
    let further : k < length xs = omega (arith, h) in
    let after : suc k + 1 ≡ suc (k + 1) = omega arith in
    rw after (drop_at xs k further)

pub front_lacks : (c : ℕ) (xs : List ℕ) → Lacks c (take (before c xs) xs)
front_lacks c xs = lacks_below c xs (before c xs) (λ i l. prefix_len_passes (λ b. not (b == c)) xs i 0 l)

-- the bytes before it, it, and what comes behind
pub cut_place : (c : ℕ) (xs : List ℕ) (k : ℕ) → k ≡ before c xs → k < length xs → (xs ≡ take k xs ++ (c ∷ drop (k + 1) xs)) × Lacks c (take k xs)
cut_place c xs k at within =
    let low : before c xs < length xs = subst (λ n. n < length xs) at within in
    let is : get_or xs k 0 ≡ c = subst (λ n. get_or xs n 0 ≡ c) (sym at) (same (get_or xs (before c xs) 0) c (prefix_len_stops (λ b. not (b == c)) xs 0 low)) in
    (sym (take-append-drop k xs) ∙ ap (λ (l : List ℕ). take k xs ++ l) (drop_at xs k within ∙ ap (λ (z : ℕ). z ∷ drop (k + 1) xs) is), subst (λ n. Lacks c (take n xs)) (sym at) (front_lacks c xs))

-- it is nowhere
pub cut_nowhere : (c : ℕ) (xs : List ℕ) (k : ℕ) → k ≡ before c xs → length xs ≤ k → Lacks c xs
cut_nowhere c xs k at past = subst (Lacks c) (take_all k xs past) (subst (λ n. Lacks c (take n xs)) (sym at) (front_lacks c xs))
