-- Words of a line, one by one.
use Rattle.std.proofs.Common.{◌≡◌, ◌∙◌, ℕ, zero, suc, ◌+◌, ◌<◌, List, [], ◌∷◌, ◌++◌, length, take, drop, get_or, refl, sym, ap, append_assoc, append-nil, arith}
use Rattle.std.specs.List.{join_with_byte}
use Rattle.lt_report.specs.Texts.{joined, spaced}

-- words with spaces between them
pub join_joined : (words : List (List ℕ)) → join_with_byte 32 words ≡ joined 0 words
join_joined [] = refl
join_joined (w ∷ words) = after w words
  where
    further : (words : List (List ℕ)) (n : ℕ) → joined (suc n) words ≡ joined (suc (suc n)) words
    further [] n = refl
    further (u ∷ words) n = ap (λ (s : List ℕ). (32 ∷ u) ++ s) (further words (suc n))

    after : (w : List ℕ) (words : List (List ℕ)) → join_with_byte 32 (w ∷ words) ≡ w ++ joined 1 words
    after w [] = sym (append-nil w)
    after w (v ∷ words) = ap (λ (s : List ℕ). w ++ (32 ∷ s)) (after v words ∙ ap (λ (s : List ℕ). v ++ s) (further words 0))

-- behind the first word a space stands before each
pub spaced-later : (n : ℕ) (word : List ℕ) → 0 < n → spaced n word ≡ 32 ∷ word
spaced-later zero word h = absurd (omega (arith, h))
spaced-later (suc n) word h = refl

-- the words before a place, the word there, and those after it
pub joined-at : (n : ℕ) (words : List (List ℕ)) (i : ℕ) → i < length words → joined n words ≡ (joined n (take i words) ++ spaced (n + i) (get_or words i [])) ++ joined (n + i + 1) (drop (i + 1) words)
joined-at n [] i h = absurd (omega (arith, h))
joined-at n (w ∷ words) zero h =
    let here : n + 0 ≡ n = omega arith in
    let behind : n + 1 ≡ suc n = omega arith in
    rw (here, behind) refl
joined-at n (w ∷ words) (suc i) h =
    let further : i < length words = omega (arith, h) in
    let place : n + suc i ≡ suc n + i = omega arith in
    let after : suc i + 1 ≡ suc (i + 1) = omega arith in
    rw (place, after) (ap (λ (s : List ℕ). spaced n w ++ s) (joined-at (suc n) words i further)
    ∙ sym (append_assoc (spaced n w) (joined (suc n) (take i words) ++ spaced (suc n + i) (get_or words i [])) (joined (suc n + i + 1) (drop (i + 1) words)))
    ∙ ap (λ (s : List ℕ). s ++ joined (suc n + i + 1) (drop (i + 1) words)) (sym (append_assoc (spaced n w) (joined (suc n) (take i words)) (spaced (suc n + i) (get_or words i [])))))

-- one word more
pub joined-more : (n : ℕ) (words : List (List ℕ)) (i : ℕ) → i < length words → joined n (take (i + 1) words) ≡ joined n (take i words) ++ spaced (n + i) (get_or words i [])
joined-more n [] i h = absurd (omega (arith, h))
joined-more n (w ∷ words) zero h = let here : n + 0 ≡ n = omega arith in rw here (append-nil (spaced n w))
joined-more n (w ∷ words) (suc i) h =
    let further : i < length words = omega (arith, h) in
    let place : n + suc i ≡ suc n + i = omega arith in
    let after : suc i + 1 ≡ suc (i + 1) = omega arith in
    rw (place, after) (ap (λ (s : List ℕ). spaced n w ++ s) (joined-more (suc n) words i further) ∙ sym (append_assoc (spaced n w) (joined (suc n) (take i words)) (spaced (suc n + i) (get_or words i []))))

-- the same, at a place of the line
module _ (n : ℕ) (words : List (List ℕ)) (i place : ℕ) (word : List ℕ) (h : i < length words) (at : place ≡ n + i) (is : get_or words i [] ≡ word) where
  pub word-at : joined n words ≡ (joined n (take i words) ++ spaced place word) ++ joined (place + 1) (drop (i + 1) words)
  word-at =
      joined-at n words i h
      ∙ ap (λ (k : ℕ). (joined n (take i words) ++ spaced k (get_or words i [])) ++ joined (k + 1) (drop (i + 1) words)) (sym at)
      ∙ ap (λ (w : List ℕ). (joined n (take i words) ++ spaced place w) ++ joined (place + 1) (drop (i + 1) words)) is

  pub word-more : joined n (take (i + 1) words) ≡ joined n (take i words) ++ spaced place word
  word-more =
      joined-more n words i h
      ∙ ap (λ (k : ℕ). joined n (take i words) ++ spaced k (get_or words i [])) (sym at)
      ∙ ap (λ (w : List ℕ). joined n (take i words) ++ spaced place w) is

-- the words of two lists
pub joined-append : (n : ℕ) (first second : List (List ℕ)) → joined n (first ++ second) ≡ joined n first ++ joined (n + length first) second
joined-append n [] second = let e : n + 0 ≡ n = omega arith in rw e refl
joined-append n (w ∷ first) second =
    let e : n + suc (length first) ≡ suc n + length first = omega arith in
    rw e (ap (λ (s : List ℕ). spaced n w ++ s) (joined-append (suc n) first second) ∙ sym (append_assoc (spaced n w) (joined (suc n) first) (joined (suc n + length first) second)))
