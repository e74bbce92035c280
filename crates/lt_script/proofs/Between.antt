-- The bytes between two places of a source.
use Rattle.std.proofs.Common.{◌≡◌, ◌≢◌, ℕ, ◌⊎◌, inl, inr, zero, suc, ◌+◌, ◌-◌, ◌≤◌, ◌<◌, List, [], ◌∷◌, ◌++◌, length, take, drop, refl, sym, ap, ◌∙◌, append_assoc, arith}
use Rattle.std.specs.Prelude.{not, ◌==◌}
use Rattle.std.specs.List.{prefix_len}
use Rattle.std.proofs.lemmas.Bool.{cases_order}
use Rattle.std.proofs.lemmas.List.{append-nil, length-append, append_cancel_left, take-append-le}
use Rattle.std.proofs.Math.Seq.{take-length}
use Rattle.lt_model.specs.Tokens as tokens
use Rattle.lt_model.specs.Tokens.{Token, Class, white, feed, hash, letter, digit, quote, other, class_of, First, Read, by_class, tokens_from, tokens_at}
use Rattle.lt_script.specs.Pieces.{Leads, BeginsAs, Passes}

-- ---- two divisions of one list

abbrev pub Further : {A : Type 0} → List A → List A → List A → List A → Type 0
Further {A} xs ys us vs = (h : List A) × (us ≡ xs ++ h) × (ys ≡ h ++ vs)

-- the one is no shorter than the other
pub further : {A : Type 0} (xs ys us vs : List A) → xs ++ ys ≡ us ++ vs → length xs ≤ length us → Further xs ys us vs
further [] ys us vs e le = (us, refl, e)
further (x ∷ xs) ys [] vs e le = absurd (omega (arith, le))
further {A} (x ∷ xs) ys (u ∷ us) vs e le =
    let first : x ≡ u = cc in
    let others : xs ++ ys ≡ us ++ vs = cc in
    let h = further xs ys us vs others (omega (arith, le)) in
    (h.0, ap (λ (z : A). z ∷ us) (sym first) ∙ ap (λ (zs : List A). x ∷ zs) h.1, h.2)

none_more : {A : Type 0} (xs h : List A) → length (xs ++ h) ≡ length xs → h ≡ []
none_more xs [] e = refl
none_more xs (x ∷ h) e = absurd (omega (arith, e, length-append xs (x ∷ h)))

pub same_parts : {A : Type 0} (xs ys us vs : List A) → xs ++ ys ≡ us ++ vs → length xs ≡ length us → (us ≡ xs) × (ys ≡ vs)
same_parts {A} xs ys us vs e n =
    let h = further xs ys us vs e (omega (arith, n)) in
    let none : h.0 ≡ [] = none_more xs h.0 (sym (ap (λ (zs : List A). length zs) h.1) ∙ sym n) in
    (h.1 ∙ ap (λ (zs : List A). xs ++ zs) none ∙ append-nil xs, h.2 ∙ ap (λ (zs : List A). zs ++ vs) none)

-- what ends with this one ends so behind any front of it
pub last_of : {A : Type 0} (front text xs : List A) (c : A) → xs ++ c ∷ [] ≡ front ++ text → text ≢ [] → (h : List A) × (text ≡ h ++ c ∷ [])
last_of {A} front [] xs c e some = absurd (some refl)
last_of {A} front (t ∷ text) xs c e some =
    let n : length (xs ++ c ∷ []) ≡ length (front ++ t ∷ text) = ap (λ (zs : List A). length zs) e in
    let h = further front (t ∷ text) xs (c ∷ []) (sym e) (omega (arith, n, length-append xs (c ∷ []), length-append front (t ∷ text))) in
    (h.0, h.2)

pub taken : {A : Type 0} (xs ys zs : List A) → xs ≡ ys ++ zs → take (length xs - length zs) xs ≡ ys
taken {A} xs ys zs e =
    let n : length xs - length zs ≡ length ys = omega (arith, ap (λ (us : List A). length us) e, length-append ys zs) in
    ap (λ (k : ℕ). take k xs) n ∙ ap (λ (us : List A). take (length ys) us) e ∙ take-append-le (length ys) ys zs (omega arith) ∙ take-length ys

-- ---- one byte is two tokens at most: as many as there are steps

few_more : (go : ℕ → List ℕ → Read) (n : ℕ) → ((line : ℕ) (bytes : List ℕ) → length (go line bytes).0 ≤ n) → (line : ℕ) (f : First) → length (tokens.more go line f).0 ≤ suc n
few_more go n each line (tokens.token s left) = omega (arith, each line left)
few_more go n each line (tokens.fault c) = omega arith

few_class : (go : ℕ → List ℕ → Read) (n : ℕ) → ((line : ℕ) (bytes : List ℕ) → length (go line bytes).0 ≤ n) → (line b : ℕ) (bytes : List ℕ) (c : Class) → length (by_class go line b bytes c).0 ≤ suc n
few_class go n each line b bytes white = omega (arith, each line bytes)
few_class go n each line b bytes feed = omega (arith, each (line + 1) bytes)
few_class go n each line b bytes hash = omega (arith, each line (drop (prefix_len (λ c. not (c == 10)) bytes) bytes))
few_class go n each line b bytes letter = few_more go n each line (tokens.word_at (b ∷ bytes))
few_class go n each line b bytes digit = few_more go n each line (tokens.number_at (b ∷ bytes))
few_class go n each line b bytes quote = few_more go n each line (tokens.symbol_at bytes)
few_class go n each line b bytes other = few_more go n each line (tokens.sign_at (b ∷ bytes))

few_from : (n line : ℕ) (bytes : List ℕ) → length (tokens_from n line bytes).0 ≤ n
few_from zero line bytes = omega arith
few_from (suc n) line [] = omega arith
few_from (suc n) line (b ∷ bytes) = few_class (tokens_from n) n (few_from n) line b bytes (class_of b)

one_byte : (line b : ℕ) → length (tokens_at line (b ∷ [])).0 ≤ 2
one_byte line b = few_from 2 line (b ∷ [])

-- ---- the bytes from one place to another, behind some tokens more

abbrev read_of : List Token → tokens.Ending → Read
read_of ts ending = (ts, ending)

-- these bytes and no others are the tokens between the two places
pub record AreBetween (line : ℕ) (from left text : List ℕ) (ts : List Token) (after : ℕ) : Type 0 where
  pub parts : from ≡ text ++ left
  pub ends : (front : List ℕ) × (text ≡ front ++ 59 ∷ [])
  pub passes : Passes line text ts after []

module _ (first line after b : ℕ) (bytes near behind far left : List ℕ) (before ts : List Token) (here : bytes ≡ near ++ (b ∷ behind)) (there : bytes ≡ (far ++ 59 ∷ []) ++ left) (h : Passes first near before line (b ∷ behind)) (k : Leads first (far ++ 59 ∷ []) (before ++ ts) after []) (some : 3 ≤ length ts) where
  abbrev whole : List ℕ
  whole = far ++ 59 ∷ []

  -- the second place isn't before the first: one byte isn't so many tokens
  not_before : (over : List ℕ) → near ≡ whole ++ over → ⊥
  unfolding Passes
  not_before over e =
      let one : tokens_at first (near ++ b ∷ []) ≡ read_of (before ++ (tokens_at line (b ∷ [])).0) (tokens_at line (b ∷ [])).1 = h (b ∷ []) (b, [], refl, inl refl) in
      let all : tokens_at first (whole ++ (over ++ b ∷ [])) ≡ read_of ((before ++ ts) ++ (tokens_at after (over ++ b ∷ [])).0) (tokens_at after (over ++ b ∷ [])).1 = k (over ++ b ∷ []) in
      let same : tokens_at first (near ++ b ∷ []) ≡ tokens_at first (whole ++ (over ++ b ∷ [])) = ap (λ (us : List ℕ). tokens_at first (us ++ b ∷ [])) e ∙ ap (tokens_at first) (append_assoc whole over (b ∷ [])) in
      let n : length (before ++ (tokens_at line (b ∷ [])).0) ≡ length ((before ++ ts) ++ (tokens_at after (over ++ b ∷ [])).0) = ap (λ (r : Read). length r.0) (sym one ∙ same ∙ all) in
      omega (arith, n, some, one_byte line b, length-append before (tokens_at line (b ∷ [])).0, length-append (before ++ ts) (tokens_at after (over ++ b ∷ [])).0, length-append before ts)

  begins_so : (text more : List ℕ) → b ∷ behind ≡ text ++ left → text ≢ [] → BeginsAs (b ∷ behind) (text ++ more)
  begins_so [] more e not = absurd (not refl)
  begins_so (c ∷ text) more e not = let same : b ≡ c = cc in (c, text ++ more, refl, inl (sym same))

  text_passes : (text : List ℕ) → whole ≡ near ++ text → b ∷ behind ≡ text ++ left → text ≢ [] → Passes line text ts after []
  unfolding Passes
  text_passes text e parts not = λ more begins.
      let one : tokens_at first (near ++ (text ++ more)) ≡ read_of (before ++ (tokens_at line (text ++ more)).0) (tokens_at line (text ++ more)).1 = h (text ++ more) (begins_so text more parts not) in
      let all : tokens_at first (whole ++ more) ≡ read_of ((before ++ ts) ++ (tokens_at after more).0) (tokens_at after more).1 = k more in
      let same : tokens_at first (whole ++ more) ≡ tokens_at first (near ++ (text ++ more)) = ap (λ (us : List ℕ). tokens_at first (us ++ more)) e ∙ ap (tokens_at first) (append_assoc near text more) in
      let both : read_of (before ++ (tokens_at line (text ++ more)).0) (tokens_at line (text ++ more)).1 ≡ read_of ((before ++ ts) ++ (tokens_at after more).0) (tokens_at after more).1 = sym one ∙ sym same ∙ all in
      let others : (tokens_at line (text ++ more)).0 ≡ ts ++ (tokens_at after more).0 = append_cancel_left before (tokens_at line (text ++ more)).0 (ts ++ (tokens_at after more).0) (ap (λ (r : Read). r.0) both ∙ append_assoc before ts (tokens_at after more).0) in
      ap (λ (us : List Token). read_of us (tokens_at line (text ++ more)).1) others ∙ ap (λ (x : tokens.Ending). read_of (ts ++ (tokens_at after more).0) x) (ap (λ (r : Read). r.1) both)

  pub are_between : (text : List ℕ) × AreBetween line (b ∷ behind) left text ts after
  are_between = go (cases_order (length whole) (length near))
    where
      over : length whole ≤ length near → (text : List ℕ) × AreBetween line (b ∷ behind) left text ts after
      over le = let f = further whole left near (b ∷ behind) (sym there ∙ here) le in absurd (not_before f.0 f.1)

      go : (length whole ≡ length near) ⊎ ((length whole < length near) ⊎ (length near < length whole)) → (text : List ℕ) × AreBetween line (b ∷ behind) left text ts after
      go (inl e) = over (omega (arith, e))
      go (inr (inl lt)) = over (omega (arith, lt))
      go (inr (inr lt)) =
          let f = further near (b ∷ behind) whole left (sym here ∙ there) (omega (arith, lt)) in
          let some : f.0 ≢ [] = λ none. omega (arith, lt, ap (λ (us : List ℕ). length us) (f.1 ∙ ap (λ (us : List ℕ). near ++ us) none), length-append near []) in
          (f.0, record { parts = f.2; ends = last_of near f.0 far 59 f.1 some; passes = text_passes f.0 f.1 f.2 some })
