-- A token that a digit ends, with another digit behind it.
use Rattle.std.proofs.Common.{◌≡◌, ℕ, ◌<◌, ◌≤◌, Bool, true, false, ◌&&◌, List, [], ◌∷◌, ◌++◌, length, drop, Option, Some, None, refl, sym, ap, subst, ◌∙◌, arith}
use Rattle.std.specs.Prelude.{nat_eq}
use Rattle.std.specs.List.{list_all}
use Rattle.std.proofs.lemmas.List.{append_cancel_right, length-drop}
use Rattle.lt_model.specs.Tokens as tokens
use Rattle.lt_model.specs.Tokens.{Class, white, feed, hash, letter, digit, quote, other, class_of, in_word, is_digit, First, sign_found}
use Rattle.lt_script.specs.Pieces.{goes_on_by, goes_on, first_by, first_at}
use Rattle.lt_script.proofs.Classes.{digit_in_word, digit_most, digit_is}
use Rattle.lt_script.proofs.Pieces.{with_more_too, first_stays, sign_in}

abbrev IsToken : Option First → tokens.Shape → List ℕ → Type 0
IsToken o s left = o ≡ Some (tokens.token s left)

no_equal : (c n : ℕ) → c ≤ 57 → 57 < n → nat_eq n c ≡ false
no_equal c n most above = Prim.grind arith

-- ---- a run with one byte more

then_case : (p : ℕ → Bool) (xs : List ℕ) (c : ℕ) (b : Bool) → (list_all p xs ≡ true → list_all p (xs ++ c ∷ []) ≡ true) → (b && list_all p xs) ≡ true → (b && list_all p (xs ++ c ∷ [])) ≡ true
then_case p xs c true more e = more e
then_case p xs c false more e = absurd cc

all_then : (p : ℕ → Bool) (xs : List ℕ) (c : ℕ) → list_all p xs ≡ true → p c ≡ true → list_all p (xs ++ c ∷ []) ≡ true
all_then p [] c h k = rw k refl
all_then p (x ∷ xs) c h k = then_case p xs c (p x) (λ e. all_then p xs c e k) h

-- ---- a token that is decided without the digit

decided_before : (front : List ℕ) (c d : ℕ) (others : List ℕ) (s : tokens.Shape) → goes_on front ≡ false → IsToken (first_at (front ++ c ∷ [])) s (c ∷ []) → IsToken (first_at (front ++ d ∷ others)) s (d ∷ others)
decided_before front c d others s stops is = first_stays front (d ∷ others) stops ∙ ap (λ o. with_more_too o (d ∷ others)) (at (first_at front) (sym (first_stays front (c ∷ []) stops) ∙ is))
  where
    at : (o : Option First) → IsToken (with_more_too o (c ∷ [])) s (c ∷ []) → IsToken o s []
    at None e = absurd cc
    at (Some (tokens.fault k)) e = absurd cc
    at (Some (tokens.token t rest)) e =
        let same : t ≡ s = cc in
        let ends : rest ++ c ∷ [] ≡ c ∷ [] = cc in
        ap (λ (x : tokens.Shape). Some (tokens.token x rest)) same ∙ ap (λ (us : List ℕ). Some (tokens.token s us)) (append_cancel_right rest [] (c ∷ []) ends)

-- ---- a sign that might be longer

same_sign : (b c d : ℕ) (others : List ℕ) → is_digit c ≡ true → is_digit d ≡ true → sign_in (b ∷ d ∷ others) ≡ sign_in (b ∷ c ∷ [])
same_sign b c d others one two = rw (no_equal c 61 (digit_most c one) (omega arith), no_equal c 62 (digit_most c one) (omega arith), no_equal d 61 (digit_most d two) (omega arith), no_equal d 62 (digit_most d two) (omega arith)) refl

sign_then : (b c d : ℕ) (others : List ℕ) (s : tokens.Shape) (o : Option (List ℕ)) → IsToken (Some (sign_found o (b ∷ c ∷ []))) s (c ∷ []) → IsToken (Some (sign_found o (b ∷ d ∷ others))) s (d ∷ others)
sign_then b c d others s None e = absurd cc
sign_then b c d others s (Some []) e = let long : b ∷ c ∷ [] ≡ c ∷ [] = cc in let no : 2 ≡ 1 = ap (λ (us : List ℕ). length us) long in absurd (omega (arith, no))
sign_then b c d others s (Some (x ∷ [])) e = let same : tokens.sign (x ∷ []) ≡ s = cc in ap (λ (t : tokens.Shape). Some (tokens.token t (d ∷ others))) same
sign_then b c d others s (Some (x ∷ y ∷ t)) e = let none : List ℕ = [] in let short : drop (length t) none ≡ c ∷ [] = cc in let no : length (drop (length t) none) ≡ 1 = ap (λ (us : List ℕ). length us) short in absurd (omega (arith, no, length-drop (length t) none))

-- ---- by the class of the first byte

by_front : (k : Class) (b : ℕ) (bytes : List ℕ) (c d : ℕ) (others : List ℕ) (s : tokens.Shape) → is_digit c ≡ true → is_digit d ≡ true → goes_on_by k b bytes ≡ true → goes_on_by k b (bytes ++ c ∷ []) ≡ false → IsToken (first_by k b (bytes ++ c ∷ [])) s (c ∷ []) → IsToken (first_by k b (bytes ++ d ∷ others)) s (d ∷ others)
by_front white b bytes c d others s one two goes stops is = absurd cc
by_front feed b bytes c d others s one two goes stops is = absurd cc
by_front hash b bytes c d others s one two goes stops is = absurd cc
by_front letter b bytes c d others s one two goes stops is = let all : list_all in_word (b ∷ (bytes ++ c ∷ [])) ≡ true = all_then in_word (b ∷ bytes) c goes (digit_in_word c one) in absurd cc
by_front digit b bytes c d others s one two goes stops is = let all : list_all is_digit (b ∷ (bytes ++ c ∷ [])) ≡ true = all_then is_digit (b ∷ bytes) c goes one in absurd cc
by_front quote b bytes c d others s one two goes stops is = let all : list_all in_word (bytes ++ c ∷ []) ≡ true = all_then in_word bytes c goes (digit_in_word c one) in absurd cc
by_front other b [] c d others s one two goes stops is =
    ap (λ o. Some (sign_found o (b ∷ d ∷ others))) (same_sign b c d others one two) ∙ sign_then b c d others s (sign_in (b ∷ c ∷ [])) is
by_front other b (x ∷ bytes) c d others s one two goes stops is = absurd cc

lone_digit : (c : ℕ) (k : Class) → class_of c ≡ k → is_digit c ≡ true → goes_on_by k c [] ≡ false → ⊥
lone_digit c k is one stops = let same : digit ≡ k = sym (digit_is c one) ∙ is in let here : list_all is_digit (c ∷ []) ≡ false = subst (λ j. goes_on_by j c [] ≡ false) (sym same) stops in let all : list_all is_digit (c ∷ []) ≡ true = all_then is_digit [] c refl one in absurd cc

pub digit_instead : (front : List ℕ) (c d : ℕ) (others : List ℕ) (s : tokens.Shape) → is_digit c ≡ true → is_digit d ≡ true → goes_on (front ++ c ∷ []) ≡ false → IsToken (first_at (front ++ c ∷ [])) s (c ∷ []) → IsToken (first_at (front ++ d ∷ others)) s (d ∷ others)
digit_instead [] c d others s one two stops is = absurd (lone_digit c (class_of c) refl one stops)
digit_instead (b ∷ front) c d others s one two stops is = go (goes_on (b ∷ front)) refl
  where
    go : (x : Bool) → goes_on (b ∷ front) ≡ x → IsToken (first_at (b ∷ (front ++ d ∷ others))) s (d ∷ others)
    go true e = by_front (class_of b) b front c d others s one two e stops is
    go false e = decided_before (b ∷ front) c d others s e is
