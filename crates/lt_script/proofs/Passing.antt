-- A front of bytes whose tokens are decided by the byte that comes next.
use Rattle.std.proofs.Common.{inl, inr, ◌≡◌, ℕ, suc, ◌+◌, ◌<◌, ◌≤◌, Bool, true, false, cond, ◌&&◌, List, [], ◌∷◌, ◌++◌, length, take, drop, Option, Some, None, refl, sym, ap, subst, ◌∙◌, append_assoc, arith}
use Rattle.std.specs.Prelude.{nat_lt, nat_eq, find}
use Rattle.std.specs.List.{prefix_len, list_all, starts_with, AllByRecursion}
use Rattle.std.proofs.lemmas.List.{append-nil, append_cancel_right, take-append-drop, length-append, length-drop}
use Rattle.lt_model.specs.Tokens as tokens
use Rattle.lt_model.specs.Tokens.{Token, Read, Class, white, feed, hash, letter, digit, quote, other, class_of, in_word, is_digit, First, signs, tokens_at}
use Rattle.lt_script.specs.Pieces.{IsBack, Leads, IsLike, BeginsAs, Passes, goes_on_by, goes_on, first_by, first_at}
use Rattle.lt_script.proofs.Pieces.{found_in, first_stays, with_more_too, tokens_first}
use Rattle.lt_script.proofs.Backs.{symbol_back}
use Rattle.lt_script.proofs.Digit.{digit_instead}

-- ---- a front and what it leads to

abbrev read_of : List Token → tokens.Ending → Read
read_of ts ending = (ts, ending)

begins_itself : (left more : List ℕ) → BeginsAs left (left ++ more)
begins_itself [] more = tt
begins_itself (b ∷ left) more = (b, left ++ more, refl, inl refl)

begins_on : (front left bytes : List ℕ) → BeginsAs left bytes → BeginsAs (front ++ left) (front ++ bytes)
begins_on [] left bytes h = h
begins_on (b ∷ front) left bytes h = (b, front ++ bytes, refl, inl refl)

pub passes_none : (line : ℕ) (bytes : List ℕ) → Passes line [] [] line bytes
unfolding Passes
passes_none line bytes = λ more begins. refl

pub passes_leads : (line after : ℕ) (left bytes : List ℕ) (ts : List Token) (back : IsBack left bytes) → Passes line back.front ts after left → Leads line bytes ts after left
unfolding Passes
passes_leads line after left bytes ts back h = λ more. ap (λ (us : List ℕ). tokens_at line (us ++ more)) back.parts ∙ ap (tokens_at line) (append_assoc back.front left more) ∙ h (left ++ more) (begins_itself left more)

-- one front behind another
pub passes_on : (line after last : ℕ) (left mid bytes : List ℕ) (ts us : List Token) (f : IsBack left mid) (g : IsBack mid bytes) → Passes line g.front ts after mid → Passes after f.front us last left → Passes line (g.front ++ f.front) (ts ++ us) last left
unfolding Passes
passes_on line after last left mid bytes ts us f g h k = λ more begins.
    ap (tokens_at line) (append_assoc g.front f.front more)
    ∙ h (f.front ++ more) (subst (λ (vs : List ℕ). BeginsAs vs (f.front ++ more)) (sym f.parts) (begins_on f.front left more begins))
    ∙ ap (λ (r : Read). read_of (ts ++ r.0) r.1) (k more begins) ∙ ap (λ (vs : List Token). read_of vs (tokens_at last more).1) (sym (append_assoc ts us (tokens_at last more).0))

-- ---- runs

cut_none : (b d : Bool) (n m : ℕ) → (b ≡ false → d ≡ false) → cond b (1 + n) 0 ≡ 0 → cond d (1 + m) 0 ≡ 0
cut_none true d n m like h = absurd (omega (arith, h))
cut_none false d n m like h = rw (like refl) refl

cut_more : (b : Bool) (n m k : ℕ) → (n ≡ k → m ≡ k) → cond b (1 + n) 0 ≡ suc k → cond b (1 + m) 0 ≡ suc k
cut_more true n m k same h = omega (arith, same (omega (arith, h)))
cut_more false n m k same h = absurd (omega (arith, h))

-- where a run ends at a byte, it does so at another that isn't in it, whatever comes behind
run_cut : (p : ℕ → Bool) (front : List ℕ) (c d : ℕ) (rest more : List ℕ) → (p c ≡ false → p d ≡ false) → prefix_len p (front ++ c ∷ rest) ≡ length front → prefix_len p (front ++ d ∷ more) ≡ length front
run_cut p [] c d rest more like h = cut_none (p c) (p d) (prefix_len p rest) (prefix_len p more) like h
run_cut p (x ∷ front) c d rest more like h = cut_more (p x) (prefix_len p (front ++ c ∷ rest)) (prefix_len p (front ++ d ∷ more)) (length front) (run_cut p front c d rest more like) h

-- all digits are in the run
abbrev pub TakesDigits : (ℕ → Bool) → Type 0
TakesDigits p = (b : ℕ) → is_digit b ≡ true → p b ≡ true

both_out : (p : ℕ → Bool) (c d : ℕ) → TakesDigits p → IsLike c d → p c ≡ false → p d ≡ false
both_out p c d takes (inl same) out = ap p same ∙ out
both_out p c d takes (inr digits) out = let in_run : p c ≡ true = takes c digits.0 in absurd cc

pub cut_there : (p : ℕ → Bool) (xs more : List ℕ) → TakesDigits p → prefix_len p xs < length xs → BeginsAs (drop (prefix_len p xs) xs) more → prefix_len p (take (prefix_len p xs) xs ++ more) ≡ length (take (prefix_len p xs) xs)
cut_there p xs more takes lt begins = go (drop n xs) refl begins
  where
    n : ℕ
    n = prefix_len p xs

    go : (left : List ℕ) → drop n xs ≡ left → BeginsAs left more → prefix_len p (take n xs ++ more) ≡ length (take n xs)
    go [] is b = let none : length (drop n xs) ≡ 0 = ap (λ (us : List ℕ). length us) is in absurd (omega (arith, lt, length-drop n xs, none))
    go (c ∷ rest) is b =
        let all : length (take n xs ++ drop n xs) ≡ length xs = ap (λ (us : List ℕ). length us) (take-append-drop n xs) in
        let short : n ≡ length (take n xs) = omega (arith, lt, all, length-append (take n xs) (drop n xs), length-drop n xs) in
        let whole : take n xs ++ c ∷ rest ≡ xs = ap (λ (us : List ℕ). take n xs ++ us) (sym is) ∙ take-append-drop n xs in
        ap (λ (us : List ℕ). prefix_len p (take n xs ++ us)) b.2 ∙ run_cut p (take n xs) c b.0 rest b.1 (both_out p c b.0 takes b.3) (ap (λ (us : List ℕ). prefix_len p us) whole ∙ short)

reach_case : (p : ℕ → Bool) (x : ℕ) (xs more : List ℕ) (b : Bool) → p x ≡ b → (list_all p xs ≡ true → length xs ≤ prefix_len p (xs ++ more)) → list_all p (x ∷ xs) ≡ true → length (x ∷ xs) ≤ prefix_len p (x ∷ (xs ++ more))
reach_case p x xs more true e far h = let rest : list_all p xs ≡ true = subst (λ (c : Bool). (c && list_all p xs) ≡ true) e h in rw e (omega (arith, far rest))
reach_case p x xs more false e far h = let no_run : (false && list_all p xs) ≡ true = subst (λ (c : Bool). (c && list_all p xs) ≡ true) e h in absurd cc

-- bytes that are one run are so whatever comes
run_reaches : (p : ℕ → Bool) (xs more : List ℕ) → list_all p xs ≡ true → length xs ≤ prefix_len p (xs ++ more)
run_reaches p [] more h = omega arith
run_reaches p (x ∷ xs) more h = reach_case p x xs more (p x) refl (run_reaches p xs more) h

-- ---- a token that more bytes may make longer has all of them

abbrev IsToken : Option First → tokens.Shape → List ℕ → Type 0
IsToken o s left = o ≡ Some (tokens.token s left)

word_rest : (b : Bool) (text rest left : List ℕ) (s : tokens.Shape) → IsToken (Some (cond b (tokens.fault 5) (tokens.token (tokens.word text) rest))) s left → rest ≡ left
word_rest true text rest left s e = absurd cc
word_rest false text rest left s e = cc

run_left : (p : ℕ → Bool) (xs more : List ℕ) → list_all p xs ≡ true → length (drop (prefix_len p (xs ++ more)) (xs ++ more)) ≤ length more
run_left p xs more h = let n : ℕ = prefix_len p (xs ++ more) in omega (arith, run_reaches p xs more h, length-drop n (xs ++ more), length-append xs more)

some_signs : AllByRecursion (λ x. 1 ≤ length x) signs
some_signs = (omega arith, (omega arith, (omega arith, (omega arith, (omega arith, (omega arith, (omega arith, (omega arith, (omega arith, (omega arith, (omega arith, (omega arith, (omega arith, tt)))))))))))))

sign_left : (b : ℕ) (more left : List ℕ) (s : tokens.Shape) (o : Option (List ℕ)) → ((t : List ℕ) → o ≡ Some t → 1 ≤ length t) → IsToken (Some (tokens.sign_found o (b ∷ more))) s left → length left ≤ length more
sign_left b more left s None some e = absurd cc
sign_left b more left s (Some t) some e =
    let same : drop (length t) (b ∷ more) ≡ left = cc in
    let n : length (drop (length t) (b ∷ more)) ≡ length left = ap (λ (us : List ℕ). length us) same in
    omega (arith, n, some t refl, length-drop (length t) (b ∷ more))

beyond_by : (c : Class) (b : ℕ) (bytes more left : List ℕ) (s : tokens.Shape) → goes_on_by c b bytes ≡ true → IsToken (first_by c b (bytes ++ more)) s left → length left ≤ length more
beyond_by white b bytes more left s h e = absurd cc
beyond_by feed b bytes more left s h e = absurd cc
beyond_by hash b bytes more left s h e = absurd cc
beyond_by letter b bytes more left s h e =
    let all : List ℕ = b ∷ (bytes ++ more) in
    let n : ℕ = prefix_len in_word all in
    subst (λ (us : List ℕ). length us ≤ length more) (word_rest (nat_lt 15 n) (take n all) (drop n all) left s e) (run_left in_word (b ∷ bytes) more h)
beyond_by digit b bytes more left s h e =
    let all : List ℕ = b ∷ (bytes ++ more) in
    let same : drop (prefix_len is_digit all) all ≡ left = cc in
    subst (λ (us : List ℕ). length us ≤ length more) same (run_left is_digit (b ∷ bytes) more h)
beyond_by quote b bytes more left s h e =
    let n : ℕ = prefix_len in_word (bytes ++ more) in
    let back : IsBack left (drop n (bytes ++ more)) = symbol_back n (take n (bytes ++ more)) (drop n (bytes ++ more)) left s e in
    let long : length (drop n (bytes ++ more)) ≡ length (back.front ++ left) = ap (λ (us : List ℕ). length us) back.parts in
    omega (arith, run_left in_word bytes more h, long, length-append back.front left)
beyond_by other b [] more left s h e =
    sign_left b more left s (find (λ t. starts_with nat_eq (b ∷ more) t) signs) (λ t is. found_in (λ x. 1 ≤ length x) (λ t. starts_with nat_eq (b ∷ more) t) signs t some_signs is) e
beyond_by other b (c ∷ bytes) more left s h e = absurd cc

beyond : (b : ℕ) (bytes more left : List ℕ) (s : tokens.Shape) → goes_on (b ∷ bytes) ≡ true → IsToken (first_at (b ∷ (bytes ++ more))) s left → length left ≤ length more
beyond b bytes more left s h e = beyond_by (class_of b) b bytes more left s h e

goes_beyond : (front : List ℕ) (c : ℕ) (more left : List ℕ) (s : tokens.Shape) → goes_on (front ++ c ∷ []) ≡ true → IsToken (first_at ((front ++ c ∷ []) ++ more)) s left → length left ≤ length more
goes_beyond [] c more left s h e = beyond c [] more left s h e
goes_beyond (b ∷ front) c more left s h e = beyond b (front ++ c ∷ []) more left s h e

-- ---- a decided token, with other bytes behind it that begin alike

token_cut : (tail front left more : List ℕ) (s : tokens.Shape) → tail ≡ front ++ left → IsToken (first_at tail) s left → goes_on tail ≡ false → BeginsAs left more → IsToken (first_at (front ++ more)) s more
token_cut tail front [] more s parts is stops begins = ap (λ (us : List ℕ). first_at (us ++ more)) (sym (parts ∙ append-nil front)) ∙ first_stays tail more stops ∙ ap (λ o. with_more_too o more) is
token_cut tail front (c ∷ rest) more s parts is stops begins = go (goes_on head) refl
  where
    head : List ℕ
    head = front ++ c ∷ []

    found : IsToken (first_at (head ++ rest)) s (c ∷ rest)
    found = ap first_at (append_assoc front (c ∷ []) rest ∙ sym parts) ∙ is

    shorter : (o : Option First) → with_more_too o rest ≡ Some (tokens.token s (c ∷ rest)) → IsToken o s (c ∷ [])
    shorter None e = absurd cc
    shorter (Some (tokens.fault k)) e = absurd cc
    shorter (Some (tokens.token t r)) e =
        let same : t ≡ s = cc in
        let ends : r ++ rest ≡ c ∷ rest = cc in
        ap (λ (x : tokens.Shape). Some (tokens.token x r)) same ∙ ap (λ (us : List ℕ). Some (tokens.token s us)) (append_cancel_right r (c ∷ []) rest ends)

    go : (b : Bool) → goes_on head ≡ b → IsToken (first_at (front ++ more)) s more
    go true e = absurd (omega (arith, goes_beyond front c rest (c ∷ rest) s e found))
    go false e = subst (λ (us : List ℕ). IsToken (first_at (front ++ us)) s us) (sym begins.2) (there begins.0 begins.1 begins.3)
      where
        at : IsToken (first_at head) s (c ∷ [])
        at = shorter (first_at head) (sym (first_stays head rest e) ∙ found)

        there : (d : ℕ) (others : List ℕ) → IsLike c d → IsToken (first_at (front ++ d ∷ others)) s (d ∷ others)
        there d others (inl same) =
            subst (λ (k : ℕ). IsToken (first_at (front ++ k ∷ others)) s (k ∷ others)) (sym same) (ap first_at (sym (append_assoc front (c ∷ []) others)) ∙ first_stays head others e ∙ ap (λ o. with_more_too o others) at)
        there d others (inr digits) = digit_instead front c d others s digits.0 digits.1 e at

pub passes_token : (line : ℕ) (tail left : List ℕ) (s : tokens.Shape) → IsToken (first_at tail) s left → goes_on tail ≡ false → (back : IsBack left tail) → Passes line back.front (record { shape = s; line = line } ∷ []) line left
unfolding Passes
passes_token line tail left s is stops back = λ more begins. tokens_first line (back.front ++ more) (tokens.token s more) (token_cut tail back.front left more s back.parts is stops begins)
