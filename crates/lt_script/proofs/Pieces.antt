-- What more bytes change of tokens: nothing of those that are decided.
use Rattle.std.proofs.Common.{◌≡◌, ℕ, ◌+◌, ◌<◌, ◌≤◌, Bool, true, false, cond, ◌&&◌, ◌||◌, List, [], ◌∷◌, ◌++◌, length, take, drop, Option, Some, None, refl, sym, ap, subst, ◌∙◌, append_assoc, arith}
use Rattle.std.specs.Prelude.{nat_lt, nat_eq, not, ◌==◌, find}
use Rattle.std.specs.List.{prefix_len, starts_with, list_all, AllByRecursion}
use Rattle.std.proofs.lemmas.List.{take-append-le, drop-append-le, length-drop}
use Rattle.lt_model.specs.Tokens.{Shape, Token, Ending, Read, word, number, symbol, sign, Class, white, feed, hash, letter, digit, quote, other, class_of, in_word, is_digit, signs, First, token, fault, word_at, number_at, close_symbol, symbol_at, sign_found, sign_at, more as more_of, by_class, tokens_at, broken}
use Rattle.lt_model.proofs.Division.{next_tokens}
use Rattle.lt_script.specs.Pieces.{Leads, begins_longer, goes_on_by, goes_on, first_by, first_at}

-- ---- runs that end before the bytes do

run_case : (p : ℕ → Bool) (x : ℕ) (xs : List ℕ) (b : Bool) → p x ≡ b → (list_all p xs ≡ false → prefix_len p xs < length xs) → list_all p (x ∷ xs) ≡ false → prefix_len p (x ∷ xs) < length (x ∷ xs)
run_case p x xs true e more h = let rest : list_all p xs ≡ false = subst (λ (c : Bool). (c && list_all p xs) ≡ false) e h in rw e (omega (arith, more rest))
run_case p x xs false e more h = rw e (omega arith)

pub run_ends : (p : ℕ → Bool) (xs : List ℕ) → list_all p xs ≡ false → prefix_len p xs < length xs
run_ends p [] h = absurd cc
run_ends p (x ∷ xs) h = run_case p x xs (p x) refl (run_ends p xs) h

stays_case : (p : ℕ → Bool) (x : ℕ) (xs more : List ℕ) (b : Bool) → p x ≡ b → (list_all p xs ≡ false → prefix_len p (xs ++ more) ≡ prefix_len p xs) → list_all p (x ∷ xs) ≡ false → prefix_len p (x ∷ (xs ++ more)) ≡ prefix_len p (x ∷ xs)
stays_case p x xs more true e same h = let rest : list_all p xs ≡ false = subst (λ (c : Bool). (c && list_all p xs) ≡ false) e h in rw e (ap (λ n. 1 + n) (same rest))
stays_case p x xs more false e same h = rw e refl

pub run_stays : (p : ℕ → Bool) (xs more : List ℕ) → list_all p xs ≡ false → prefix_len p (xs ++ more) ≡ prefix_len p xs
run_stays p [] more h = absurd cc
run_stays p (x ∷ xs) more h = stays_case p x xs more (p x) refl (run_stays p xs more) h

-- ---- the first token, with more bytes behind

abbrev pub with_more : First → List ℕ → First
with_more (token s rest) more = token s (rest ++ more)
with_more (fault c) more = fault c

word_cut : (b : Bool) (s : Shape) (rest more : List ℕ) → cond b (fault 5) (token s (rest ++ more)) ≡ with_more (cond b (fault 5) (token s rest)) more
word_cut true s rest more = refl
word_cut false s rest more = refl

abbrev word_to : ℕ → List ℕ → First
word_to n bytes = cond (nat_lt 15 n) (fault 5) (token (word (take n bytes)) (drop n bytes))

word_goes : (n : ℕ) (xs more : List ℕ) → n ≤ length xs → word_to n (xs ++ more) ≡ with_more (word_to n xs) more
word_goes n xs more le = rw (take-append-le n xs more le, drop-append-le n xs more le) (word_cut (nat_lt 15 n) (word (take n xs)) (drop n xs) more)

word_stays : (xs more : List ℕ) → list_all in_word xs ≡ false → word_at (xs ++ more) ≡ with_more (word_at xs) more
word_stays xs more h = ap (λ n. word_to n (xs ++ more)) (run_stays in_word xs more h) ∙ word_goes (prefix_len in_word xs) xs more (omega (arith, run_ends in_word xs h))

abbrev number_to : ℕ → List ℕ → First
number_to n bytes = token (number (take n bytes)) (drop n bytes)

number_goes : (n : ℕ) (xs more : List ℕ) → n ≤ length xs → number_to n (xs ++ more) ≡ with_more (number_to n xs) more
number_goes n xs more le = rw (take-append-le n xs more le, drop-append-le n xs more le) refl

number_stays : (xs more : List ℕ) → list_all is_digit xs ≡ false → number_at (xs ++ more) ≡ with_more (number_at xs) more
number_stays xs more h = ap (λ n. number_to n (xs ++ more)) (run_stays is_digit xs more h) ∙ number_goes (prefix_len is_digit xs) xs more (omega (arith, run_ends is_digit xs h))

quote_cut : (x y : Bool) (s : Shape) (rest more : List ℕ) → cond x (fault 1) (cond y (fault 4) (token s (rest ++ more))) ≡ with_more (cond x (fault 1) (cond y (fault 4) (token s rest))) more
quote_cut true y s rest more = refl
quote_cut false true s rest more = refl
quote_cut false false s rest more = refl

close_stays : (n : ℕ) (text rest more : List ℕ) → 0 < length rest → close_symbol n text (rest ++ more) ≡ with_more (close_symbol n text rest) more
close_stays n text [] more some = absurd (omega arith)
close_stays n text (c ∷ rest) more some = quote_cut (not (c == 39)) ((n == 0) || nat_lt 15 n) (symbol text) rest more

abbrev symbol_to : ℕ → List ℕ → First
symbol_to n bytes = close_symbol n (take n bytes) (drop n bytes)

symbol_goes : (n : ℕ) (xs more : List ℕ) → n < length xs → symbol_to n (xs ++ more) ≡ with_more (symbol_to n xs) more
symbol_goes n xs more lt = rw (take-append-le n xs more (omega (arith, lt)), drop-append-le n xs more (omega (arith, lt))) (close_stays n (take n xs) (drop n xs) more (omega (arith, lt, length-drop n xs)))

symbol_stays : (xs more : List ℕ) → list_all in_word xs ≡ false → symbol_at (xs ++ more) ≡ with_more (symbol_at xs) more
symbol_stays xs more h = ap (λ n. symbol_to n (xs ++ more)) (run_stays in_word xs more h) ∙ symbol_goes (prefix_len in_word xs) xs more (run_ends in_word xs h)

-- ---- signs

abbrev pub sign_in : List ℕ → Option (List ℕ)
sign_in bytes = find (λ s. starts_with nat_eq bytes s) signs

found_case : (P : List ℕ → Type 0) (p : List ℕ → Bool) (x : List ℕ) (xs : List (List ℕ)) (t : List ℕ) (b : Bool) → P x → (find p xs ≡ Some t → P t) → cond b (Some x) (find p xs) ≡ Some t → P t
found_case P p x xs t true here others e = let same : x ≡ t = cc in subst P same here
found_case P p x xs t false here others e = others e

pub found_in : (P : List ℕ → Type 0) (p : List ℕ → Bool) (xs : List (List ℕ)) (t : List ℕ) → AllByRecursion P xs → find p xs ≡ Some t → P t
found_in P p [] t each e = absurd cc
found_in P p (x ∷ xs) t each e = found_case P p x xs t (p x) each.0 (found_in P p xs t each.1) e

sign_goes : (o : Option (List ℕ)) (xs more : List ℕ) → ((t : List ℕ) → o ≡ Some t → length t ≤ length xs) → sign_found o (xs ++ more) ≡ with_more (sign_found o xs) more
sign_goes None xs more short = refl
sign_goes (Some t) xs more short = ap (λ (rest : List ℕ). token (sign t) rest) (drop-append-le (length t) xs more (short t refl))

short_signs : AllByRecursion (λ x. length x ≤ 2) signs
short_signs = (omega arith, (omega arith, (omega arith, (omega arith, (omega arith, (omega arith, (omega arith, (omega arith, (omega arith, (omega arith, (omega arith, (omega arith, (omega arith, tt)))))))))))))

two_stay : (b c : ℕ) (bytes more : List ℕ) → sign_at ((b ∷ c ∷ bytes) ++ more) ≡ with_more (sign_at (b ∷ c ∷ bytes)) more
two_stay b c bytes more = sign_goes (sign_in (b ∷ c ∷ bytes)) (b ∷ c ∷ bytes) more (λ t e. omega (arith, found_in (λ x. length x ≤ 2) (λ s. starts_with nat_eq (b ∷ c ∷ bytes) s) signs t short_signs e))

-- a sign of one byte, where none longer begins with it
no_longer : (b : ℕ) → ((b == 33) || (b == 45) || (b == 60) || (b == 62)) ≡ false → (nat_eq b 33 ≡ false) × (nat_eq b 45 ≡ false) × (nat_eq b 60 ≡ false) × (nat_eq b 62 ≡ false)
no_longer b h = go (nat_eq b 33) (nat_eq b 45) (nat_eq b 60) (nat_eq b 62) h
  where
    go : (w x y z : Bool) → (w || x || y || z) ≡ false → (w ≡ false) × (x ≡ false) × (y ≡ false) × (z ≡ false)
    go true x y z h = absurd cc
    go false true y z h = absurd cc
    go false false true z h = absurd cc
    go false false false true h = absurd cc
    go false false false false h = (refl, refl, refl, refl)

flip : (b n : ℕ) → nat_eq b n ≡ false → nat_eq n b ≡ false
flip b n h = Prim.grind arith

same_sign : (b : ℕ) (more : List ℕ) → (nat_eq b 33 ≡ false) × (nat_eq b 45 ≡ false) × (nat_eq b 60 ≡ false) × (nat_eq b 62 ≡ false) → sign_in (b ∷ more) ≡ sign_in (b ∷ [])
same_sign b more h = rw (flip b 33 h.0, flip b 45 h.1, flip b 60 h.2, flip b 62 h.3) refl

short_case : (b : ℕ) (t : List ℕ) → starts_with nat_eq (b ∷ []) t ≡ true → length t ≤ 2 → length t ≤ 1
short_case b [] h le = omega arith
short_case b (c ∷ []) h le = omega arith
short_case b (c ∷ d ∷ t) h le = absurd (never (nat_eq c b) h)
  where
    never : (x : Bool) → (x && false) ≡ true → ⊥
    never true h = absurd cc
    never false h = absurd cc

holds_case : (p : List ℕ → Bool) (x : List ℕ) (xs : List (List ℕ)) (t : List ℕ) (v : Bool) → p x ≡ v → (find p xs ≡ Some t → p t ≡ true) → cond v (Some x) (find p xs) ≡ Some t → p t ≡ true
holds_case p x xs t true is others e = let same : x ≡ t = cc in subst (λ (y : List ℕ). p y ≡ true) same is
holds_case p x xs t false is others e = others e

pub find_holds : (p : List ℕ → Bool) (xs : List (List ℕ)) (t : List ℕ) → find p xs ≡ Some t → p t ≡ true
find_holds p [] t e = absurd cc
find_holds p (x ∷ xs) t e = holds_case p x xs t (p x) refl (find_holds p xs t) e

one_short : (b : ℕ) (t : List ℕ) → sign_in (b ∷ []) ≡ Some t → length t ≤ 1
one_short b t e = short_case b t (find_holds (λ s. starts_with nat_eq (b ∷ []) s) signs t e) (found_in (λ x. length x ≤ 2) (λ s. starts_with nat_eq (b ∷ []) s) signs t short_signs e)

one_stays : (b : ℕ) (more : List ℕ) → begins_longer b [] ≡ false → sign_at (b ∷ more) ≡ with_more (sign_at (b ∷ [])) more
one_stays b more h = ap (λ o. sign_found o (b ∷ more)) (same_sign b more (no_longer b h)) ∙ sign_goes (sign_in (b ∷ [])) (b ∷ []) more (λ t e. one_short b t e)

sign_stays : (b : ℕ) (bytes more : List ℕ) → begins_longer b bytes ≡ false → sign_at (b ∷ (bytes ++ more)) ≡ with_more (sign_at (b ∷ bytes)) more
sign_stays b [] more h = one_stays b more h
sign_stays b (c ∷ bytes) more h = two_stay b c bytes more

-- ---- the first token of bytes

abbrev pub with_more_too : Option First → List ℕ → Option First
with_more_too None more = None
with_more_too (Some f) more = Some (with_more f more)

by_class_stays : (c : Class) (b : ℕ) (bytes more : List ℕ) → goes_on_by c b bytes ≡ false → first_by c b (bytes ++ more) ≡ with_more_too (first_by c b bytes) more
by_class_stays white b bytes more h = refl
by_class_stays feed b bytes more h = refl
by_class_stays hash b bytes more h = refl
by_class_stays letter b bytes more h = ap (λ f. Some f) (word_stays (b ∷ bytes) more h)
by_class_stays digit b bytes more h = ap (λ f. Some f) (number_stays (b ∷ bytes) more h)
by_class_stays quote b bytes more h = ap (λ f. Some f) (symbol_stays bytes more h)
by_class_stays other b bytes more h = ap (λ f. Some f) (sign_stays b bytes more h)

-- a decided token is the same whatever comes behind
pub first_stays : (bytes more : List ℕ) → goes_on bytes ≡ false → first_at (bytes ++ more) ≡ with_more_too (first_at bytes) more
first_stays [] more h = absurd cc
first_stays (b ∷ bytes) more h = by_class_stays (class_of b) b bytes more h

class_first : (line b : ℕ) (bytes : List ℕ) (c : Class) (f : First) → first_by c b bytes ≡ Some f → by_class tokens_at line b bytes c ≡ more_of tokens_at line f
class_first line b bytes white f e = absurd cc
class_first line b bytes feed f e = absurd cc
class_first line b bytes hash f e = absurd cc
class_first line b bytes letter f e = let same : word_at (b ∷ bytes) ≡ f = cc in ap (λ g. more_of tokens_at line g) same
class_first line b bytes digit f e = let same : number_at (b ∷ bytes) ≡ f = cc in ap (λ g. more_of tokens_at line g) same
class_first line b bytes quote f e = let same : symbol_at bytes ≡ f = cc in ap (λ g. more_of tokens_at line g) same
class_first line b bytes other f e = let same : sign_at (b ∷ bytes) ≡ f = cc in ap (λ g. more_of tokens_at line g) same

pub tokens_first : (line : ℕ) (bytes : List ℕ) (f : First) → first_at bytes ≡ Some f → tokens_at line bytes ≡ more_of tokens_at line f
tokens_first line [] f e = absurd cc
tokens_first line (b ∷ bytes) f e = next_tokens line b bytes (class_of b) refl ∙ class_first line b bytes (class_of b) f e

first_with : (bytes more : List ℕ) (f : First) → first_at bytes ≡ Some f → goes_on bytes ≡ false → first_at (bytes ++ more) ≡ Some (with_more f more)
first_with bytes more f e h = first_stays bytes more h ∙ ap (λ o. with_more_too o more) e

-- ---- what leads on

abbrev read_of : List Token → Ending → Read
read_of ts ending = (ts, ending)

pub leads_none : (line : ℕ) (bytes : List ℕ) → Leads line bytes [] line bytes
leads_none line bytes = λ more. refl

pub leads_then : (line after last : ℕ) (bytes left rest : List ℕ) (ts us : List Token) → Leads line bytes ts after left → Leads after left us last rest → Leads line bytes (ts ++ us) last rest
leads_then line after last bytes left rest ts us h k = λ more.
    h more ∙ ap (λ (r : Read). read_of (ts ++ r.0) r.1) (k more) ∙ ap (λ (us : List Token). read_of us (tokens_at last (rest ++ more)).1) (sym (append_assoc ts us (tokens_at last (rest ++ more)).0))

pub leads_token : (line : ℕ) (bytes left : List ℕ) (s : Shape) → first_at bytes ≡ Some (token s left) → goes_on bytes ≡ false → Leads line bytes (record { shape = s; line = line } ∷ []) line left
leads_token line bytes left s e h = λ more. tokens_first line (bytes ++ more) (token s (left ++ more)) (first_with bytes more (token s left) e h)

pub torn_stays : (line code : ℕ) (bytes more : List ℕ) → first_at bytes ≡ Some (fault code) → goes_on bytes ≡ false → tokens_at line (bytes ++ more) ≡ ([], broken line code)
torn_stays line code bytes more e h = tokens_first line (bytes ++ more) (fault code) (first_with bytes more (fault code) e h)
