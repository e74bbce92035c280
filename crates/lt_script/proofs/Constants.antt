-- Constants in bytes: how one that is found first is written, and that each that is written so is found.
use Rattle.std.proofs.Common.{◌≡◌, ◌≢◌, ℕ, suc, ◌+◌, ◌≤◌, Bool, true, false, cond, ◌&&◌, ◌||◌, ◌==◌, List, [], ◌∷◌, ◌++◌, length, take, drop, Option, Some, None, refl, sym, ap, subst, ◌∙◌, arith}
use Rattle.std.specs.Prelude.{nat_lt, nat_eq, not, find}
use Rattle.std.specs.List.{prefix_len, list_all, starts_with}
use Rattle.std.proofs.lemmas.List.{take-append-drop, take_at, drop_at, length-take-le}
use Rattle.lt_model.specs.Tokens as tokens
use Rattle.lt_model.specs.Tokens.{Shape, number, symbol, Class, white, feed, hash, letter, digit, quote, other, class_of, in_word, is_digit, signs, First, sign_found}
use Rattle.lt_script.specs.Pieces.{first_by, first_at}
use Rattle.lt_script.specs.Placed.{StopsDigits}
use Rattle.lt_script.proofs.Classes.{digit_is, digit_of, quote_of, same_byte}

abbrev IsToken : Option First → Shape → List ℕ → Type 0
IsToken o s left = o ≡ Some (tokens.token s left)

-- ---- runs

ends_case : (p : ℕ → Bool) (xs ys : List ℕ) (v : Bool) → (list_all p xs ≡ true → prefix_len p ys ≡ length xs) → (v && list_all p xs) ≡ true → cond v (1 + prefix_len p ys) 0 ≡ 1 + length xs
ends_case p xs ys true same e = ap (λ n. 1 + n) (same e)
ends_case p xs ys false same e = absurd cc

pub run_to : (p : ℕ → Bool) (xs : List ℕ) (b : ℕ) (rest : List ℕ) → list_all p xs ≡ true → p b ≡ false → prefix_len p (xs ++ b ∷ rest) ≡ length xs
run_to p [] b rest h out = rw out refl
run_to p (x ∷ xs) b rest h out = ends_case p xs (xs ++ b ∷ rest) (p x) (λ e. run_to p xs b rest e out) h ∙ omega arith

all_case : (p : ℕ → Bool) (x : ℕ) (xs : List ℕ) (v : Bool) → p x ≡ v → list_all p (take (prefix_len p xs) xs) ≡ true → list_all p (take (cond v (1 + prefix_len p xs) 0) (x ∷ xs)) ≡ true
all_case p x xs true is more =
    let one : 1 + prefix_len p xs ≡ suc (prefix_len p xs) = omega arith in
    ap (λ n. list_all p (take n (x ∷ xs))) one ∙ ap (λ (v : Bool). v && list_all p (take (prefix_len p xs) xs)) is ∙ more
all_case p x xs false is more = refl

pub run_all : (p : ℕ → Bool) (xs : List ℕ) → list_all p (take (prefix_len p xs) xs) ≡ true
run_all p [] = refl
run_all p (x ∷ xs) = all_case p x xs (p x) refl (run_all p xs)

stops_case : (p : ℕ → Bool) (x : ℕ) (xs : List ℕ) (b : ℕ) (rest : List ℕ) (v : Bool) → p x ≡ v → (drop (prefix_len p xs) xs ≡ b ∷ rest → p b ≡ false) → drop (cond v (1 + prefix_len p xs) 0) (x ∷ xs) ≡ b ∷ rest → p b ≡ false
stops_case p x xs b rest true is more e =
    let one : 1 + prefix_len p xs ≡ suc (prefix_len p xs) = omega arith in
    more (subst (λ n. drop n (x ∷ xs) ≡ b ∷ rest) one e)
stops_case p x xs b rest false is more e = let same : x ≡ b = cc in subst (λ k. p k ≡ false) same is

pub run_stops : (p : ℕ → Bool) (xs : List ℕ) (b : ℕ) (rest : List ℕ) → drop (prefix_len p xs) xs ≡ b ∷ rest → p b ≡ false
run_stops p [] b rest e = absurd cc
run_stops p (x ∷ xs) b rest e = stops_case p x xs b rest (p x) refl (run_stops p xs b rest) e

-- ---- a number that is found first

abbrev pub IsNumbered : List ℕ → List ℕ → List ℕ → Type 0
IsNumbered digits left tail = (tail ≡ digits ++ left) × (digits ≢ []) × (list_all is_digit digits ≡ true) × ((b : ℕ) (rest : List ℕ) → left ≡ b ∷ rest → is_digit b ≡ false)

word_no : (v : Bool) (text digits rest left : List ℕ) → IsToken (Some (cond v (tokens.fault 5) (tokens.token (tokens.word text) rest))) (number digits) left → ⊥
word_no true text digits rest left e = absurd cc
word_no false text digits rest left e = absurd cc

quote_no : (x y : Bool) (text digits rest left : List ℕ) → IsToken (Some (cond x (tokens.fault 1) (cond y (tokens.fault 4) (tokens.token (symbol text) rest)))) (number digits) left → ⊥
quote_no true y text digits rest left e = absurd cc
quote_no false true text digits rest left e = absurd cc
quote_no false false text digits rest left e = absurd cc

symbol_no : (n : ℕ) (text digits rest left : List ℕ) → IsToken (Some (tokens.close_symbol n text rest)) (number digits) left → ⊥
symbol_no n text digits [] left e = absurd cc
symbol_no n text digits (c ∷ rest) left e = quote_no (not (c == 39)) ((n == 0) || nat_lt 15 n) text digits rest left e

sign_no : (o : Option (List ℕ)) (bytes digits left : List ℕ) → IsToken (Some (sign_found o bytes)) (number digits) left → ⊥
sign_no None bytes digits left e = absurd cc
sign_no (Some text) bytes digits left e = absurd cc

some_digits : (b : ℕ) (bytes digits left : List ℕ) → is_digit b ≡ true → b ∷ bytes ≡ digits ++ left → ((c : ℕ) (rest : List ℕ) → left ≡ c ∷ rest → is_digit c ≡ false) → digits ≢ []
some_digits b bytes digits left here parts stops none =
    let same : left ≡ b ∷ bytes = ap (λ (us : List ℕ). us ++ left) (sym none) ∙ sym parts in
    let no_digit : is_digit b ≡ false = stops b bytes same in
    absurd cc

numbered_by : (c : Class) (b : ℕ) (bytes digits left : List ℕ) → class_of b ≡ c → IsToken (first_by c b bytes) (number digits) left → IsNumbered digits left (b ∷ bytes)
numbered_by white b bytes digits left is e = absurd cc
numbered_by feed b bytes digits left is e = absurd cc
numbered_by hash b bytes digits left is e = absurd cc
numbered_by letter b bytes digits left is e = let n : ℕ = prefix_len in_word (b ∷ bytes) in absurd (word_no (nat_lt 15 n) (take n (b ∷ bytes)) digits (drop n (b ∷ bytes)) left e)
numbered_by digit b bytes digits left is e =
    let n : ℕ = prefix_len is_digit (b ∷ bytes) in
    let text : take n (b ∷ bytes) ≡ digits = cc in
    let rest : drop n (b ∷ bytes) ≡ left = cc in
    let parts : b ∷ bytes ≡ digits ++ left = sym (take-append-drop n (b ∷ bytes)) ∙ ap (λ (us : List ℕ). us ++ drop n (b ∷ bytes)) text ∙ ap (λ (us : List ℕ). digits ++ us) rest in
    let stops : (c : ℕ) (others : List ℕ) → left ≡ c ∷ others → is_digit c ≡ false = λ c others same. run_stops is_digit (b ∷ bytes) c others (rest ∙ same) in
    (parts, some_digits b bytes digits left (digit_of b is) parts stops, subst (λ (us : List ℕ). list_all is_digit us ≡ true) text (run_all is_digit (b ∷ bytes)), stops)
numbered_by quote b bytes digits left is e = let n : ℕ = prefix_len in_word bytes in absurd (symbol_no n (take n bytes) digits (drop n bytes) left e)
numbered_by other b bytes digits left is e = absurd (sign_no (find (λ t. starts_with nat_eq (b ∷ bytes) t) signs) (b ∷ bytes) digits left e)

pub found_number : (tail digits left : List ℕ) → IsToken (first_at tail) (number digits) left → IsNumbered digits left tail
found_number [] digits left e = absurd cc
found_number (b ∷ bytes) digits left e = numbered_by (class_of b) b bytes digits left refl e

-- ---- a symbol that is found first

abbrev pub IsQuoted : List ℕ → List ℕ → List ℕ → Type 0
IsQuoted text left tail = (tail ≡ 39 ∷ (text ++ 39 ∷ left)) × (1 ≤ length text) × (length text ≤ 15) × (list_all in_word text ≡ true)

word_none : (v : Bool) (text found rest left : List ℕ) → IsToken (Some (cond v (tokens.fault 5) (tokens.token (tokens.word text) rest))) (symbol found) left → ⊥
word_none true text found rest left e = absurd cc
word_none false text found rest left e = absurd cc

sign_none : (o : Option (List ℕ)) (bytes text left : List ℕ) → IsToken (Some (sign_found o bytes)) (symbol text) left → ⊥
sign_none None bytes text left e = absurd cc
sign_none (Some found) bytes text left e = absurd cc

abbrev IsClosed : ℕ → ℕ → List ℕ → List ℕ → List ℕ → List ℕ → Type 0
IsClosed q n text rest found left = (q ≡ 39) × (text ≡ found) × (rest ≡ left) × (1 ≤ n) × (n ≤ 15)

close_case : (q n : ℕ) (text rest found left : List ℕ) (x y z : Bool) → (q == 39) ≡ x → (n == 0) ≡ y → nat_lt 15 n ≡ z → IsToken (Some (cond (not x) (tokens.fault 1) (cond (y || z) (tokens.fault 4) (tokens.token (symbol text) rest)))) (symbol found) left → IsClosed q n text rest found left
close_case q n text rest found left false y z one two three e = absurd cc
close_case q n text rest found left true true z one two three e = absurd cc
close_case q n text rest found left true false true one two three e = absurd cc
close_case q n text rest found left true false false one two three e = (same_byte q 39 one, cc, cc, Prim.grind arith, Prim.grind arith)

closed_by : (n : ℕ) (bytes text found rest left : List ℕ) → n ≤ length bytes → bytes ≡ text ++ rest → length text ≡ n → list_all in_word text ≡ true → IsToken (Some (tokens.close_symbol n text rest)) (symbol found) left → IsQuoted found left (39 ∷ bytes)
closed_by n bytes text found [] left le parts long all e = absurd cc
closed_by n bytes text found (q ∷ rest) left le parts long all e =
    let is : IsClosed q n text rest found left = close_case q n text rest found left (q == 39) (n == 0) (nat_lt 15 n) refl refl refl e in
    let same_length : length text ≡ length found = ap (λ (us : List ℕ). length us) is.1 in (
      ap (λ (us : List ℕ). 39 ∷ us) (parts ∙ ap (λ (us : List ℕ). us ++ q ∷ rest) is.1 ∙ ap (λ k. found ++ k ∷ rest) is.0 ∙ ap (λ (us : List ℕ). found ++ 39 ∷ us) is.2),
      omega (arith, is.3, long, same_length),
      omega (arith, is.4, long, same_length),
      subst (λ (us : List ℕ). list_all in_word us ≡ true) is.1 all,
    )

run_within : (p : ℕ → Bool) (xs : List ℕ) → prefix_len p xs ≤ length xs
run_within p [] = omega arith
run_within p (x ∷ xs) = within (p x) (run_within p xs)
  where
    within : (v : Bool) → prefix_len p xs ≤ length xs → cond v (1 + prefix_len p xs) 0 ≤ length (x ∷ xs)
    within true le = omega (arith, le)
    within false le = omega arith

quoted_by : (c : Class) (b : ℕ) (bytes text left : List ℕ) → class_of b ≡ c → IsToken (first_by c b bytes) (symbol text) left → IsQuoted text left (b ∷ bytes)
quoted_by white b bytes text left is e = absurd cc
quoted_by feed b bytes text left is e = absurd cc
quoted_by hash b bytes text left is e = absurd cc
quoted_by letter b bytes text left is e = let n : ℕ = prefix_len in_word (b ∷ bytes) in absurd (word_none (nat_lt 15 n) (take n (b ∷ bytes)) text (drop n (b ∷ bytes)) left e)
quoted_by digit b bytes text left is e = absurd cc
quoted_by quote b bytes text left is e =
    let n : ℕ = prefix_len in_word bytes in
    subst (λ k. IsQuoted text left (k ∷ bytes)) (sym (quote_of b is))
    (closed_by n bytes (take n bytes) text (drop n bytes) left (run_within in_word bytes) (sym (take-append-drop n bytes)) (length-take-le n bytes (run_within in_word bytes)) (run_all in_word bytes) e)
quoted_by other b bytes text left is e = absurd (sign_none (find (λ t. starts_with nat_eq (b ∷ bytes) t) signs) (b ∷ bytes) text left e)

pub found_symbol : (tail text left : List ℕ) → IsToken (first_at tail) (symbol text) left → IsQuoted text left tail
found_symbol [] text left e = absurd cc
found_symbol (b ∷ bytes) text left e = quoted_by (class_of b) b bytes text left refl e

-- ---- each that is written so is found

no_digit : (v : Bool) → v ≢ true → v ≡ false
no_digit true h = absurd (h refl)
no_digit false h = refl

first_holds : (p : ℕ → Bool) (x : ℕ) (xs : List ℕ) → list_all p (x ∷ xs) ≡ true → p x ≡ true
first_holds p x xs h = go (p x) h
  where
    go : (v : Bool) → (v && list_all p xs) ≡ true → v ≡ true
    go true e = refl
    go false e = absurd cc

pub first_digit : (c : ℕ) (digits : List ℕ) → list_all is_digit (c ∷ digits) ≡ true → is_digit c ≡ true
first_digit c digits h = first_holds is_digit c digits h

abbrev number_to : ℕ → List ℕ → Option First
number_to n bytes = Some (tokens.token (number (take n bytes)) (drop n bytes))

pub number_first : (digits behind : List ℕ) → digits ≢ [] → list_all is_digit digits ≡ true → StopsDigits behind → IsToken (first_at (digits ++ behind)) (number digits) behind
number_first [] behind some all stops = absurd (some refl)
number_first (c ∷ digits) [] some all stops = absurd stops
number_first (c ∷ digits) (b ∷ rest) some all stops =
    let bytes : List ℕ = c ∷ (digits ++ b ∷ rest) in
    let long : prefix_len is_digit bytes ≡ length (c ∷ digits) = run_to is_digit (c ∷ digits) b rest all (no_digit (is_digit b) stops) in
    let n : ℕ = length (c ∷ digits) in
    ap (λ k. first_by k c (digits ++ b ∷ rest)) (digit_is c (first_digit c digits all)) ∙ ap (λ k. number_to k bytes) long
    ∙ ap (λ (us : List ℕ). Some (tokens.token (number us) (drop n bytes))) (take_at (c ∷ digits) (b ∷ rest) n refl) ∙ ap (λ (us : List ℕ). Some (tokens.token (number (c ∷ digits)) us)) (drop_at (c ∷ digits) (b ∷ rest) n refl)

closes_here : (n : ℕ) (text left : List ℕ) → 1 ≤ n → n ≤ 15 → tokens.close_symbol n text (39 ∷ left) ≡ tokens.token (symbol text) left
closes_here n text left some few = go (n == 0) (nat_lt 15 n) (Prim.grind arith) (Prim.grind arith)
  where
    go : (x y : Bool) → x ≡ false → y ≡ false → cond (x || y) (tokens.fault 4) (tokens.token (symbol text) left) ≡ tokens.token (symbol text) left
    go true y one two = absurd cc
    go false true one two = absurd cc
    go false false one two = refl

pub symbol_first : (text left : List ℕ) → 1 ≤ length text → length text ≤ 15 → list_all in_word text ≡ true → IsToken (first_at (39 ∷ (text ++ 39 ∷ left))) (symbol text) left
symbol_first text left some few all =
    let bytes : List ℕ = text ++ 39 ∷ left in
    let n : ℕ = length text in
    ap (λ k. Some (tokens.close_symbol k (take k bytes) (drop k bytes))) (run_to in_word text 39 left all refl)
    ∙ ap (λ (us : List ℕ). Some (tokens.close_symbol n us (drop n bytes))) (take_at text (39 ∷ left) n refl) ∙ ap (λ (us : List ℕ). Some (tokens.close_symbol n text us)) (drop_at text (39 ∷ left) n refl)
    ∙ ap (λ (f : First). Some f) (closes_here n text left some few)
