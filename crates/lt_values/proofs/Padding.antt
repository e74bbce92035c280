-- Symbols as 15 digits to the base 256: their bytes and then zeros.
use Rattle.std.proofs.Common.{◌≡◌, ℕ, zero, suc, ◌+◌, ◌-◌, ◌*◌, ◌/◌, ◌^◌, ◌<◌, ◌≤◌, true, cond, not, eqb, List, [], ◌∷◌, ◌++◌, length, replicate, refl, sym, ap, ◌∙◌, arith}
use Rattle.std.specs.List.{AllByRecursion, list_all, take_while, fold}
use Rattle.std.specs.Int.{w128, bytes_high_first, from_be_bytes}
use Rattle.std.specs.Ordering.{nat_cmp, ordering_then}
use Rattle.std.specs.declared.cmp.Ordering.TheVariants.{Less, Equal, Greater}
use Rattle.std.specs.Cmp.{nat_cmp_is}
use Rattle.std.specs.Cmp.Lexicographic.{slice_cmp}
use Rattle.std.proofs.lemmas.Bool.{and_parts, ne_eqb}
use Rattle.std.proofs.lemmas.Bool.Decides.{nat_tests}
use Rattle.std.proofs.lemmas.Cmp.{nat_cmp_total, tied_itself, ranked}
use Rattle.std.proofs.lemmas.List.{length-append, length-replicate}
use Rattle.std.proofs.lemmas.List.Sums.{take_while-cons}
use Rattle.lt_face.specs.Rows.{IsCell}
use Rattle.lt_model.specs.Cells.{sym_cell, sym_text}
use Rattle.lt_model.specs.Tokens.{in_word, between}
use Rattle.lt_values.specs.Symbols.{is_symbol}
use Rattle.lt_model.proofs.Digits.{step, number, AreDigits, high, digits_back, bytes_number, grows, stays_below}

-- a byte that isn't 0
abbrev pub IsByte : ℕ → Type 0
IsByte b = (0 < b) × (b < 256)

abbrev pub AreBytes : List ℕ → Type 0
AreBytes text = AllByRecursion IsByte text

-- ---- symbols

word_byte : (b : ℕ) → in_word b ≡ true → IsByte b
word_byte b h = (grind (arith, nat_tests), grind (arith, nat_tests))

word_bytes : (text : List ℕ) → list_all in_word text ≡ true → AreBytes text
word_bytes [] h = tt
word_bytes (b ∷ text) h =
    let parts = and_parts (in_word b) (list_all in_word text) h in
    (word_byte b parts.0, word_bytes text parts.1)

pub record Symbol (text : List ℕ) : Type 0 where
  pub some : 1 ≤ length text
  pub few : length text ≤ 15
  pub bytes : AreBytes text

pub symbol : (text : List ℕ) → is_symbol text ≡ true → Symbol text
symbol text h =
    let parts = and_parts (between 1 15 (length text)) (list_all in_word text) h in
    let within : between 1 15 (length text) ≡ true = parts.0 in
    record { some = grind (arith, nat_tests); few = grind (arith, nat_tests); bytes = word_bytes text parts.1 }

-- ---- so many digits: the bytes of a text and then zeros

abbrev pub pad : ℕ → List ℕ → List ℕ
pad zero text = text
pad (suc k) [] = 0 ∷ pad k []
pad (suc k) (b ∷ text) = b ∷ pad k text

pub pad_is : (k : ℕ) (text : List ℕ) → length text ≤ k → text ++ replicate (k - length text) 0 ≡ pad k text
pad_is zero [] h = refl
pad_is zero (b ∷ text) h = absurd (omega arith)
pad_is (suc k) [] h =
    let whole : suc k - 0 ≡ suc k = omega arith in
    let part : k ≡ k - 0 = omega arith in
    let rest : replicate k 0 ≡ pad k [] = ap (λ n. replicate n 0) part ∙ pad_is k [] (omega arith) in
    ap (λ n. replicate n 0) whole ∙ ap (λ (r : List ℕ). 0 ∷ r) rest
pad_is (suc k) (b ∷ text) h =
    let part : suc k - length (b ∷ text) ≡ k - length text = omega arith in
    ap (λ n. (b ∷ text) ++ replicate n 0) part ∙ ap (λ (r : List ℕ). b ∷ r) (pad_is k text (omega arith))

pub length-pad : (k : ℕ) (text : List ℕ) → length text ≤ k → length (pad k text) ≡ k
length-pad zero [] h = refl
length-pad zero (b ∷ text) h = absurd (omega arith)
length-pad (suc k) [] h = omega (arith, length-pad k [] (omega arith))
length-pad (suc k) (b ∷ text) h = omega (arith, length-pad k text (omega arith))

pub digits-pad : (k : ℕ) (text : List ℕ) → AreBytes text → AreDigits (pad k text)
digits-pad zero [] all = tt
digits-pad zero (b ∷ text) all = (all.0.1, digits-pad zero text all.1)
digits-pad (suc k) [] all = (omega arith, digits-pad k [] tt)
digits-pad (suc k) (b ∷ text) all = (all.0.1, digits-pad k text all.1)

-- ---- the cell of a symbol

pub sym_cell_is : (text : List ℕ) → length text ≤ 15 → sym_cell text ≡ number (pad 15 text)
sym_cell_is text few = ap number (pad_is 15 text few)

sym_cell-least : (text : List ℕ) → Symbol text → 1 ≤ sym_cell text
sym_cell-least [] s = absurd (omega (arith, s.some))
sym_cell-least (b ∷ text) s =
    let some : 0 < b = s.bytes.0.0 in
    omega (arith, sym_cell_is (b ∷ text) s.few, grows (pad 14 text) (256 * 0 + b))

sym_cell-most : (text : List ℕ) → Symbol text → sym_cell text < 2 ^ 120
sym_cell-most text s =
    let above : number (pad 15 text) / 256 ^ 15 ≡ 0 = high (pad 15 text) 0 15 (length-pad 15 text s.few) (digits-pad 15 text s.bytes) in
    omega (arith, sym_cell_is text s.few)

-- the key that is read from a 0 and those digits
pub key_is : (text : List ℕ) → length text ≤ 15 → from_be_bytes w128 (0 ∷ (text ++ replicate (15 - length text) 0)) ≡ sym_cell text
key_is text few =
    bytes_number (0 ∷ (text ++ replicate (15 - length text) 0)) (omega (arith, length-append text (replicate (15 - length text) 0), length-replicate {A = ℕ} (15 - length text) 0))

-- a symbol's key is a cell
pub IsCell-sym_cell : (text : List ℕ) → is_symbol text ≡ true → IsCell (sym_cell text)
IsCell-sym_cell text is = (sym_cell-least text (symbol text is), sym_cell-most text (symbol text is))

-- ---- order

less_is : (m n : ℕ) → m < n → nat_cmp m n ≡ Less
less_is m n h = sym (nat_cmp_is m n Less h)

greater_is : (m n : ℕ) → n < m → nat_cmp m n ≡ Greater
greater_is m n h = sym (nat_cmp_is m n Greater h)

-- behind the same number
pub order : (k n : ℕ) (s t : List ℕ) → length s ≤ k → length t ≤ k → AreBytes s → AreBytes t → nat_cmp (fold step n (pad k s)) (fold step n (pad k t)) ≡ slice_cmp nat_cmp s t
order k n [] [] s-few t-few s-bytes t-bytes = tied_itself nat_cmp_total (fold step n (pad k []))
order zero n [] (y ∷ t) s-few t-few s-bytes t-bytes = absurd (omega arith)
order zero n (x ∷ s) t s-few t-few s-bytes t-bytes = absurd (omega arith)
order (suc k) n [] (y ∷ t) s-few t-few s-bytes t-bytes =
    let some : 0 < y = t-bytes.0.0 in
    let long : length (pad k []) ≡ length (pad k t) = length-pad k [] (omega arith) ∙ sym (length-pad k t (omega arith)) in
    less_is (fold step (256 * n + 0) (pad k [])) (fold step (256 * n + y) (pad k t)) (stays_below (pad k []) (pad k t) (256 * n + 0) (256 * n + y) long (digits-pad k [] tt) (omega arith))
order (suc k) n (x ∷ s) [] s-few t-few s-bytes t-bytes =
    let some : 0 < x = s-bytes.0.0 in
    let long : length (pad k []) ≡ length (pad k s) = length-pad k [] (omega arith) ∙ sym (length-pad k s (omega arith)) in
    greater_is (fold step (256 * n + x) (pad k s)) (fold step (256 * n + 0) (pad k [])) (stays_below (pad k []) (pad k s) (256 * n + 0) (256 * n + x) long (digits-pad k [] tt) (omega arith))
order (suc k) n (x ∷ s) (y ∷ t) s-few t-few s-bytes t-bytes =
    let s-long : length (pad k s) ≡ k = length-pad k s (omega arith) in
    let t-long : length (pad k t) ≡ k = length-pad k t (omega arith) in
    elim (nat_cmp x y) as (λ o. nat_cmp x y ≡ o → nat_cmp (fold step (256 * n + x) (pad k s)) (fold step (256 * n + y) (pad k t)) ≡ ordering_then o (slice_cmp nat_cmp s t)) [
      | Less ↦ λ e. let h : x < y = ranked x y Less (sym e) in less_is (fold step (256 * n + x) (pad k s)) (fold step (256 * n + y) (pad k t)) (stays_below (pad k s) (pad k t) (256 * n + x) (256 * n + y) (s-long ∙ sym t-long) (digits-pad k s s-bytes.1) (omega arith))
      | Equal ↦ λ e. let h : x ≡ y = ranked x y Equal (sym e) in ap (λ z. nat_cmp (fold step (256 * n + x) (pad k s)) (fold step (256 * n + z) (pad k t))) (sym h) ∙ order k (256 * n + x) s t (omega arith) (omega arith) s-bytes.1 t-bytes.1
      | Greater ↦ λ e. let h : y < x = ranked x y Greater (sym e) in greater_is (fold step (256 * n + x) (pad k s)) (fold step (256 * n + y) (pad k t)) (stays_below (pad k t) (pad k s) (256 * n + y) (256 * n + x) (t-long ∙ sym s-long) (digits-pad k t t-bytes.1) (omega arith))
    ] refl

pub symbols_ordered : (s t : List ℕ) → is_symbol s ≡ true → is_symbol t ≡ true → nat_cmp (sym_cell s) (sym_cell t) ≡ slice_cmp nat_cmp s t
symbols_ordered s t s-is t-is =
    let s-parts = symbol s s-is in
    let t-parts = symbol t t-is in
    ap (λ n. nat_cmp n (sym_cell t)) (sym_cell_is s s-parts.few) ∙ ap (nat_cmp (number (pad 15 s))) (sym_cell_is t t-parts.few) ∙ order 15 0 s t s-parts.few t-parts.few s-parts.bytes t-parts.bytes

-- ---- the way back

pub before_zeros : (k : ℕ) (text : List ℕ) → AreBytes text → take_while (λ b. not (eqb b 0)) (pad k text) ≡ text
before_zeros zero [] all = refl
before_zeros zero (b ∷ text) all =
    let passes : not (eqb b 0) ≡ true = ap not (ne_eqb b 0 (λ e. omega (arith, all.0.0))) in
    take_while-cons (λ c. not (eqb c 0)) b text ∙ ap (λ v. cond v (b ∷ take_while (λ c. not (eqb c 0)) text) []) passes ∙ ap (λ (r : List ℕ). b ∷ r) (before_zeros zero text all.1)
before_zeros (suc k) [] all = refl
before_zeros (suc k) (b ∷ text) all =
    let passes : not (eqb b 0) ≡ true = ap not (ne_eqb b 0 (λ e. omega (arith, all.0.0))) in
    take_while-cons (λ c. not (eqb c 0)) b (pad k text) ∙ ap (λ v. cond v (b ∷ take_while (λ c. not (eqb c 0)) (pad k text)) []) passes ∙ ap (λ (r : List ℕ). b ∷ r) (before_zeros k text all.1)

pub symbol_returns : (text : List ℕ) → is_symbol text ≡ true → sym_text (sym_cell text) ≡ text
symbol_returns text is =
    let parts = symbol text is in
    let digits : bytes_high_first 15 (sym_cell text) ≡ pad 15 text = ap (bytes_high_first 15) (sym_cell_is text parts.few) ∙ digits_back (pad 15 text) 0 15 (length-pad 15 text parts.few) (digits-pad 15 text parts.bytes) in
    ap (λ (ds : List ℕ). take_while (λ b. not (eqb b 0)) ds) digits ∙ before_zeros 15 text parts.bytes
