-- The bytes of a text that a lexer has passed, and its tokens that are decided.
use Rattle.std.proofs.Common.{inl, ◌≡◌, ◌≢◌, ℕ, ◌+◌, Bool, true, false, ◌&&◌, ◌==◌, List, [], ◌∷◌, ◌++◌, length, Option, Some, refl, sym, ap, subst, ◌∙◌, append_assoc, arith}
use Rattle.std.specs.Prelude.{not}
use Rattle.std.specs.List.{prefix_len, list_all}
use Rattle.std.proofs.lemmas.List.{append-nil, length-append, drop_all}
use Rattle.lt_model.specs.Script as script
use Rattle.lt_model.specs.Tokens as tokens
use Rattle.lt_model.specs.Tokens.{Shape, Token, Read, Class, white, feed, hash, letter, digit, quote, other, class_of, in_word, is_digit, First, tokens_at}
use Rattle.lt_script.specs.Pieces.{IsBack, BeginsAs, Passes, goes_on_by, goes_on, first_by, first_at}
use Rattle.lt_script.specs.Placed.{IsDivided}
use Rattle.lt_script.proofs.Backs.{token_back}
use Rattle.lt_script.proofs.Classes.{hash_of}
use Rattle.lt_script.proofs.Gaps.{over_comment}
use Rattle.lt_script.proofs.Passing.{passes_token}
use Rattle.lt_script.proofs.Pieces.{tokens_first}
use Rattle.lt_script.proofs.Skips.{run_whole}
use Rattle.lt_script.proofs.AnyLine.{Goes, goes_so, goes_none, goes_on as goes_further}

abbrev IsToken : Option First → Shape → List ℕ → Type 0
IsToken o s left = o ≡ Some (tokens.token s left)

-- the bytes end with a semicolon
abbrev pub EndsSo : List ℕ → Type 0
EndsSo bytes = (front : List ℕ) × (bytes ≡ front ++ 59 ∷ [])

-- the bytes of a text that were passed, and those that are left
pub record HasPassed (text rest : List ℕ) : Type 0 where
  pub front : List ℕ
  pub tokens : List Shape
  pub lines : ℕ
  pub parts : text ≡ front ++ rest
  pub goes : Goes front tokens lines rest

pub passed_none : (text : List ℕ) → HasPassed text text
passed_none text = record { front = []; tokens = []; lines = 0; parts = refl; goes = goes_none text }

pub passed_on : (text rest left front : List ℕ) (ts : List Shape) (lines : ℕ) → HasPassed text rest → rest ≡ front ++ left → Goes front ts lines left → HasPassed text left
passed_on text rest left front ts lines h parts goes = record {
  front = h.front ++ front;
  tokens = h.tokens ++ ts;
  lines = h.lines + lines;
  parts = h.parts ∙ ap (λ (us : List ℕ). h.front ++ us) parts ∙ sym (append_assoc h.front front left);
  goes = goes_further left rest text h.front front h.tokens ts h.lines lines h.parts parts h.goes goes;
}

-- ---- what ends with a semicolon

tail_of : (xs : List ℕ) → List ℕ
tail_of [] = []
tail_of (x ∷ xs) = xs

pub ends_too : (front head tail : List ℕ) → tail ≢ [] → head ++ tail ≡ front ++ 59 ∷ [] → EndsSo tail
unfolding tail_of
ends_too front [] tail some e = (front, e)
ends_too [] (x ∷ []) tail some e = absurd (some (ap tail_of e))
ends_too [] (x ∷ y ∷ head) tail some e = let none : y ∷ (head ++ tail) ≡ [] = ap tail_of e in absurd cc
ends_too (y ∷ front) (x ∷ head) tail some e = ends_too front head tail some (ap tail_of e)

pub last_out : (p : ℕ → Bool) (xs : List ℕ) (c : ℕ) → p c ≡ false → list_all p (xs ++ c ∷ []) ≡ false
last_out p [] c out = rw out refl
last_out p (x ∷ xs) c out = either (p x) (last_out p xs c out)
  where
    either : (v : Bool) → list_all p (xs ++ c ∷ []) ≡ false → (v && list_all p (xs ++ c ∷ [])) ≡ false
    either true e = e
    either false e = refl

decided_by : (k : Class) (b : ℕ) (front left : List ℕ) (s : Shape) → IsToken (first_by k b (front ++ 59 ∷ [])) s left → goes_on_by k b (front ++ 59 ∷ []) ≡ false
decided_by white b front left s e = refl
decided_by feed b front left s e = refl
decided_by hash b front left s e = absurd cc
decided_by letter b front left s e = last_out in_word (b ∷ front) 59 refl
decided_by digit b front left s e = last_out is_digit (b ∷ front) 59 refl
decided_by quote b front left s e = last_out in_word front 59 refl
decided_by other b [] left s e = refl
decided_by other b (c ∷ front) left s e = refl

decided_at : (front left : List ℕ) (s : Shape) → IsToken (first_at (front ++ 59 ∷ [])) s left → goes_on (front ++ 59 ∷ []) ≡ false
decided_at [] left s e = refl
decided_at (b ∷ front) left s e = decided_by (class_of b) b front left s e

no_token : (tail left : List ℕ) (s : Shape) → tail ≡ [] → IsToken (first_at tail) s left → ⊥
no_token tail left s none e = let no : first_at [] ≡ Some (tokens.token s left) = subst (λ (us : List ℕ). IsToken (first_at us) s left) none e in absurd cc

-- the first token of what is left of a text that ends with a semicolon
pub decided : (text tail left : List ℕ) (s : Shape) → EndsSo text → HasPassed text tail → IsToken (first_at tail) s left → goes_on tail ≡ false
decided text tail left s ends h e =
    let so : EndsSo tail = ends_too ends.0 h.front tail (λ none. no_token tail left s none e) (sym h.parts ∙ ends.1) in
    subst (λ (us : List ℕ). goes_on us ≡ false) (sym so.1) (decided_at so.0 left s (subst (λ (us : List ℕ). IsToken (first_at us) s left) so.1 e))

-- such a token's bytes, on whatever line they begin
abbrev pub TokenGoes : List ℕ → Shape → List ℕ → Type 0
TokenGoes tail s left = (front : List ℕ) × (tail ≡ front ++ left) × Goes front (s ∷ []) 0 left

pub token_goes : (tail left : List ℕ) (s : Shape) → IsToken (first_at tail) s left → goes_on tail ≡ false → TokenGoes tail s left
token_goes tail left s is stops =
    let back : IsBack left tail = token_back tail left s is in
    (back.front, back.parts, goes_so 0 0 0 back.front left (record { shape = s; line = 0 } ∷ []) (omega arith) (passes_token 0 tail left s is stops back))

-- ---- the end

abbrev read_of : List Token → tokens.Ending → Read
read_of ts ending = (ts, ending)

abbrev FromLine : List ℕ → ℕ → List Shape → ℕ → List ℕ → Type 0
FromLine front line ts lines left = (vs : List Token) × Passes line front vs (line + lines) left × (script.shapes vs ≡ ts)

both_case : (p : ℕ → Bool) (xs ys : List ℕ) (v : Bool) → (list_all p xs ≡ true → list_all p (xs ++ ys) ≡ true) → (v && list_all p xs) ≡ true → (v && list_all p (xs ++ ys)) ≡ true
both_case p xs ys true more e = more e
both_case p xs ys false more e = absurd cc

all_both : (p : ℕ → Bool) (xs ys : List ℕ) → list_all p xs ≡ true → list_all p ys ≡ true → list_all p (xs ++ ys) ≡ true
all_both p [] ys h k = k
all_both p (x ∷ xs) ys h k = both_case p xs ys (p x) (λ e. all_both p xs ys e k) h

-- one more byte behind a comment that isn't ended changes nothing
no_more : (line : ℕ) (bytes more : List ℕ) → list_all (λ c. not (c == 10)) bytes ≡ true → list_all (λ c. not (c == 10)) more ≡ true → tokens_at line (35 ∷ (bytes ++ more)) ≡ ([], tokens.finished line)
no_more line bytes more h k =
    let p : ℕ → Bool = λ c. not (c == 10) in
    over_comment line (bytes ++ more) ∙ ap (λ (us : List ℕ). tokens_at line us) (drop_all (prefix_len p (bytes ++ more)) (bytes ++ more) (omega (arith, run_whole p (bytes ++ more) (all_both p bytes more h k))))

-- a text that is divided whatever comes behind it doesn't end within a comment
no_comment : (text bytes : List ℕ) → IsDivided text → (h : HasPassed text (35 ∷ bytes)) → list_all (λ c. not (c == 10)) bytes ≡ true → ⊥
unfolding Passes
no_comment text bytes divided h unended = go (divided.2 0) (h.goes 0)
  where
    a : List ℕ
    a = 97 ∷ []

    go : FromLine text 0 divided.1 divided.0 [] → FromLine h.front 0 h.tokens h.lines (35 ∷ bytes) → ⊥
    go (vs, f, same) (ws, g, others) =
        let plain : read_of (vs ++ []) (tokens.finished (0 + divided.0)) ≡ read_of (ws ++ []) (tokens.finished (0 + h.lines)) =
        sym (f [] tt) ∙ ap (tokens_at 0) (append-nil text ∙ h.parts) ∙ g (35 ∷ bytes) (35, bytes, refl, inl refl) ∙ ap (λ (r : Read). read_of (ws ++ r.0) r.1) (ap (λ (us : List ℕ). tokens_at (0 + h.lines) (35 ∷ us)) (sym (append-nil bytes)) ∙ no_more (0 + h.lines) bytes [] unended refl) in
        let more : read_of (vs ++ (tokens_at (0 + divided.0) a).0) (tokens_at (0 + divided.0) a).1 ≡ read_of (ws ++ []) (tokens.finished (0 + h.lines)) =
        sym (f a tt) ∙ ap (tokens_at 0) (ap (λ (us : List ℕ). us ++ a) h.parts ∙ append_assoc h.front (35 ∷ bytes) a) ∙ g (35 ∷ (bytes ++ a)) (35, bytes ++ a, refl, inl refl) ∙ ap (λ (r : Read). read_of (ws ++ r.0) r.1) (no_more (0 + h.lines) bytes a unended refl) in
        let one : length (vs ++ []) ≡ length (ws ++ []) = ap (λ (r : Read). length r.0) plain in
        let two : length (vs ++ (tokens_at (0 + divided.0) a).0) ≡ length (ws ++ []) = ap (λ (r : Read). length r.0) more in
        let three : length ((tokens_at (0 + divided.0) a).0) ≡ 1 = refl in
        absurd (omega (arith, one, two, three, length-append vs [], length-append vs (tokens_at (0 + divided.0) a).0))

undecided_by : (k : Class) (text : List ℕ) (b : ℕ) (front : List ℕ) → class_of b ≡ k → IsDivided text → HasPassed text (b ∷ (front ++ 59 ∷ [])) → goes_on_by k b (front ++ 59 ∷ []) ≡ true → ⊥
undecided_by white text b front is divided h e = absurd cc
undecided_by feed text b front is divided h e = absurd cc
undecided_by hash text b front is divided h e = no_comment text (front ++ 59 ∷ []) divided (subst (λ c. HasPassed text (c ∷ (front ++ 59 ∷ []))) (hash_of b is) h) e
undecided_by letter text b front is divided h e = let no : list_all in_word (b ∷ (front ++ 59 ∷ [])) ≡ false = last_out in_word (b ∷ front) 59 refl in absurd cc
undecided_by digit text b front is divided h e = let no : list_all is_digit (b ∷ (front ++ 59 ∷ [])) ≡ false = last_out is_digit (b ∷ front) 59 refl in absurd cc
undecided_by quote text b front is divided h e = let no : list_all in_word (front ++ 59 ∷ []) ≡ false = last_out in_word front 59 refl in absurd cc
undecided_by other text b [] is divided h e = absurd cc
undecided_by other text b (c ∷ front) is divided h e = absurd cc

undecided_at : (text front : List ℕ) → IsDivided text → HasPassed text (front ++ 59 ∷ []) → goes_on (front ++ 59 ∷ []) ≡ true → ⊥
undecided_at text [] divided h e = absurd cc
undecided_at text (b ∷ front) divided h e = undecided_by (class_of b) text b front refl divided h e

-- where nothing of what is left is decided, nothing is left
pub all_passed : (text tail : List ℕ) → IsDivided text → HasPassed text tail → goes_on tail ≡ true → tail ≡ []
all_passed text [] divided h e = refl
all_passed text (b ∷ tail) divided h e =
    let so : EndsSo (b ∷ tail) = ends_too divided.3.0 h.front (b ∷ tail) (λ none. absurd cc) (sym h.parts ∙ divided.3.1) in
    absurd (undecided_at text so.0 divided (subst (HasPassed text) so.1 h) (subst (λ (us : List ℕ). goes_on us ≡ true) so.1 e))

-- no token of it is broken
pub no_fault : (text tail : List ℕ) (code : ℕ) → IsDivided text → HasPassed text tail → first_at tail ≡ Some (tokens.fault code) → ⊥
unfolding Passes
no_fault text tail code divided h e = go (divided.2 0) (h.goes 0)
  where
    is_finished : tokens.Ending → Bool
    is_finished (tokens.finished line) = true
    is_finished (tokens.broken line code) = false

    itself : (tail : List ℕ) → BeginsAs tail tail
    itself [] = tt
    itself (b ∷ tail) = (b, tail, refl, inl refl)

    go : FromLine text 0 divided.1 divided.0 [] → FromLine h.front 0 h.tokens h.lines tail → ⊥
    go (vs, f, same) (ws, g, others) =
        let both : read_of (vs ++ []) (tokens.finished (0 + divided.0)) ≡ read_of (ws ++ []) (tokens.broken (0 + h.lines) code) =
        sym (f [] tt) ∙ ap (tokens_at 0) (append-nil text ∙ h.parts) ∙ g tail (itself tail) ∙ ap (λ (r : Read). read_of (ws ++ r.0) r.1) (tokens_first (0 + h.lines) tail (tokens.fault code) e) in
        let no : true ≡ false = ap (λ (r : Read). is_finished r.1) both in
        absurd cc
