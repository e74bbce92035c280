-- What the lexer found at the next token, whatever comes behind the bytes.
use Rattle.std.proofs.Common.{◌≡◌, ◌≢◌, ℕ, ◌≤◌, ◌<◌, List, [], ◌∷◌, Some, refl, sym, ap, subst, ◌∙◌}
use Rattle.lt_model.specs.Tokens.{class_of, Class, letter, digit, quote, other, First, word_at, number_at, symbol_at, sign_at}
use Rattle.lt_script.specs.declared.lexer.Lexed.{Lexed}
use Rattle.lt_script.specs.declared.lexer.Lexed.TheVariants.{Token as One, End, Broken}
use Rattle.lt_script.specs.View.{IsFirst, IsOther}
use Rattle.lt_script.specs.Pieces.{Passes, first_by, IsFound, Skipped, Opened}
use Rattle.lt_script.proofs.Firsts.{letter_class, digit_class, other_class}
use Rattle.lt_script.proofs.Skips.{Arrived, arrives}

found_first : (r : Lexed) (line b : ℕ) (bytes left : List ℕ) (c : Class) (f : First) → class_of b ≡ c → first_by c b bytes ≡ Some f → IsFirst r line left f → IsFound r line (b ∷ bytes) left
found_first (One t) line b bytes left c f is by h = (ap (λ k. first_by k b bytes) is ∙ by ∙ ap (λ g. Some g) h.0, h.1)
found_first End line b bytes left c f is by h = absurd h
found_first (Broken code) line b bytes left c f is by h = ap (λ k. first_by k b bytes) is ∙ by ∙ ap (λ g. Some g) h

opened_by : (r : Lexed) (first line after b : ℕ) (all bytes left : List ℕ) (c : Class) (f : First) → Skipped first all line (b ∷ bytes) → after ≡ line → class_of b ≡ c → first_by c b bytes ≡ Some f → IsFirst r line left f → Opened r first all after left
opened_by r first line after b all bytes left c f s same is by h =
    let way : Arrived first line all (b ∷ bytes) = arrives first line b all bytes s in
    record {
      tail = b ∷ bytes;
      back = way.0;
      passes = subst (λ k. Passes first way.0.front [] k (b ∷ bytes)) (sym same) way.1;
      is = subst (λ k. IsFound r k (b ∷ bytes) left) (sym same) (found_first r line b bytes left c f is by h);
    }

pub opened_letter : (r : Lexed) (first line after b : ℕ) (all bytes left : List ℕ) → Skipped first all line (b ∷ bytes) → after ≡ line → 97 ≤ b → b ≤ 122 → IsFirst r line left (word_at (b ∷ bytes)) → Opened r first all after left
opened_letter r first line after b all bytes left s same low high h = opened_by r first line after b all bytes left letter (word_at (b ∷ bytes)) s same (letter_class b low high) refl h

pub opened_line : (r : Lexed) (first line after : ℕ) (all bytes left : List ℕ) → Skipped first all line (95 ∷ bytes) → after ≡ line → IsFirst r line left (word_at (95 ∷ bytes)) → Opened r first all after left
opened_line r first line after all bytes left s same h = opened_by r first line after 95 all bytes left letter (word_at (95 ∷ bytes)) s same refl refl h

pub opened_digit : (r : Lexed) (first line after b : ℕ) (all bytes left : List ℕ) → Skipped first all line (b ∷ bytes) → after ≡ line → 48 ≤ b → b ≤ 57 → IsFirst r line left (number_at (b ∷ bytes)) → Opened r first all after left
opened_digit r first line after b all bytes left s same low high h = opened_by r first line after b all bytes left digit (number_at (b ∷ bytes)) s same (digit_class b low high) refl h

pub opened_quote : (r : Lexed) (first line after : ℕ) (all bytes left : List ℕ) → Skipped first all line (39 ∷ bytes) → after ≡ line → IsFirst r line left (symbol_at bytes) → Opened r first all after left
opened_quote r first line after all bytes left s same h = opened_by r first line after 39 all bytes left quote (symbol_at bytes) s same refl refl h

pub opened_other : (r : Lexed) (first line after b : ℕ) (all bytes left : List ℕ) → Skipped first all line (b ∷ bytes) → after ≡ line → IsOther (class_of b) → b ≢ 39 → b ≢ 95 → (97 ≤ b → 122 < b) → (48 ≤ b → 57 < b) → IsFirst r line left (sign_at (b ∷ bytes)) → Opened r first all after left
opened_other r first line after b all bytes left s same is not_quote not_line letters digits h = opened_by r first line after b all bytes left other (sign_at (b ∷ bytes)) s same (other_class b is not_quote not_line letters digits) refl h

pub opened_end : (first line : ℕ) (all left : List ℕ) → Skipped first all line left → left ≡ [] → Opened End first all line left
opened_end first line all left s none = record { tail = s.tail; back = s.back; passes = s.passes; is = s.ends none }
