-- Tokens before a constant, whatever constant it is.
use Rattle.std.proofs.Common.{inl, inr, ◌≡◌, ℕ, ◌+◌, Bool, true, List, [], ◌∷◌, ◌++◌, refl, ap, subst, ◌∙◌, append_assoc}
use Rattle.lt_model.specs.Script as script
use Rattle.lt_model.specs.Tokens as tokens
use Rattle.lt_model.specs.Tokens.{Shape, Token, Read, number, symbol, is_digit, tokens_at}
use Rattle.lt_script.specs.declared.slots.Blank.TheVariants.{Number, Symbol}
use Rattle.lt_script.specs.Pieces.{Passes}
use Rattle.lt_script.specs.Placed.{IsWritten, Closes, with_constant, IsChunk}
use Rattle.lt_script.proofs.Pieces.{tokens_first}
use Rattle.lt_script.proofs.Constants.{first_digit, number_first, symbol_first}
use Rattle.lt_script.proofs.AnyLine.{Goes}

pub chunk_number : (minus : Bool) (chunk tail others : List ℕ) (ts : List Shape) (here x : ℕ) → tail ≡ x ∷ others → is_digit x ≡ true → Goes chunk ts here tail → IsChunk (Number minus) chunk ts here
unfolding Passes
chunk_number minus chunk tail others ts here x is one goes = λ line. go line (goes line)
  where
    reads : (line : ℕ) (vs : List Token) (digits behind left : List ℕ) → Passes line chunk vs (line + here) (x ∷ others) → IsWritten (Number minus) digits → Closes (Number minus) behind left
        → tokens_at line (chunk ++ (digits ++ behind)) ≡ with_constant vs (number digits) (line + here) (tokens_at (line + here) left)
    reads line vs [] behind left h written closes = absurd (written.0 refl)
    reads line vs (c ∷ digits) behind left h written closes =
        ap (λ (us : List ℕ). tokens_at line (chunk ++ ((c ∷ digits) ++ us))) closes.0 ∙ h ((c ∷ digits) ++ left) (c, digits ++ left, refl, inr (one, first_digit c digits written.1))
        ∙ ap (λ (r : Read). (vs ++ r.0, r.1)) (tokens_first (line + here) ((c ∷ digits) ++ left) (tokens.token (number (c ∷ digits)) left) (number_first (c ∷ digits) left written.0 written.1 closes.1))

    go : (line : ℕ) → ((vs : List Token) × Passes line chunk vs (line + here) tail × (script.shapes vs ≡ ts))
        → (vs : List Token) × (script.shapes vs ≡ ts) × ((digits behind left : List ℕ) → IsWritten (Number minus) digits → Closes (Number minus) behind left → tokens_at line (chunk ++ (digits ++ behind)) ≡ with_constant vs (number digits) (line + here) (tokens_at (line + here) left))
    go line (vs, h, same) = (vs, same, λ digits behind left. reads line vs digits behind left (subst (λ (us : List ℕ). Passes line chunk vs (line + here) us) is h))

-- a symbol's first quote stands at the end of the chunk
pub chunk_symbol : (chunk tail others : List ℕ) (ts : List Shape) (here : ℕ) → tail ≡ 39 ∷ others → Goes chunk ts here tail → IsChunk Symbol (chunk ++ 39 ∷ []) ts here
unfolding Passes
chunk_symbol chunk tail others ts here is goes = λ line. go line (goes line)
  where
    reads : (line : ℕ) (vs : List Token) (text behind left : List ℕ) → Passes line chunk vs (line + here) (39 ∷ others) → IsWritten Symbol text → Closes Symbol behind left
        → tokens_at line ((chunk ++ 39 ∷ []) ++ (text ++ behind)) ≡ with_constant vs (symbol text) (line + here) (tokens_at (line + here) left)
    reads line vs text behind left h written closes =
        ap (tokens_at line) (append_assoc chunk (39 ∷ []) (text ++ behind)) ∙ ap (λ (us : List ℕ). tokens_at line (chunk ++ (39 ∷ (text ++ us)))) closes
        ∙ h (39 ∷ (text ++ 39 ∷ left)) (39, text ++ 39 ∷ left, refl, inl refl)
        ∙ ap (λ (r : Read). (vs ++ r.0, r.1)) (tokens_first (line + here) (39 ∷ (text ++ 39 ∷ left)) (tokens.token (symbol text) left) (symbol_first text left written.0 written.1 written.2))

    go : (line : ℕ) → ((vs : List Token) × Passes line chunk vs (line + here) tail × (script.shapes vs ≡ ts))
        → (vs : List Token) × (script.shapes vs ≡ ts) × ((text behind left : List ℕ) → IsWritten Symbol text → Closes Symbol behind left → tokens_at line ((chunk ++ 39 ∷ []) ++ (text ++ behind)) ≡ with_constant vs (symbol text) (line + here) (tokens_at (line + here) left))
    go line (vs, h, same) = (vs, same, λ text behind left. reads line vs text behind left (subst (λ (us : List ℕ). Passes line chunk vs (line + here) us) is h))
