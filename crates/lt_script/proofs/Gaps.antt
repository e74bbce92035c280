-- Steps over white space and comments.
use Rattle.std.proofs.Common.{◌≡◌, ℕ, ◌+◌, ◌==◌, List, ◌∷◌, refl, drop}
use Rattle.std.specs.Prelude.{not}
use Rattle.std.specs.List.{prefix_len}
use Rattle.lt_model.specs.Tokens.{class_of, white, feed, hash, tokens_at}
use Rattle.lt_model.proofs.Division.{next_tokens}

pub over_white : (line b : ℕ) (bytes : List ℕ) → class_of b ≡ white → tokens_at line (b ∷ bytes) ≡ tokens_at line bytes
over_white line b bytes h = next_tokens line b bytes white h

pub over_feed : (line : ℕ) (bytes : List ℕ) → tokens_at line (10 ∷ bytes) ≡ tokens_at (line + 1) bytes
over_feed line bytes = next_tokens line 10 bytes feed refl

pub over_comment : (line : ℕ) (bytes : List ℕ) → tokens_at line (35 ∷ bytes) ≡ tokens_at line (drop (prefix_len (λ c. not (c == 10)) bytes) bytes)
over_comment line bytes = next_tokens line 35 bytes hash refl
