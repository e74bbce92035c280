-- The lines of a trace. Words are here without their line feed.
use Rattle.std.specs.Prelude.{◌≡◌, ◌<◌, ◌^◌, ℕ, List, [], ◌∷◌, codes, decimal}
use Rattle.std.specs.List.{AllByRecursion, join_with_byte}
use Rattle.lt_batch.specs.declared.replaying.Written.{Written}
use Rattle.lt_blocks.specs.declared.words.Header.{Header}
use Rattle.lt_blocks.specs.declared.words.Line.{Line}
use Rattle.lt_blocks.specs.declared.words.Line.TheVariants as lines

-- none of the bytes is this one
abbrev pub Lacks : ℕ → List ℕ → Type 0
Lacks byte = AllByRecursion (λ (b : ℕ). b ≡ byte → ⊥)

-- the first line of a block
abbrev pub header_words : Header → List ℕ
header_words h = join_with_byte 32 (codes "trace" ∷ decimal h.batch ∷ decimal h.programs ∷ decimal h.entries ∷ [])

-- the line of an entry
abbrev pub entry_words : Written → List ℕ
entry_words e = join_with_byte 32 (decimal e.worker ∷ decimal e.code ∷ [])

-- the line behind which the script begins
abbrev pub script_words : List ℕ
script_words = codes "script"

-- the numbers are below 2^32
pub record IsHeader (h : Header) : Type 0 where
  pub batch : h.batch < 2 ^ 32
  pub programs : h.programs < 2 ^ 32
  pub entries : h.entries < 2 ^ 32

pub record IsEntry (e : Written) : Type 0 where
  pub worker : e.worker < 2 ^ 32
  pub code : e.code < 2 ^ 32

-- what the line says between two blocks
abbrev pub Says : List ℕ → Line → Type 0
Says line (lines.Header h) = (line ≡ header_words h) × IsHeader h
Says line lines.Script = line ≡ script_words
Says line lines.Other = (line ≡ script_words → ⊥) × ((h : Header) → IsHeader h → line ≡ header_words h → ⊥)
