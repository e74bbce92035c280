-- Where a reader stands among the items of its bytes, and what it answers there.
use Rattle.std.specs.Prelude.{◌≡◌, ℕ, ◌<◌, List, [], ◌∷◌, ◌++◌, length}
use Rattle.lt_model.specs.declared.syntax.Item.{Item}
use Rattle.lt_model.specs.Tokens.{Shape}
use Rattle.lt_model.specs.Grammar.{legal, SpellsItem, Derives}
use Rattle.lt_model.specs.Limits.{IsWithinLimits}
use Rattle.lt_model.specs.Script as script
use Rattle.lt_script.specs.declared.reader.Reader.{Reader}
use Rattle.lt_script.specs.declared.step.Step.{Step}
use Rattle.lt_script.specs.declared.step.Step.TheVariants as steps
use Rattle.lt_script.specs.Ahead.{ahead, passed_tokens}

-- all bytes that a reader is over
abbrev pub bytes_of : Reader → List ℕ
bytes_of r = r.cursor.source.bytes

-- how many tokens are still to come
abbrev pub left_of : Reader → ℕ
left_of r = length (ahead r.cursor).0

-- The tokens before a reader's place are these items. It began on the first line.
pub record HasRead (r : Reader) (items : List Item) : Type 0 where
  pub line : r.cursor.source.line ≡ 1
  pub derived : Derives legal (script.shapes (passed_tokens r.cursor)) items

-- one item more was read
pub record Reads (old new : Reader) (items : List Item) (item : Item) : Type 0 where
  pub read : HasRead new (items ++ item ∷ [])
  pub tokens : List Shape
  pub spelled : SpellsItem legal item tokens
  pub within : IsWithinLimits item
  pub shorter : left_of new < left_of old

-- what a reader that has read these items answers: the next item, or how the script with these items ends
abbrev pub IsNext : List Item → Reader → Reader → Step → Type 0
IsNext items old new (steps.Item item) = Reads old new items item
IsNext items old new steps.End = script.Script (bytes_of old) items script.End × (new ≡ old)
IsNext items old new (steps.Fault line code) = script.Script (bytes_of old) items (script.Fault line code) × (new ≡ old)
IsNext items old new steps.NoMemory = new ≡ old
