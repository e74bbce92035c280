-- What was read in front of a script.
use Rattle.std.specs.Prelude.{◌≡◌, ◌≤◌, ◌+◌, ◌++◌, ℕ, false, List, length}
use Rattle.std.specs.declared.option.Option.{Option}
use Rattle.std.specs.Io.KnownBytes.{Consumes, IsAtEnd}
use Rattle.lt_blocks.specs.declared.block.Block.{Block}
use Rattle.lt_blocks.specs.Blocks.{IsBadLine, IsTrace}
use Rattle.lt_model.specs.declared.syntax.Item.{Item}
use Rattle.lt_script.specs.declared.feed.Feed.{Feed}
use Rattle.lt_script.specs.Feed.{HasFed}
use Rattle.lt_runs.specs.declared.front.Front.{Front}
use Rattle.lt_runs.specs.declared.front.Front.TheVariants.{Blocks, Bad}
use Rattle.lt_runs.specs.Input.{limit}

-- so many bytes were taken, and with those before no more than the limit
pub record TakesSome (count taken : ℕ) (left_old left_new : Option (List ℕ)) : Type 0 where
  pub piece : List ℕ
  pub consumed : Consumes left_old left_new piece
  pub counted : taken ≡ count + length piece
  pub within : taken ≤ limit

-- the rest was taken
pub record TakesRest (count : ℕ) (left_old left_new : Option (List ℕ)) : Type 0 where
  pub piece : List ℕ
  pub consumed : Consumes left_old left_new piece
  pub within : count + length piece ≤ limit
  pub end : IsAtEnd left_new

-- the bytes that were taken are a trace up to the line `script` and what was fed behind it
pub record IsFrontRead (blocks : List Block) (count : ℕ) (old new : Feed) (left_old left_new : Option (List ℕ)) : Type 0 where
  pub bytes : List ℕ
  pub script : List ℕ
  pub consumed : Consumes left_old left_new bytes
  pub counted : count ≡ length bytes
  pub within : count ≤ limit
  pub trace : IsTrace bytes blocks script
  pub fed : (before : List ℕ) (items : List Item) → HasFed old before items → HasFed new (before ++ script) items
  pub open_still : new.ended ≡ false

-- all bytes were taken, and a line of them isn't what is wanted there
pub record IsBadRead (line : ℕ) (left_old left_new : Option (List ℕ)) : Type 0 where
  pub bytes : List ℕ
  pub consumed : Consumes left_old left_new bytes
  pub within : length bytes ≤ limit
  pub end : IsAtEnd left_new
  pub bad : IsBadLine bytes line

abbrev pub ReadsFront : Front → Feed → Feed → Option (List ℕ) → Option (List ℕ) → Type 0
ReadsFront (Blocks blocks count) old new l m = IsFrontRead blocks.items count old new l m
ReadsFront (Bad line) old new l m = IsBadRead line l m
