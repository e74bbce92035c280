-- What a reader knows of the bytes that were pushed.
use Rattle.std.specs.Prelude.{◌≡◌, ◌+◌, ℕ, zero, suc, List, [], ◌++◌, length}
use Rattle.std.specs.List.{AllByRecursion}
use Rattle.lt_blocks.specs.declared.block.Block.{Block}
use Rattle.lt_batch.specs.declared.replaying.Written.{Written}
use Rattle.lt_blocks.specs.declared.reader.Reader.{Reader}
use Rattle.lt_blocks.specs.declared.reader.Stage.{Stage}
use Rattle.lt_blocks.specs.declared.reader.Stage.TheVariants as stages
use Rattle.lt_blocks.specs.declared.words.Header.{Header}
use Rattle.lt_blocks.specs.Lines.{IsEntry, IsHeader, Lacks}
use Rattle.lt_blocks.specs.Blocks.{blocks_text, entries_text, header_text, line_feeds, script_text, IsBadLine, IsBlock}

-- the lines of the block that is being read, of which so many entries are missing; none where no block is
abbrev pub begun_text : ℕ → Header → List Written → List ℕ
begun_text zero header entries = []
begun_text (suc missing) header entries = header_text header ++ entries_text entries

abbrev pub IsBegun : ℕ → Header → List Written → Type 0
IsBegun zero header entries = entries ≡ []
IsBegun (suc missing) header entries = (length entries + suc missing ≡ header.entries) × IsHeader header

-- they are these blocks and lines, and a line that hasn't ended
pub record IsInside (blocks : List Block) (header : Header) (entries : List Written) (missing : ℕ) (line : List ℕ) (number : ℕ) (bytes : List ℕ) : Type 0 where
  pub within : AllByRecursion IsBlock blocks
  pub entries_within : AllByRecursion IsEntry entries
  pub begun : IsBegun missing header entries
  pub parts : bytes ≡ (blocks_text blocks ++ begun_text missing header entries) ++ line
  pub number_is : number ≡ line_feeds (blocks_text blocks ++ begun_text missing header entries) + 1
  pub lacks : Lacks 10 line

abbrev pub HasReadTo : Stage → Reader → List ℕ → Type 0
HasReadTo stages.Reading r bytes = IsInside r.blocks.items r.header r.entries.items r.missing r.line.items r.number bytes
HasReadTo stages.Script r bytes = AllByRecursion IsBlock r.blocks.items × (bytes ≡ blocks_text r.blocks.items ++ script_text)
HasReadTo stages.Bad r bytes = (more : List ℕ) → IsBadLine (bytes ++ more) r.number

-- the reader has been pushed these bytes
abbrev pub HasRead : Reader → List ℕ → Type 0
HasRead r bytes = HasReadTo r.stage r bytes

-- The lines of a block are complete up to here, and the last of them isn't counted yet.
pub record IsMore (blocks : List Block) (header : Header) (entries : List Written) (missing number : ℕ) (bytes : List ℕ) : Type 0 where
  pub within : AllByRecursion IsBlock blocks
  pub entries_within : AllByRecursion IsEntry entries
  pub header_within : IsHeader header
  pub count : length entries + missing ≡ header.entries
  pub parts : bytes ≡ blocks_text blocks ++ (header_text header ++ entries_text entries)
  pub number_is : number ≡ line_feeds bytes

abbrev pub HasMore : Reader → List ℕ → Type 0
HasMore r bytes = (r.stage ≡ stages.Reading) × IsMore r.blocks.items r.header r.entries.items r.missing r.number bytes
