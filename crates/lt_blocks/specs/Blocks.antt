-- Blocks of a trace, and bytes that begin with such.
use Rattle.std.specs.Prelude.{◌≡◌, ◌⊎◌, ◌<◌, ◌+◌, ℕ, List, [], ◌∷◌, ◌++◌, length, flat_map, ◌==◌, suc, if◌then◌else◌}
use Rattle.std.specs.List.{AllByRecursion}
use Rattle.lt_blocks.specs.declared.block.Block.{Block}
use Rattle.lt_batch.specs.declared.replaying.Written.{Written}
use Rattle.lt_blocks.specs.declared.words.Header.{Header}
use Rattle.lt_report.specs.Traces as lines
use Rattle.lt_report.specs.Traces.{trace_text}
use Rattle.lt_blocks.specs.Lines.{script_words, IsEntry, IsHeader}

-- the first line of a block
abbrev pub header_text : Header → List ℕ
header_text h = trace_text h.batch h.programs h.entries

-- the line of an entry, and those of several
abbrev pub entry_text : Written → List ℕ
entry_text e = lines.entry_text e.worker e.code

abbrev pub entries_text : List Written → List ℕ
entries_text entries = flat_map entry_text entries

-- the line behind which the script begins
abbrev pub script_text : List ℕ
script_text = script_words ++ 10 ∷ []

-- the first line of the block
abbrev pub header_of : Block → Header
header_of b = record { batch = b.number; programs = b.programs; entries = length b.entries }

-- a block as it is written: its first line, then a line for each entry
abbrev pub block_text : Block → List ℕ
block_text b = header_text (header_of b) ++ entries_text b.entries

abbrev pub blocks_text : List Block → List ℕ
blocks_text blocks = flat_map block_text blocks

-- each of its numbers is below 2^32
pub record IsBlock (b : Block) : Type 0 where
  pub header : IsHeader (header_of b)
  pub entries : AllByRecursion IsEntry b.entries

-- the bytes are these blocks, then the line `script`, and behind it this script
pub record IsTrace (bytes : List ℕ) (blocks : List Block) (script : List ℕ) : Type 0 where
  pub within : AllByRecursion IsBlock blocks
  pub parts : bytes ≡ blocks_text blocks ++ (script_text ++ script)

-- how many line feeds there are
abbrev pub line_feeds : List ℕ → ℕ
line_feeds [] = 0
line_feeds (b ∷ bytes) = if b == 10 then suc (line_feeds bytes) else line_feeds bytes

-- Behind some blocks, on this line, neither a block begins nor the line `script` stands.
pub record IsNoBlock (bytes : List ℕ) (line : ℕ) : Type 0 where
  pub blocks : List Block
  pub within : AllByRecursion IsBlock blocks
  pub rest : List ℕ
  pub parts : bytes ≡ blocks_text blocks ++ rest
  pub line_is : line ≡ line_feeds (blocks_text blocks) + 1
  pub no_block : (h : Header) (more : List ℕ) → IsHeader h → rest ≡ header_text h ++ more → ⊥
  pub no_script : (more : List ℕ) → rest ≡ script_text ++ more → ⊥

-- Some entries of a block are missing, and on this line stands none.
pub record IsNoEntry (bytes : List ℕ) (line : ℕ) : Type 0 where
  pub blocks : List Block
  pub within : AllByRecursion IsBlock blocks
  pub header : Header
  pub header_within : IsHeader header
  pub entries : List Written
  pub entries_within : AllByRecursion IsEntry entries
  pub few : length entries < header.entries
  pub rest : List ℕ
  pub parts : bytes ≡ (blocks_text blocks ++ (header_text header ++ entries_text entries)) ++ rest
  pub line_is : line ≡ line_feeds (blocks_text blocks ++ (header_text header ++ entries_text entries)) + 1
  pub no_entry : (e : Written) (more : List ℕ) → IsEntry e → rest ≡ entry_text e ++ more → ⊥

-- the bytes are no trace with a script: the line with this number, from 1 on, isn't of the form that is wanted there, or it is missing
abbrev pub IsBadLine : List ℕ → ℕ → Type 0
IsBadLine bytes line = IsNoBlock bytes line ⊎ IsNoEntry bytes line
