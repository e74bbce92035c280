-- The journals of a script's batches.
use Rattle.std.specs.Prelude.{◌≡◌, ◌+◌, ℕ, Bool, true, false, List, [], ◌∷◌, ◌++◌, length, map, filter_map}
use Rattle.std.specs.List.{AllZip}
use Rattle.lt_face.specs.State.{State}
use Rattle.lt_model.specs.declared.normal.Stmt.{Stmt}
use Rattle.lt_model.specs.declared.syntax.Item.{Item}
use Rattle.lt_model.specs.declared.syntax.Item.TheVariants.{Batch, Relation, Show}
use Rattle.lt_model.specs.declared.syntax.Program.{Program}
use Rattle.lt_model.specs.Check.{checked}
use Rattle.lt_model.specs.Report as model
use Rattle.lt_model.specs.Report.{good_of, opening, step}
use Rattle.lt_model.specs.Schema.{Schema}
use Rattle.lt_net.specs.Net as net
use Rattle.lt_net.specs.Net.{IsSettled}
use Rattle.lt_batch.specs.declared.replaying.Written.{Written}
use Rattle.lt_batch.specs.Replaying.{batch_net, LeadTo}
use Rattle.lt_blocks.specs.declared.block.Block.{Block}

-- a batch: its number, its programs without a code, and the state that it finds
pub record Begun : Type 0 where
  pub number : ℕ
  pub programs : List (List Stmt)
  pub snapshot : State

abbrev pub good_programs : Schema → List Program → List (List Stmt)
good_programs schema programs = filter_map good_of (map (λ (p : Program). checked p schema) programs)

-- the item as a batch, where it is one
abbrev pub batch_in : model.World → Item → List Begun
batch_in w (Relation name kinds keys) = []
batch_in w (Batch programs) = record { number = length w.versions + 1; programs = good_programs w.schema programs; snapshot = w.state } ∷ []
batch_in w (Show name version) = []

-- the batches of the items in order, where the fold over them stands here at the first
abbrev pub batches_from : Bool → model.World → List Item → List Begun
batches_from marks w [] = []
batches_from marks w (item ∷ items) = batch_in w item ++ batches_from marks (step marks w item) items

-- the entries are of workers that there may be, and lead the circuit of these programs on this snapshot to a settled state
pub record Settles (programs : List (List Stmt)) (snapshot : State) (entries : List Written) : Type 0 where
  pub state : net.State
  pub legal : LeadTo (batch_net programs snapshot) entries state
  pub settled : IsSettled state

-- the block is the batch's: it has its number, tells how many programs have no code, and its entries settle the batch's circuit
pub record IsBlockOf (batch : Begun) (block : Block) : Type 0 where
  pub number_is : block.number ≡ batch.number
  pub programs_are : block.programs ≡ length batch.programs
  pub settles : Settles batch.programs batch.snapshot block.entries

-- there is a block for each batch of a script with these items, and no other
abbrev pub AreBlocks : Bool → List Item → List Block → Type 0
AreBlocks marks items blocks = AllZip IsBlockOf (batches_from marks opening items) blocks

-- so it is where traces are asked for; else there is none
abbrev pub AreKept : Bool → Bool → List Item → List Block → Type 0
AreKept true marks items blocks = AreBlocks marks items blocks
AreKept false marks items blocks = blocks ≡ []

-- where traces are asked for, the item's block, if it is a batch, stands behind those from before
abbrev pub KeepsBlock : Bool → model.World → Item → List Block → List Block → Type 0
KeepsBlock true w item old new = (more : List Block) × (new ≡ old ++ more) × AllZip IsBlockOf (batch_in w item) more
KeepsBlock false w item old new = new ≡ old

-- where traces are asked for, the blocks of the items' batches stand behind those from before
abbrev pub KeepsBlocks : Bool → Bool → model.World → List Item → List Block → List Block → Type 0
KeepsBlocks true marks w items old new = (more : List Block) × (new ≡ old ++ more) × AllZip IsBlockOf (batches_from marks w items) more
KeepsBlocks false marks w items old new = new ≡ old
