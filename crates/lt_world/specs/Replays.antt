-- A script's batches beside the blocks of a trace.
use Rattle.std.specs.Prelude.{◌≡◌, ◌⊎◌, ◌+◌, ◌-◌, ◌≤◌, ℕ, Bool, List, [], ◌∷◌, ◌++◌, length, fold, slice_get, Option, Some, None, Result, OnOk, OnErr, IsErrOf, ⊤}
use Rattle.std.specs.List.{AllZip}
use Rattle.lt_model.specs.declared.syntax.Item.{Item}
use Rattle.lt_model.specs.declared.syntax.Item.TheVariants.{Batch, Relation, Show}
use Rattle.lt_model.specs.declared.syntax.Program.{Program}
use Rattle.lt_model.specs.Report as model
use Rattle.lt_model.specs.Report.{opening, step}
use Rattle.lt_batch.specs.declared.replaying.ReplayFault.{ReplayFault}
use Rattle.lt_batch.specs.declared.replaying.ReplayFault.TheVariants as faults
use Rattle.lt_batch.specs.declared.replaying.Written.{Written}
use Rattle.lt_batch.specs.Replaying.{batch_net, IsFault}
use Rattle.lt_blocks.specs.declared.block.Block.{Block}
use Rattle.std.specs.Io.KnownBytes.{Appends}
use Rattle.lt_edges.specs.Causes.{Rose}
use Rattle.lt_report.specs.Puts.{AppendsFront}
use Rattle.lt_world.specs.declared.halt.Halt.{Halt}
use Rattle.lt_world.specs.declared.halt.Halt.TheVariants as halts
use Rattle.lt_world.specs.declared.replaying.Misstep.{Misstep}
use Rattle.lt_world.specs.declared.replaying.Misstep.TheVariants.{Bad, Failed, NoMemory}
use Rattle.lt_world.specs.Traces.{batches_from, good_programs, Begun, IsBlockOf}

-- the block is the batch's, and a replay of its entries meets no fault
pub record IsRight (batch : Begun) (block : Block) : Type 0 where
  pub block_is : IsBlockOf batch block
  pub faultless : (entry : ℕ) → IsFault (batch_net batch.programs batch.snapshot) block.entries entry → ⊥

-- the blocks are those of the batches of a script with these items
abbrev pub AreRight : Bool → List Item → List Block → Type 0
AreRight marks items blocks = AllZip IsRight (batches_from marks opening items) blocks

-- The block isn't the batch's. At place 0 it has another number or another number of programs without a code; at another place it
-- has these, and the replay of its entries meets its fault there.
abbrev pub IsWrong : Begun → Block → ℕ → Type 0
IsWrong batch block place =
    ((place ≡ 0) × ((block.number ≡ batch.number → block.programs ≡ length batch.programs → ⊥)))
    ⊎ ((block.number ≡ batch.number) × (block.programs ≡ length batch.programs) × IsFault (batch_net batch.programs batch.snapshot) block.entries place)

-- the batch that begins where the fold stands
abbrev pub begun_at : model.World → List Program → Begun
begun_at w programs = record { number = length w.versions + 1; programs = good_programs w.schema programs; snapshot = w.state }

-- The blocks of these items' batches are right, and the batch of these programs, which comes next, has none, or one that isn't
-- right at this place.
pub data IsRefusedAt (marks : Bool) (items : List Item) (programs : List Program) (blocks : List Block) (place : ℕ) : Type 0 where
  Missing : AreRight marks items blocks → place ≡ 0 → IsRefusedAt marks items programs blocks place
  Wrong : (front : List Block) (block : Block) (rest : List Block) → blocks ≡ front ++ block ∷ rest → AreRight marks items front
      → IsWrong (begun_at (fold (step marks) opening items) programs) block place → IsRefusedAt marks items programs blocks place

-- the blocks of these items' batches are right, and one more is there
pub record IsLeft (marks : Bool) (items : List Item) (blocks : List Block) : Type 0 where
  pub front : List Block
  pub block : Block
  pub rest : List Block
  pub parts : blocks ≡ front ++ block ∷ rest
  pub right : AreRight marks items front

-- the block at the place of the batch is right; or it isn't, at this place, or there is none
abbrev pub IsRightAt : Begun → Option Block → Type 0
IsRightAt batch None = ⊥
IsRightAt batch (Some block) = IsRight batch block

abbrev pub IsWrongAt : Begun → Option Block → ℕ → Type 0
IsWrongAt batch None place = place ≡ 0
IsWrongAt batch (Some block) place = IsWrong batch block place

-- where the item is a batch, the block at its place is right
abbrev pub IsRightItem : model.World → Item → List Block → Type 0
IsRightItem w (Relation name kinds keys) blocks = ⊤
IsRightItem w (Batch programs) blocks = IsRightAt (begun_at w programs) (slice_get blocks (length w.versions))
IsRightItem w (Show name version) blocks = ⊤

-- the item is a batch, and the block at its place isn't right at this place of the block
abbrev pub IsWrongItem : model.World → Item → List Block → ℕ → Type 0
IsWrongItem w (Relation name kinds keys) blocks place = ⊥
IsWrongItem w (Batch programs) blocks place = IsWrongAt (begun_at w programs) (slice_get blocks (length w.versions)) place
IsWrongItem w (Show name version) blocks place = ⊥

-- the block at the place of the batch with this number, from 1 on, has that number, so many programs without a code, and these entries
pub record HasJournal (blocks : List Block) (number programs : ℕ) (entries : List Written) : Type 0 where
  pub block : Block
  pub there : slice_get blocks (number - 1) ≡ Some block
  pub number_is : block.number ≡ number
  pub programs_are : block.programs ≡ programs
  pub entries_are : entries ≡ block.entries

-- What a call that replays has done. Where a block isn't right, nothing was written.
pub record ReplayWrites {T : Type 0} (result : Result T Misstep) (old new : Option (List ℕ)) (before now : ℕ) (text : List ℕ) : Type 0 where
  pub ok : OnOk result (Appends old new text)
  pub err : OnErr result (AppendsFront old new text)
  pub bad : (place : ℕ) → IsErrOf result (Bad place) → Appends old new []
  pub later : before ≤ now
  pub failed : IsErrOf result Failed → Rose before now

-- why an item isn't taken, from why a part of it isn't
abbrev pub misstep_of : Halt → Misstep
misstep_of halts.NoMemory = NoMemory
misstep_of halts.Failed = Failed

abbrev pub misstep_at : ReplayFault → Misstep
misstep_at (faults.Entry e) = Bad e
misstep_at faults.NoMemory = NoMemory
