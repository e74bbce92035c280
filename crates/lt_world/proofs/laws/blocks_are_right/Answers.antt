use Rattle.std.proofs.Common.{List, [], ◌∷◌}
use Rattle.std.specs.List.{AllZip}
use Rattle.lt_batch.specs.Replaying.{batch_net}
use Rattle.lt_blocks.specs.declared.block.Block.{Block}
use Rattle.lt_model.specs.Report.{opening}
use Rattle.lt_world.specs.Replays.{IsRight}
use Rattle.lt_world.specs.Traces.{batches_from, Begun, IsBlockOf}
use Rattle.lt_world.proofs.laws.blocks_are_right.Goals as goal

each_right : ((batch : Begun) (block : Block) → IsBlockOf batch block → IsRight batch block) → (batches : List Begun) (blocks : List Block) → AllZip IsBlockOf batches blocks → AllZip IsRight batches blocks
each_right right [] [] all = all
each_right right [] (block ∷ blocks) all = absurd all
each_right right (batch ∷ batches) [] all = absurd all
each_right right (batch ∷ batches) (block ∷ blocks) all = (right batch block all.0, each_right right batches blocks all.1)

pub returns : goal.returns
returns c = λ marks items blocks are. each_right
    (λ batch block is. record {
      block_is = is;
      faultless = c.settled_entries_are_faultless.ensures (batch_net batch.programs batch.snapshot) block.entries is.settles.state is.settles.legal is.settles.settled;
    })
    (batches_from marks opening items) blocks are
