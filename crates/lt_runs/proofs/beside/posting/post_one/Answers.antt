use Rattle.std.proofs.Common.{List, subst}
use Rattle.lt_model.specs.declared.syntax.Item.TheVariants.{Batch}
use Rattle.lt_model.specs.declared.syntax.Program.{Program}
use Rattle.lt_world.specs.World.{Takes}
use Rattle.lt_runs.proofs.beside.posting.post_one.Goals as goal

pub returns-in-Batch-clause-world : goal.returns-in-Batch-clause-world
returns-in-Batch-clause-world g c =
    rw c.in-Batch.is (subst (λ (ps : List Program). Takes c.args.come.now.world (Batch ps) c.post_batch.new.come.world) c.as_slice-programs.ensures c.in_ok-post_batch-in-Batch.ensures.world)
