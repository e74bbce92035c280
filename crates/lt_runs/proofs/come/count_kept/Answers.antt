use Rattle.std.proofs.Common.{List, subst}
use Rattle.lt_model.specs.declared.syntax.Item.TheVariants.{Batch}
use Rattle.lt_model.specs.declared.syntax.Program.{Program}
use Rattle.lt_world.specs.World.{Takes}
use Rattle.lt_runs.proofs.come.count_kept.Goals as goal

pub returns-in_ok-count_batch-in-Batch-clause-world : goal.returns-in_ok-count_batch-in-Batch-clause-world
returns-in_ok-count_batch-in-Batch-clause-world g c =
    rw c.in-Batch.is (subst (λ (ps : List Program). Takes c.args.world.now (Batch ps) c.count_batch.new.world) c.as_slice-programs.ensures c.in_ok-count_batch-in-Batch.ensures.world)

pub returns-in_ok-declare-in-Relation-clause-world : goal.returns-in_ok-declare-in-Relation-clause-world
returns-in_ok-declare-in-Relation-clause-world g c = rw c.in-Relation.is c.in_ok-declare-in-Relation.ensures.world
