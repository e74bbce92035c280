use Rattle.std.proofs.Common.{List, subst}
use Rattle.std.specs.Prelude.{OnOk}
use Rattle.lt_model.specs.declared.syntax.Item.TheVariants.{Batch}
use Rattle.lt_model.specs.declared.syntax.Program.{Program}
use Rattle.lt_world.specs.World.{Takes}
use Rattle.lt_world.proofs.tracing.Traced.take.Goals as goal

pub returns-in-Batch-clause-world : goal.returns-in-Batch-clause-world
returns-in-Batch-clause-world g c =
    rw c.in-Batch.is (subst (λ (programs : List Program). OnOk c.batch.result (Takes c.args.self.now.world (Batch programs) c.batch.new.self.world)) c.as_slice.ensures c.batch.ensures.world)
