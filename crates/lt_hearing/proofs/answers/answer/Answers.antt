use Rattle.std.proofs.Common.{subst, sym, OnOk}
use Rattle.lt_model.specs.declared.syntax.Item.{Item}
use Rattle.lt_world.specs.World.{Takes}
use Rattle.lt_hearing.proofs.answers.answer.Goals as goal

pub returns-in-Relation-clause-world : goal.returns-in-Relation-clause-world
returns-in-Relation-clause-world g c = subst (λ (i : Item). OnOk c.declare.result (Takes c.args.world.now i c.declare.new.world)) (sym c.in-Relation.is) c.declare.ensures.world
