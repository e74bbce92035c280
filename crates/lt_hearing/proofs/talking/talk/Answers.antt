use Rattle.std.proofs.Common.{◌∙◌, List, ap, subst, sym, OnOk}
use Rattle.lt_model.specs.declared.syntax.Item.{Item}
use Rattle.lt_model.specs.declared.syntax.Item.TheVariants.{Batch}
use Rattle.lt_model.specs.declared.syntax.Program.{Program}
use Rattle.lt_world.specs.World.{Takes}
use Rattle.lt_hearing.proofs.talking.talk.Goals as goal

pub returns-in-Relation : goal.returns-in-Relation
returns-in-Relation g c = subst (λ (i : Item). OnOk c.talk_of_relation.result (Takes c.args.world.now i c.talk_of_relation.new.world)) (sym c.in-Relation.is) c.talk_of_relation.ensures

pub returns-in-Batch : goal.returns-in-Batch
returns-in-Batch g c =
    let same = ap (λ (ps : List Program). Batch ps) c.as_slice.ensures in
    subst (λ (i : Item). OnOk c.talk_of_batch.result (Takes c.args.world.now i c.talk_of_batch.new.world)) (same ∙ sym c.in-Batch.is) c.talk_of_batch.ensures
