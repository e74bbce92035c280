use Rattle.std.proofs.Common.{◌∙◌}
use Rattle.std.specs.Arc.{arc_value}
use Rattle.lt_base.proofs.Replaced.{same_state}
use Rattle.lt_base.proofs.database.Database.age.Goals as goal

pub loop-i-preserved : goal.loop-i-preserved
loop-i-preserved c = same_state arc_value c.loop-i.self-inside.relations.items c.loop-i.i c.index_mut.result.now c.age_relation.new.relation c.index_mut.ensures.value c.age_relation.ensures ∙ c.loop-i.invariant
