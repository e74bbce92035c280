use Rattle.std.proofs.Common.{◌∙◌}
use Rattle.lt_base.proofs.States.{index_at}
use Rattle.lt_base.proofs.database.Database.is_in_use.Goals as goal

pub returns-in-Some : goal.returns-in-Some
returns-in-Some c = λ h. index_at c.args.self.now c.args.relation c.in-Some.relation.now c.args.perm.now c.in-Some.ensures ∙ c.is_in_use.ensures h
