use Rattle.std.proofs.Common.{List, ◌≤◌, subst}
use Rattle.std.specs.List.{AllByRecursion}
use Rattle.lt_face.specs.State.{Relation}
use Rattle.lt_model.specs.State.{IsState}
use Rattle.lt_base.specs.Tables.{Table, state_of}
use Rattle.lt_base.proofs.Tabled.{state_known, widths_known}
use Rattle.lt_base.proofs.database.Database.look_over.Goals as goal

pub returns-clause-state : goal.returns-clause-state
returns-clause-state c = subst (λ (tables : List Table). IsState (state_of tables)) c.self.view_is (state_known _ c.look_over.ensures)

pub returns-clause-wide : goal.returns-clause-wide
returns-clause-wide c = subst (λ (tables : List Table). AllByRecursion (λ (relation : Relation). (1 ≤ relation.width) × (relation.width ≤ 8)) (state_of tables)) c.self.view_is (widths_known _ c.look_over.ensures)
