use Rattle.std.proofs.Common.{◌∙◌, sym, [], ◌∷◌, Bor}
use Rattle.lt_face.specs.State.{IsIndexOf}
use Rattle.lt_face.specs.State.{Relation}
use Rattle.lt_base.specs.Tables.{relation_of, state_of}
use Rattle.lt_base.proofs.States.{index_at, index_past, index_in, some_weaker}
use Rattle.lt_base.proofs.database.DatabaseIndexes.index.Goals as goal

pub returns-in-Some-clause-there : goal.returns-in-Some-clause-there
returns-in-Some-clause-there c = c.index.ensures.there ∙ sym (index_at c.args.self.now c.args.relation c.in-Some.relation.now c.args.perm.now c.in-Some.ensures)

pub returns-in-Some-clause-rows : goal.returns-in-Some-clause-rows
returns-in-Some-clause-rows c =
    some_weaker (λ (found : Bor Relation). IsIndexOf (relation_of c.in-Some.relation.now ∷ []) 0 c.args.perm.now found.now.width found.now.rows)
    (λ (found : Bor Relation). IsIndexOf (state_of c.args.self.now) c.args.relation c.args.perm.now found.now.width found.now.rows)
    (λ found is. index_in c.args.self.now c.args.relation c.in-Some.relation.now c.args.perm.now found.now.width found.now.rows c.in-Some.ensures is)
    c.index.result c.index.ensures.rows

pub returns-in-None-clause-there : goal.returns-in-None-clause-there
returns-in-None-clause-there c = sym (index_past c.args.self.now c.args.relation c.args.perm.now c.in-None.ensures)
