use Rattle.std.proofs.Common.{[]}
use Rattle.lt_restate.proofs.Steps.{walk_is}
use Rattle.lt_restate.proofs.Ways.{bases_alike, way_begun}
use Rattle.lt_restate.proofs.restating.begun.Goals as goal

pub returns-clause-under_way : goal.returns-clause-under_way
returns-clause-under_way c =
    way_begun c.args._old.now c.args._new.now c.args._old_on.now c.args._new_on.now _ c.requires.few c.requires.program c.parts-old_parts.ensures.run c.parts-new_parts.ensures.run c.requires.none
    (bases_alike c.args._old.now.base c.args._new.now.base c.base.result.now c.base-2.result.now c.base.ensures c.base-2.ensures c.look_over.ensures.state c.look_over.ensures.wide c.look_over-2.ensures.state c.requires.relations)
    c.requires.bases
    (walk_is c.in_ok-empty.field-0 [] c.new.result [] c.in_ok-empty.ensures c.new.ensures)
