use Rattle.std.proofs.Common.{◌∙◌, subst}
use Rattle.std.specs.Arc.{arc_value}
use Rattle.lt_face.specs.Rows.{IsAscending}
use Rattle.lt_shared.proofs.Gathered.{joined-rows}
use Rattle.lt_shared.proofs.Parts.{take-absent, take-found, splice-none}
use Rattle.lt_shared.proofs.rows.RowListed.take_among.Goals as goal

pub search-requires-clause-rises : goal.search-requires-clause-rises
search-requires-clause-rises g c =
    rw (c.deref-2.ensures.value, c.deref.ensures) (subst IsAscending (joined-rows (arc_value c.args.entries.now).items) c.requires.rises)

pub returns-in-Err-clause-ok : goal.returns-in-Err-clause-ok
returns-in-Err-clause-ok g c =
    take-absent (arc_value c.args.entries.now).items c.args.row.now c.in-Err.field-0 (rw (c.deref-2.ensures.value, c.deref.ensures) at c.in-Err.ensures.absent)

pub returns-in-Some-clause-ok : goal.returns-in-Some-clause-ok
returns-in-Some-clause-ok g c =
    take-found (arc_value c.args.entries.now).items c.remove.new.self.items c.args.row.now c.in-Ok.at
    (rw (c.deref-2.ensures.value, c.deref.ensures) at c.in-Ok.ensures.found) (rw c.in-Some.ensures.value at c.remove.ensures.items)

pub returns-in_ok-splice_copy-in-None-clause-ok : goal.returns-in_ok-splice_copy-in-None-clause-ok
returns-in_ok-splice_copy-in-None-clause-ok g c =
    take-found (arc_value c.args.entries.now).items (arc_value c.splice_copy.new.entries).items c.args.row.now c.in-Ok.at
    (rw (c.deref-2.ensures.value, c.deref.ensures) at c.in-Ok.ensures.found)
    (c.in_ok-splice_copy-in-None.ensures.ok ∙ splice-none (arc_value c.args.entries.now).items c.in-Ok.at)
