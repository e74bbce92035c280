use Rattle.std.proofs.Common.{◌≡◌, true, rules}
use Rattle.std.specs.Arc.{arc_value}
use Rattle.std.specs.Bool.{beq}
use Rattle.lt_face.specs.Rows.{IsAscending, has_row}
use Rattle.lt_base.proofs.OneRow.{stays_put, as_wanted, table_stays}
use Rattle.lt_base.proofs.database.edit_relation.Goals as goal

pub returns-then-has-plus-clause-table : goal.returns-then-has-plus-clause-table
returns-then-has-plus-clause-table c =
    let table = arc_value c.args.relation.now in
    let up : IsAscending table.rows = rw (← c.deref.ensures, ← c.rows.ensures.rows) c.width-width.ensures.is_set.rises in
    let there : beq (has_row table.rows c.args.row.now) c.args.plus ≡ true = rw (← c.deref-in-None.ensures, ← c.rows-in-None.ensures.rows, ← c.has.ensures) c.if-has-plus.true in
    table_stays table c.args.row.now c.args.plus (stays_put table.rows c.args.row.now c.args.plus up (as_wanted table.rows c.args.row.now c.args.plus there))

pub returns-in_ok-relation-in-None-clause-changed : goal.returns-in_ok-relation-in-None-clause-changed
returns-in_ok-relation-in-None-clause-changed c = search rules
