use Rattle.lt_program.proofs.MarkedRows.{marked_all}
use Rattle.lt_program.proofs.effect.marked.Goals as goal

pub returns : goal.returns
returns c = marked_all c.args.relation c.args.plus c.args.rows.now c.loop-row.row-index c.loop-row.list c.in_ok-marks.marks c.requires c.loop-row-test.false c.loop-row.invariant c.in_ok-marks.ensures
