use Rattle.std.proofs.Common.{arith}
use Rattle.lt_program.proofs.Noted.{below_more_by, below_all_in}
use Rattle.lt_program.proofs.noting.note_below.Goals as goal

pub loop-column-preserved : goal.loop-column-preserved
loop-column-preserved c = record {
  notes =
      below_more_by c.args.place.now.relation c.args.from c.loop-column.column c.args.place.now.columns c.args.row.now c.first_cells-prefix.result.now c.cell.result c.args.sense.now c.loop-column.sense c.note_gap.new.sense
      (omega (arith, c.loop-column.auto.column)) (omega (arith, c.loop-column-test.true, c.width-column-end.ensures.value, c.loop-column.auto.column-end)) c.requires.row.0 c.first_cells-prefix.ensures.first c.cell.ensures c.loop-column.invariant.notes c.in_ok-note_gap.ensures;
  within = omega (arith, c.loop-column-test.true, c.width-column-end.ensures.value, c.loop-column.auto.column-end);
}

pub returns : goal.returns
returns c =
    below_all_in c.args.place.now.relation c.args.from c.loop-column.column c.args.place.now.columns c.args.row.now c.args.sense.now c.loop-column.sense c.requires.row.0
    (omega (arith, c.loop-column-test.false, c.loop-column.invariant.within, c.width-column-end.ensures.value, c.loop-column.auto.column-end)) c.loop-column.invariant.notes
