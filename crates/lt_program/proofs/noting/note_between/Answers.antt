use Rattle.lt_program.proofs.Noted.{noted_between}
use Rattle.lt_program.proofs.noting.note_between.Goals as goal

pub returns : goal.returns
returns c =
    noted_between c.args.place.now.relation c.first_difference-column.result c.args.place.now.columns c.args.low.now c.args.high.now c.first_cells-prefix.result.now c.cell.result c.cell-2.result c.args.sense.now c.note_above.new.sense c.note_gap.new.sense c.note_below.new.sense
    c.requires.low.0 c.requires.high.0 c.first_difference-column.ensures.within c.first_difference-column.ensures.same c.first_difference-column.ensures.rise c.first_cells-prefix.ensures.first c.cell.ensures c.cell-2.ensures
    c.in_ok-note_above.ensures c.in_ok-note_gap.ensures c.in_ok-note_below.ensures
