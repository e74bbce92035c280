use Rattle.lt_program.proofs.Noted.{noted_key}
use Rattle.lt_program.proofs.noting.note_none.Goals as goal

pub returns : goal.returns
returns c =
    noted_key c.args.place.now.relation c.args.keys c.args.place.now.columns c.args.row.now c.first_cells-prefix.result.now c.cell-cell.result c.args.sense.now c.note_gap.new.sense c.requires.row.0 c.requires.some c.requires.within c.first_cells-prefix.ensures.first c.cell-cell.ensures c.in_ok-note_gap.ensures
