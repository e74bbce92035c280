use Rattle.std.specs.Arc.{arc_value}
use Rattle.lt_readers.specs.Boards.{seen}
use Rattle.lt_run_trials.proofs.Opening.{fits_first}
use Rattle.lt_run_trials.proofs.boards.prints.Goals as goal

pub query-requires-clause-fits : goal.query-requires-clause-fits
query-requires-clause-fits g c = λ lifetimes outlive. fits_first (seen c.args.reader.now) (arc_value c.args.query.now) c.requires.begins c.requires.fits
