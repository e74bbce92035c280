use Rattle.lt_script.specs.Ahead.{source_of}
use Rattle.lt_script.proofs.Behind.{next_place}
use Rattle.lt_script.proofs.cursor.Cursor.behind_next.Goals as goal

pub returns-clause-place : goal.returns-clause-place
returns-clause-place c = next_place (source_of c.self.inside.start) c.self.inside.since c.self.inside.next c.self.inside.lexer c.args.self.now c.self.invariant c.self.view_is c.requires

pub returns-clause-fits : goal.returns-clause-fits
returns-clause-fits c = c.self.invariant.at.fits
