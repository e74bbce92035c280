use Rattle.std.proofs.Common.{◌-◌, length}
use Rattle.lt_reading.specs.Reading.{at_once}
use Rattle.lt_grammar.specs.Productions.{is_program}
use Rattle.lt_script.specs.Valued.{valued_program_at}
use Rattle.lt_script.proofs.Listing.{Pushing}
use Rattle.lt_script.proofs.cursor.Cursor.programs.Given as goal

abbrev pub invariant-programs : goal.invariant-programs
invariant-programs l = Pushing (λ x. x) is_program valued_program_at at_once 256 l.fn.self l.programs.items l.self

abbrev pub decreases-programs : goal.decreases-programs
decreases-programs l = 256 - length l.programs.items
