use Rattle.std.proofs.Common.{◌-◌, length}
use Rattle.lt_grammar.specs.Productions.{starts_literal}
use Rattle.lt_script.specs.Valued.{valued_literal_at}
use Rattle.lt_script.proofs.Listing.{Listing}
use Rattle.lt_script.proofs.cursor.Cursor.further_literals.Given as goal

abbrev pub invariant-literals : goal.invariant-literals
invariant-literals l = Listing (λ x. x) starts_literal valued_literal_at 15 l.fn.self l.fn.first l.literals.items l.self

abbrev pub decreases-literals : goal.decreases-literals
decreases-literals l = 16 - length l.literals.items
