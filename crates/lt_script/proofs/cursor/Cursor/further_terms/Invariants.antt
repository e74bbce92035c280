use Rattle.std.proofs.Common.{◌-◌, length}
use Rattle.lt_grammar.specs.Productions.{starts_term}
use Rattle.lt_script.specs.Valued.{valued_term_at}
use Rattle.lt_script.proofs.Listing.{Listing}
use Rattle.lt_script.proofs.cursor.Cursor.further_terms.Given as goal

abbrev pub invariant-terms : goal.invariant-terms
invariant-terms l = Listing (λ x. x) starts_term valued_term_at 7 l.fn.self l.fn.first l.terms.items l.self

abbrev pub decreases-terms : goal.decreases-terms
decreases-terms l = 8 - length l.terms.items
