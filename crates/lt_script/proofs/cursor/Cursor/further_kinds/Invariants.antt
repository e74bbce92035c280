use Rattle.std.proofs.Common.{◌-◌, length}
use Rattle.lt_grammar.specs.Productions.{kind_at, starts_kind}
use Rattle.lt_script.proofs.Listing.{Listing}
use Rattle.lt_script.proofs.cursor.Cursor.further_kinds.Given as goal

abbrev pub invariant-kinds : goal.invariant-kinds
invariant-kinds l = Listing (λ k. k) starts_kind kind_at (l.fn.most - 1) l.fn.self l.fn.first l.kinds.items l.self

abbrev pub decreases-kinds : goal.decreases-kinds
decreases-kinds l = l.fn.most - length l.kinds.items
