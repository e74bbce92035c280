use Rattle.std.proofs.Common.{sym, subst}
use Rattle.lt_join.specs.Sliced.{AreRootGaps}
use Rattle.lt_join.proofs.NotedGaps.{first_noted}
use Rattle.lt_join.proofs.noting.Noted.handed_over.Goals as goal

pub give-requires-clause-first : goal.give-requires-clause-first
give-requires-clause-first c = first_noted c.self.inside.indexes.items c.self.inside.gaps.items (subst AreRootGaps (sym c.self.view_is) c.requires)
