use Rattle.std.proofs.Common.{◌≡◌, [], take}
use Rattle.lt_query.specs.LevelsOf.{levels_from}
use Rattle.lt_query.specs.Order.{places_of, terms_at}
use Rattle.lt_query.proofs.levels.levels.Given as goal

abbrev pub invariant-loop-p : goal.invariant-loop-p
invariant-loop-p l = l.levels ≡ levels_from l.tests [] (terms_at (places_of l.atoms) (take l.p-index l.order))
