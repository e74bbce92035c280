use Rattle.std.proofs.Common.{take}
use Rattle.lt_query.specs.Runnable.{AreAtomsWide}
use Rattle.lt_advice.proofs.routes.are_wide.Given as goal

abbrev pub invariant-loop-atom : goal.invariant-loop-atom
invariant-loop-atom l = AreAtomsWide (take l.atom-index l.atoms)
