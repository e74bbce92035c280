use Rattle.std.proofs.Common.{[], take}
use Rattle.lt_sense.specs.ByKey.{GainsJust}
use Rattle.lt_join.proofs.MendKeys.{OfOne, TouchedBy}
use Rattle.lt_join.proofs.mending_touched.touched_keys.Given as goal

abbrev pub invariant-loop-change : goal.invariant-loop-change
invariant-loop-change l = GainsJust (OfOne (TouchedBy l.found.root l.found.slices) (take l.change-index l.changes)) [] l.keys.items
