use Rattle.std.proofs.Common.{◌≡◌, false, take}
use Rattle.std.specs.List.{list_any}
use Rattle.lt_model.specs.Effect.{contend}
use Rattle.lt_reference.proofs.rivals.has_rival.Given as goal

abbrev pub invariant-loop-other : goal.invariant-loop-other
invariant-loop-other l = list_any (contend l.keys l.row) (take l.other-index l.rows) ≡ false
