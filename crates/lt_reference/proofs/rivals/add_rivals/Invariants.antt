use Rattle.std.proofs.Common.{◌≡◌, ◌++◌, take}
use Rattle.std.specs.Prelude.{filter}
use Rattle.lt_reference.specs.Rivals.{is_rival}
use Rattle.lt_reference.proofs.rivals.add_rivals.Given as goal

abbrev pub invariant-loop-other : goal.invariant-loop-other
invariant-loop-other l = l.found.items ≡ l.initial.found.items ++ filter (is_rival l.keys l.row) (take l.other-index l.there)
