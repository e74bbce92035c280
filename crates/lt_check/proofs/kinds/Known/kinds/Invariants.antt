use Rattle.std.proofs.Common.{◌≡◌, map, take}
use Rattle.lt_model.specs.Check.{kind_of}
use Rattle.lt_check.specs.Narrowing.{completed}
use Rattle.lt_check.proofs.kinds.Known.kinds.Given as goal

abbrev pub invariant-loop-term : goal.invariant-loop-term
invariant-loop-term l = l.kinds.items ≡ map (kind_of l.names (completed l.self)) (take l.term-index l.terms)
