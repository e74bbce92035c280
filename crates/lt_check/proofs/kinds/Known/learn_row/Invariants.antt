use Rattle.std.proofs.Common.{map, take}
use Rattle.lt_model.specs.Check.{kind_of, same_kinds}
use Rattle.lt_check.specs.Narrowing.{Narrows}
use Rattle.lt_check.proofs.kinds.Known.learn_row.Given as goal

abbrev pub invariant-loop-i : goal.invariant-loop-i
invariant-loop-i l = Narrows (λ choice. same_kinds (map (kind_of l.names choice) (take l.i l.terms)) (take l.i l.columns)) l.fn.self l.told l.self
