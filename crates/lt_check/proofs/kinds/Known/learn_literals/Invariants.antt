use Rattle.std.proofs.Common.{take}
use Rattle.std.specs.List.{list_all}
use Rattle.lt_model.specs.Check.{kind_of, literal_fits}
use Rattle.lt_check.specs.Narrowing.{Narrows}
use Rattle.lt_check.proofs.kinds.Known.learn_literals.Given as goal

abbrev pub invariant-loop-literal : goal.invariant-loop-literal
invariant-loop-literal l = Narrows (λ choice. list_all (literal_fits (kind_of l.names choice)) (take l.literal-index l.body)) l.fn.self l.told l.self
