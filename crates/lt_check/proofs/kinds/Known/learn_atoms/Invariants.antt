use Rattle.std.proofs.Common.{take}
use Rattle.std.specs.List.{list_all}
use Rattle.lt_model.specs.Check.{kind_of, atom_fits}
use Rattle.lt_check.specs.Narrowing.{Narrows}
use Rattle.lt_check.specs.Seen.{seen}
use Rattle.lt_check.proofs.kinds.Known.learn_atoms.Given as goal

abbrev pub invariant-loop-i : goal.invariant-loop-i
invariant-loop-i l = Narrows (λ choice. list_all (atom_fits l.schema (kind_of l.names choice)) (seen (take l.i l.atoms))) l.fn.self l.told l.self
