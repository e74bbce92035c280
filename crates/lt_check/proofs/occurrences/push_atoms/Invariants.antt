use Rattle.std.proofs.Common.{◌≡◌, ◌++◌, drop}
use Rattle.std.specs.Prelude.{filter_map}
use Rattle.lt_model.specs.Variables.{named_of}
use Rattle.lt_check.specs.Seen.{seen}
use Rattle.lt_check.proofs.occurrences.push_atoms.Given as goal

abbrev pub invariant-loop-literal : goal.invariant-loop-literal
invariant-loop-literal l = seen l.atoms.items ++ filter_map named_of (drop l.literal-index l.literals) ≡ seen l.fn.atoms.items ++ filter_map named_of l.literals
