use Rattle.std.proofs.Common.{◌≡◌, ◌++◌, take}
use Rattle.lt_script.specs.Names.{body_names}
use Rattle.lt_script.specs.Parsed.{texts}
use Rattle.lt_script.proofs.names.push_literals.Given as goal

abbrev pub invariant-loop-literal : goal.invariant-loop-literal
invariant-loop-literal l = texts l.names.items ≡ texts l.fn.names.items ++ body_names (take l.literal-index l.literals)
