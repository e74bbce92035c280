use Rattle.std.proofs.Common.{◌≡◌, ◌++◌, take}
use Rattle.lt_script.specs.Names.{terms_names}
use Rattle.lt_script.specs.Parsed.{texts}
use Rattle.lt_script.proofs.names.push_terms.Given as goal

abbrev pub invariant-loop-term : goal.invariant-loop-term
invariant-loop-term l = texts l.names.items ≡ texts l.fn.names.items ++ terms_names (take l.term-index l.terms)
