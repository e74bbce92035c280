use Rattle.std.proofs.Common.{◌||◌, take}
use Rattle.std.specs.List.{list_any}
use Rattle.lt_model.specs.Bound.{is_var}
use Rattle.lt_check.specs.Binding.{has, Alike}
use Rattle.lt_check.proofs.bound.Bound.add_terms.Given as goal

abbrev pub invariant-loop-term : goal.invariant-loop-term
invariant-loop-term l = Alike (has l.self) (λ v. has l.fn.self v || list_any (is_var v) (take l.term-index l.terms))
