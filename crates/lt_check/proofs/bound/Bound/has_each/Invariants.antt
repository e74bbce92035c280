use Rattle.std.proofs.Common.{◌≡◌, drop}
use Rattle.std.specs.List.{list_all}
use Rattle.lt_model.specs.Variables.{place_of}
use Rattle.lt_check.specs.Binding.{has}
use Rattle.lt_check.specs.Seen.{seen}
use Rattle.lt_check.proofs.bound.Bound.has_each.Given as goal

abbrev pub invariant-loop-name : goal.invariant-loop-name
invariant-loop-name l = list_all (λ name. has l.self (place_of l.names name)) (seen (drop l.name-index l.each)) ≡ list_all (λ name. has l.self (place_of l.names name)) (seen l.each)
