use Rattle.std.proofs.Common.{◌||◌, take}
use Rattle.lt_model.specs.Answers.{terms_of}
use Rattle.lt_model.specs.Bound.{stands}
use Rattle.lt_check.specs.Binding.{has, Alike}
use Rattle.lt_check.proofs.bound.Bound.add_atoms.Given as goal

abbrev pub invariant-loop-atom : goal.invariant-loop-atom
invariant-loop-atom l = Alike (has l.self) (λ v. has l.fn.self v || stands (terms_of (take l.atom-index l.atoms)) v)
