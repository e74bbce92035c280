use Rattle.std.proofs.Common.{◌≢◌, take}
use Rattle.std.specs.List.{AllByRecursion}
use Rattle.lt_model.specs.declared.mark.Mark.{Mark}
use Rattle.lt_base.proofs.database.is_among.Given as goal

abbrev pub invariant-loop-i : goal.invariant-loop-i
invariant-loop-i l = AllByRecursion (λ (m : Mark). m.relation ≢ l.relation) (take l.i l.marks)
