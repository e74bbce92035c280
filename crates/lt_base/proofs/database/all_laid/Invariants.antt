use Rattle.std.proofs.Common.{◌≡◌, take, map}
use Rattle.std.specs.Arc.{arc_value}
use Rattle.lt_base.specs.Shown.{tables_laid}
use Rattle.lt_base.proofs.database.all_laid.Given as goal

abbrev pub invariant-loop-number : goal.invariant-loop-number
invariant-loop-number l = map arc_value l.laid.items ≡ tables_laid 0 (map arc_value (take l.number l.relations.items)) l.marks
