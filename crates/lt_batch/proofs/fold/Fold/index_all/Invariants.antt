use Rattle.std.proofs.Common.{map, take}
use Rattle.std.specs.Arc.{arc_value}
use Rattle.std.specs.List.{AllByRecursion}
use Rattle.lt_program.specs.Tally.{HasIndexes}
use Rattle.lt_batch.specs.Folding.{IsAlike}
use Rattle.lt_batch.proofs.fold.Fold.index_all.Given as goal

abbrev pub invariant-loop-prog : goal.invariant-loop-prog
invariant-loop-prog g l = record {
  indexes : AllByRecursion (HasIndexes l.self.db) (map arc_value (take l.prog-index l.progs));
  alike : IsAlike l.fn.self l.self;
}
