use Rattle.std.proofs.Common.{◌≡◌, take, map}
use Rattle.std.specs.Arc.{arc_value}
use Rattle.std.specs.List.{AllByRecursion}
use Rattle.lt_base.specs.Tables.{state_of}
use Rattle.lt_program.specs.Tally.{HasIndexes}
use Rattle.lt_batch.proofs.indexing.all_indexed.Given as goal

abbrev pub invariant-loop-prog : goal.invariant-loop-prog
invariant-loop-prog g l = record {
  state : state_of l.with ≡ state_of l.db;
  indexes : AllByRecursion (HasIndexes l.with) (map arc_value (take l.prog-index l.progs));
}
