use Rattle.std.proofs.Common.{◌≡◌, length, map}
use Rattle.std.specs.Arc.{arc_value}
use Rattle.lt_base.specs.Tables.{state_of}
use Rattle.lt_batch.specs.Early.{AreEarly}
use Rattle.lt_batch.proofs.early.all_early.Given as goal

abbrev pub invariant-loop-prog : goal.invariant-loop-prog
invariant-loop-prog g l = record {
  are : AreEarly (state_of l.snapshot) (map arc_value l.progs) l.all.items;
  long : length l.all.items ≡ l.prog-index;
}
