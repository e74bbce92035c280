use Rattle.std.proofs.Common.{map, sym, subst}
use Rattle.std.specs.Arc.{arc_value}
use Rattle.std.specs.List.{AllByRecursion}
use Rattle.lt_base.specs.Tables.{state_of}
use Rattle.lt_program.specs.Tally.{HasIndexes}
use Rattle.lt_batch.specs.Early.{AreEarly}
use Rattle.lt_batch.specs.Work.{AreRunnable}
use Rattle.lt_batch.proofs.work.BatchWork.begin_early.Goals as goal

pub all_early-requires-clause-runnable : goal.all_early-requires-clause-runnable
all_early-requires-clause-runnable g c = λ lifetimes outlive. subst (λ programs. AreRunnable (state_of c.self.inside.snapshot) (map arc_value programs)) (sym c.as_slice.ensures.value) c.self.invariant.batch.runnable

pub all_early-requires-clause-indexed : goal.all_early-requires-clause-indexed
all_early-requires-clause-indexed g c = λ lifetimes outlive. subst (λ programs. AllByRecursion (HasIndexes c.self.inside.snapshot) (map arc_value programs)) (sym c.as_slice.ensures.value) c.self.invariant.batch.indexed

pub invariant_of-result : goal.invariant_of-result
invariant_of-result g c = record {
  batch = c.self.invariant.batch;
  early = subst (λ programs. AreEarly (state_of c.self.inside.snapshot) (map arc_value programs) c.in_ok-early.early.items) c.as_slice.ensures.value c.in_ok-early.ensures;
  within = c.self.invariant.within;
}
