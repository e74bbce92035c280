use Rattle.std.proofs.Common.{◌≡◌, ◌<◌, [], map}
use Rattle.std.specs.List.{AllByRecursion}
use Rattle.lt_runs.specs.declared.beside.asking.Asker.{Asker}
use Rattle.lt_runs.proofs.beside.asking.askers_of.Given as goal

abbrev pub invariant-loop-reader : goal.invariant-loop-reader
invariant-loop-reader l = record {
  can_next : (goal.iterator-loop-reader).can_next l.reader-iterator;
  is_finite : (goal.iterator-loop-reader).is_finite l.reader-iterator;
  numbers : AllByRecursion (λ (a : Asker). a.number < 8) l.askers.items;
  readers : map (λ (a : Asker). a.reader) l.askers.items ≡ l.yielded;
  answers : AllByRecursion (λ (a : Asker). a.answers.items ≡ []) l.askers.items;
}
