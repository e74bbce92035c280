use Rattle.std.proofs.Common.{◌≡◌, ℕ, List, map}
use Rattle.std.specs.List.{AllByRecursion}
use Rattle.lt_face.specs.State.{Row}
use Rattle.lt_base.specs.declared.index.Index.{Index}
use Rattle.lt_base.specs.Indexed.{IsIndexed}
use Rattle.lt_base.proofs.relation.note_use.Given as goal

abbrev pub invariant-loop-at : goal.invariant-loop-at
invariant-loop-at l = record {
  same : (width : ℕ) (rows : List Row) → AllByRecursion (IsIndexed width rows) l.fn.others → AllByRecursion (IsIndexed width rows) l.others;
  columns : map (λ (i : Index). i.columns) l.others ≡ map (λ (i : Index). i.columns) l.fn.others;
}
