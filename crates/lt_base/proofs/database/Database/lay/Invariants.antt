use Rattle.std.proofs.Common.{◌≡◌, ℕ, List, take}
use Rattle.lt_model.specs.Marks.{laid}
use Rattle.lt_base.specs.Tables.{state_of, has_index}
use Rattle.lt_base.proofs.database.Database.lay.Given as goal

abbrev pub invariant-loop-i : goal.invariant-loop-i
invariant-loop-i l = record {
  state : state_of l.self ≡ laid (state_of l.fn.self) (take l.i l.marks);
  indexes : (relation : ℕ) (columns : List ℕ) → has_index l.self relation columns ≡ has_index l.fn.self relation columns;
}
