use Rattle.std.proofs.Common.{◌≡◌, ◌≤◌, ℕ, List, length, take}
use Rattle.lt_base.specs.Tables.{state_of, has_index}
use Rattle.lt_model.specs.Fits.{FitMarks}
use Rattle.lt_program.specs.Undo.{undone}
use Rattle.lt_program.proofs.writing.take_back.Given as goal

abbrev pub invariant-edits : goal.invariant-edits
invariant-edits l = record {
  within : l.left ≤ length l.undo;
  fits : FitMarks (state_of l.db) l.undo;
  state : undone (state_of l.db) (take l.left l.undo) ≡ undone (state_of l.fn.db) l.undo;
  indexes : (r : ℕ) (columns : List ℕ) → has_index l.db r columns ≡ has_index l.fn.db r columns;
}

abbrev pub decreases-edits : goal.decreases-edits
decreases-edits l = l.left
