use Rattle.std.proofs.Common.{◌≡◌, ◌++◌, length, take, drop}
use Rattle.lt_model.specs.Forms.{cells_in, numbered_terms}
use Rattle.lt_script.proofs.blanking.blanked_terms.Given as goal

-- what is done, and what becomes of the rest
abbrev pub invariant-loop-i : goal.invariant-loop-i
invariant-loop-i l = record {
  long : length l.blanked.items ≡ length l.fn.terms;
  numbers : take l.i l.blanked.items ++ numbered_terms (length l.cells.items) (drop l.i l.blanked.items) ≡ numbered_terms (length l.fn.cells.items) l.fn.terms;
  constants : l.cells.items ++ cells_in (drop l.i l.blanked.items) ≡ l.fn.cells.items ++ cells_in l.fn.terms;
}
