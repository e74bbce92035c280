use Rattle.std.proofs.Common.{◌≡◌, ◌≤◌, ◌<◌, ℕ, true, length, Some}
use Rattle.std.specs.Prelude.{slice_get}
use Rattle.lt_model.specs.declared.normal.Stmt.{Stmt}
use Rattle.lt_program.specs.Alone.{is_refusing}
use Rattle.lt_program.proofs.going.last_refusing.Given as goal

abbrev pub invariant-last : goal.invariant-last
invariant-last l = record {
  within : l.count ≤ length l.stmts;
  all : (j : ℕ) (stmt : Stmt) → slice_get l.stmts j ≡ Some stmt → is_refusing stmt ≡ true → j < l.count;
}

abbrev pub decreases-last : goal.decreases-last
decreases-last l = l.count
