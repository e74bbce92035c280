use Rattle.std.proofs.Common.{ℕ, List, slice_get, sym, ap, subst}
use Rattle.lt_face.specs.Rows.{IsRun}
use Rattle.lt_shared.proofs.Gathered.{joined-rows}
use Rattle.lt_shared.proofs.Runs.{run-all}
use Rattle.lt_shared.proofs.entry.RowEntry.first_rows.Goals as goal

pub returns-clause-first : goal.returns-clause-first
returns-clause-first c = ap (λ rows. slice_get rows 0) (sym (joined-rows c.args.entries.now))

pub returns-clause-run : goal.returns-clause-run
returns-clause-run c = subst (λ (rows : List (List ℕ)). IsRun rows c.args.entries.now) (sym (joined-rows c.args.entries.now)) (run-all c.args.entries.now)
