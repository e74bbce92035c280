use Rattle.std.proofs.Common.{◌≡◌, take}
use Rattle.std.specs.Prelude.{filter}
use Rattle.lt_base.specs.Tables.{state_of}
use Rattle.lt_base.specs.Changed.{differ_on}
use Rattle.lt_base.proofs.database.Database.changes.Given as goal

abbrev pub invariant-loop-change : goal.invariant-loop-change
invariant-loop-change l = l.changes ≡ filter (λ change. differ_on (state_of l.old) (state_of l.new) change.0 change.1) (take l.change-index l.change-items)
