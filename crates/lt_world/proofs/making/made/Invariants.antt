use Rattle.std.proofs.Common.{◌≡◌, ◌+◌, drop}
use Rattle.lt_model.specs.Check.{checked_from}
use Rattle.lt_check.proofs.Statements.{after_all}
use Rattle.lt_world.specs.Prepared.{AreChecked, IsMade}
use Rattle.lt_world.proofs.making.made.Given as goal

-- the answer is the statements so far, and then what is left gives
abbrev pub invariant-loop-place : goal.invariant-loop-place
invariant-loop-place l =
    (checked_from l.schema 1 l.wording-items ≡ after_all l.making.prog (checked_from l.schema (l.place + 1) (drop l.place l.wording-items)))
    × IsMade l.making × AreChecked l.schema l.table
