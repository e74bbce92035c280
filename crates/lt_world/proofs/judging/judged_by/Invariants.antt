use Rattle.std.proofs.Common.{◌≡◌, map, take}
use Rattle.std.specs.List.{AllByRecursion}
use Rattle.lt_face.specs.State.{State}
use Rattle.lt_model.specs.declared.syntax.Program.{Program}
use Rattle.lt_model.specs.Check.{checked}
use Rattle.lt_check.specs.States.{IsStateOf}
use Rattle.lt_world.specs.Batches.{checked_of, FitsIfGood}
use Rattle.lt_world.specs.Prepared.{AreChecked}
use Rattle.lt_world.proofs.judging.judged_by.Given as goal

-- the first of the programs were checked
abbrev pub invariant-loop-program : goal.invariant-loop-program
invariant-loop-program l =
    (map checked_of l.judgements.items ≡ map (λ (p : Program). checked p l.schema) (take l.program-index l.programs))
    × ((state : State) → IsStateOf l.schema state → AllByRecursion (FitsIfGood state) (map checked_of l.judgements.items))
    × AreChecked l.schema l.table
