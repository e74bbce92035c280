use Rattle.std.proofs.Common.{◌≡◌, List, take}
use Rattle.std.specs.List.{AllByRecursion}
use Rattle.lt_face.specs.State.{State}
use Rattle.lt_model.specs.Check.{Checked}
use Rattle.lt_check.specs.States.{IsStateOf}
use Rattle.lt_world.specs.Batches.{FitsIfGood}
use Rattle.lt_world.specs.Lines.{all_checked, checks_of}
use Rattle.lt_world.proofs.line.line_judged.Given as goal

-- the first of the batches were checked
abbrev pub invariant-loop-programs : goal.invariant-loop-programs
invariant-loop-programs l =
    (checks_of l.all.items ≡ all_checked l.fn.schema (take l.programs-index l.batches))
    × ((state : State) → IsStateOf l.fn.schema state → AllByRecursion (λ (cs : List Checked). AllByRecursion (FitsIfGood state) cs) (checks_of l.all.items))
    × (l.schema ≡ l.fn.schema)
