use Rattle.std.proofs.Common.{◌≡◌, ◌≤◌, List}
use Rattle.lt_model.specs.declared.mark.Mark.{Mark}
use Rattle.lt_circuit.specs.Line.{line_state}
use Rattle.lt_circuit.specs.Row.{sizes}
use Rattle.lt_workers.specs.Given.{Gives}
use Rattle.lt_workers.proofs.giving.give_up_to.Given as goal

abbrev pub invariant-loop-segment : goal.invariant-loop-segment
invariant-loop-segment g l =
    (l.count ≡ l.segment)
    × Gives (sizes l.line.row) (line_state l.line) (line_state l.line) (g.O.OnFinal.given l.initial.on) (g.O.OnFinal.given l.on) l.initial.count l.count
    × ((m : List Mark) → g.O.OnFinal.fits l.initial.on m → g.O.OnFinal.fits l.on m)
    × (l.initial.count ≤ l.end → l.segment ≤ l.end)
