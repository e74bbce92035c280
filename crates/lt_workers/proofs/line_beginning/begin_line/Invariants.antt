use Rattle.std.proofs.Common.{List}
use Rattle.lt_model.specs.declared.mark.Mark.{Mark}
use Rattle.lt_circuit.specs.Line.{line_state}
use Rattle.lt_circuit.specs.Row.{sizes}
use Rattle.lt_workers.specs.Alone.{WentAlone}
use Rattle.lt_workers.specs.Given.{Gives}
use Rattle.lt_workers.specs.Machines.{line_net_of, line_stand}
use Rattle.lt_workers.proofs.line_beginning.begin_line.Given as goal

abbrev pub invariant-loop : goal.invariant-loop
invariant-loop g l =
    WentAlone (line_net_of g.W.LeafWork.does) (line_stand l.initial.line) (line_stand l.line)
    × Gives (sizes l.initial.line.row) (line_state l.initial.line) (line_state l.line) (g.O.OnFinal.given l.initial.on) (g.O.OnFinal.given l.on) l.initial.count l.count
    × ((m : List Mark) → g.O.OnFinal.fits l.initial.on m → g.O.OnFinal.fits l.on m)
