use Rattle.std.proofs.Common.{◌≡◌, List}
use Rattle.lt_model.specs.declared.mark.Mark.{Mark}
use Rattle.lt_turn.specs.Seats.{view}
use Rattle.lt_workers.specs.Driven.{Continues}
use Rattle.lt_workers.specs.Given.{GivesOn}
use Rattle.lt_workers.specs.Machines.{line_net_of}
use Rattle.lt_workers.proofs.line_driving.Shared+Line+W.drive_line.Given as goal

abbrev pub invariant-loop : goal.invariant-loop
invariant-loop g l =
    (l.seat.token.table_id ≡ l.initial.seat.token.table_id)
    × Continues (line_net_of g.W.LeafWork.does) (view l.initial.seat) (view l.seat)
    × GivesOn g.W.LeafWork.does (view l.initial.seat) (view l.seat) (g.O.OnFinal.given l.initial.on) (g.O.OnFinal.given l.on) l.initial.count l.count
    × ((m : List Mark) → g.O.OnFinal.fits l.initial.on m → g.O.OnFinal.fits l.on m)
