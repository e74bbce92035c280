use Rattle.std.proofs.Common.{◌≡◌}
use Rattle.lt_turn.specs.Seats.{view}
use Rattle.lt_workers.specs.Driven.{Continues}
use Rattle.lt_workers.proofs.shared.Shared.drive.Given as goal

abbrev pub invariant-loop : goal.invariant-loop
invariant-loop g l = (l.seat.token.table_id ≡ l.initial.seat.token.table_id) × Continues g.M.Machine.net (view l.initial.seat) (view l.seat)
