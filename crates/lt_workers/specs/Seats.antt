-- What a clause says of a shared machine and its seats.
use Rattle.std.specs.Prelude.{◌≡◌}
use Rattle.lt_turn.specs.declared.turn.Seat.{Seat}
use Rattle.lt_workers.specs.declared.shared.Shared.{Shared}

-- the seat is one of this machine's
abbrev pub IsSeatOf : {M B J P S T O h : _} → Shared M B J P S → Seat T O h → Type 0
IsSeatOf s t = t.token.table_id ≡ s.turn.table.shared.table_id
