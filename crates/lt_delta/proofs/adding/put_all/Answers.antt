use Rattle.std.proofs.Common.{arith}
use Rattle.lt_delta.proofs.adding.put_all.Goals as goal

pub put_each-requires-clause-room : goal.put_each-requires-clause-room
put_each-requires-clause-room c = omega (arith, c.in_ok-reserve.ensures.ok, c.len.ensures)
