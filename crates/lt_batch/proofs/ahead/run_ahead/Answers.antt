use denote.Param.Send.{sendable}
use Rattle.std.proofs.Crossing.{crosses}
use Rattle.lt_batch.proofs.Crossing.{ahead_send}
use Rattle.lt_batch.proofs.ahead.run_ahead.Goals as goal

pub map_indices-requires-send-X : goal.map_indices-requires-send-X
map_indices-requires-send-X g c κs within = search (sendable, crosses, ahead_send) depth 60
