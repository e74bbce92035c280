use denote.Param.Send.{IsSend, sendable}
use Rattle.lt_sense.specs.contracts.by_key_seen.SeenByKey as made

pub send : IsSend made.the_row
send = search sendable depth 20
