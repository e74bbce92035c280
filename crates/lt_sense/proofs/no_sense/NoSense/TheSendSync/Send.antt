use denote.Param.Send.{IsSend, sendable}
use Rattle.lt_sense.specs.contracts.no_sense.NoSense as made

pub send : IsSend made.the_row
send = search sendable depth 20
