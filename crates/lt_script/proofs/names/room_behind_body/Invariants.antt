use Rattle.std.proofs.Common.{◌+◌, ◌≤◌, length, take}
use Rattle.lt_script.specs.Names.{body_names}
use Rattle.lt_script.proofs.names.room_behind_body.Given as goal

abbrev pub invariant-loop-literal : goal.invariant-loop-literal
invariant-loop-literal l = length (body_names (take l.literal-index l.body)) + l.left ≤ l.room
