use Rattle.std.proofs.Common.{Some}
use Rattle.lt_world.specs.Prepared.{IsKnown}
use Rattle.lt_world.proofs.Keeping.{all_set}
use Rattle.lt_world.proofs.checks.put.Goals as goal

pub returns-then-place-len : goal.returns-then-place-len
returns-then-place-len c = λ schema one all. all_set (IsKnown schema) c.make_room.new.forms.items c.args.place (Some c.args.checked) (c.make_room.ensures schema all) one
