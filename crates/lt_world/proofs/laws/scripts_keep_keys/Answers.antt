use Rattle.lt_world.proofs.KeysStay.{scripts_stay_keyed}
use Rattle.lt_world.proofs.laws.scripts_keep_keys.Goals as goal

pub returns : goal.returns
returns c = scripts_stay_keyed c.runs_keep_keys.ensures.all
