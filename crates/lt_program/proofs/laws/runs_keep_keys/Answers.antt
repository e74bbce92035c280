use Rattle.lt_program.proofs.KeysStay.{runs_stay_keyed, serial_stays_keyed}
use Rattle.lt_program.proofs.laws.runs_keep_keys.Goals as goal

pub returns-clause-one : goal.returns-clause-one
returns-clause-one c = runs_stay_keyed

pub returns-clause-all : goal.returns-clause-all
returns-clause-all c = serial_stays_keyed
