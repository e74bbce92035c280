use Rattle.std.proofs.Common.{[]}
use Rattle.lt_query.proofs.Displaced.{key_rows}
use Rattle.lt_query.proofs.KeysStay.{writes_stay_keyed}
use Rattle.lt_query.proofs.Neighbours.{apart_at, one_for_key, clashes_not}
use Rattle.lt_query.proofs.laws.rows_for_keys.Goals as goal

pub returns-clause-stay : goal.returns-clause-stay
returns-clause-stay c = writes_stay_keyed

pub returns-clause-answers : goal.returns-clause-answers
returns-clause-answers c = key_rows

pub returns-clause-neighbours : goal.returns-clause-neighbours
returns-clause-neighbours c = λ keys rows long up apart. clashes_not keys rows (one_for_key keys rows long up (apart_at keys rows [] apart))
