use Rattle.std.proofs.Common.{refl, subst, arith, get_or}
use Rattle.std.proofs.lemmas.List.{take_all}
use Rattle.lt_join.specs.Lone.{IsLeftBy}
use Rattle.lt_join.proofs.Asking.{left_next}
use Rattle.lt_join.proofs.level.asked_by.Goals as goal

pub loop-pin-preserved : goal.loop-pin-preserved
loop-pin-preserved c = left_next c.args.pins.now c.loop-pin.pin-index (get_or c.args.pins.now c.loop-pin.pin-index 0) c.loop-pin.asked c.and_key-asked.result (omega arith) refl c.loop-pin.invariant c.and_key-asked.ensures

pub returns : goal.returns
returns c = subst (λ keys. IsLeftBy keys c.loop-pin.asked) (take_all c.loop-pin.pin-index c.args.pins.now (omega arith)) c.loop-pin.invariant
