use Rattle.std.proofs.Common.{◌≡◌, drop}
use Rattle.lt_sense.specs.ByKeyTold.{have_rest}
use Rattle.lt_sense.proofs.by_key_sense.rest_has.Given as goal

abbrev pub invariant-loop-at : goal.invariant-loop-at
invariant-loop-at l = have_rest l.rest.items l.relation l.row ≡ have_rest (drop l.at l.rest.items) l.relation l.row
