use Rattle.lt_sense.proofs.ByKeyTaken.{begin_nothing}
use Rattle.lt_sense.proofs.by_key_taking.is_under.Goals as goal

pub returns-then-hi-lo : goal.returns-then-hi-lo
returns-then-hi-lo c _ = begin_nothing c.args.key c.args.prefix.now c.args.lo c.args.hi c.if-hi-lo.true
