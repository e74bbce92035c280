use Rattle.std.proofs.Common.{inl}
use Rattle.lt_sense.proofs.Growth.{on_err}
use Rattle.lt_sense.proofs.Tallied.{on_ok}
use Rattle.lt_sense.proofs.gathering.add_range.Goals as goal

pub returns-in-Some-clause-indexes : goal.returns-in-Some-clause-indexes
returns-in-Some-clause-indexes c = on_ok c.add_at.result (inl c.add_at.ensures.indexes)

pub returns-in-Some-clause-same : goal.returns-in-Some-clause-same
returns-in-Some-clause-same c = on_err c.add_at.result c.add_at.ensures.indexes
