use Rattle.std.proofs.Common.{inl}
use Rattle.lt_script.proofs.Feeding.{wanted}
use Rattle.lt_script.proofs.cursor.Cursor.wants_more.Goals as goal

pub returns-then-ended : goal.returns-then-ended
returns-then-ended c = inl c.if-ended.true

pub returns : goal.returns
returns c = wanted c.may_change.result c.args.ended c.args.self.now c.if-ended.false c.may_change.ensures
