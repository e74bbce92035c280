use Rattle.std.proofs.Common.{sym, ◌∙◌}
use Rattle.lt_sense.proofs.Lies.{get_own, there_at}
use Rattle.lt_sense.proofs.gathering.has_column.Goals as goal

pub returns-then-columns-i : goal.returns-then-columns-i
returns-then-columns-i c so =
    let columns = c.args.columns.now in
    there_at columns c.loop-i.i c.args.column c.loop-i-test.true (sym c.if-columns-i.true ∙ get_own columns c.loop-i.i 0 c.args.column c.loop-i-test.true)
