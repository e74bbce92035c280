use Rattle.std.proofs.Common.{sym, ◌∙◌}
use Rattle.lt_sense.specs.Apart.{still_in}
use Rattle.lt_sense.proofs.United.{apart_from, less_is}
use Rattle.lt_sense.proofs.spans.Spans.is_apart.Goals as goal

pub returns-then-one : goal.returns-then-one
returns-then-one c so = apart_from (still_in c.args.self.now c.args.one) (still_in c.args.self.now c.args.other) c.if-one.true (sym c.compare_end.ensures ∙ less_is c.compare_end.result (sym c.is_lt.ensures ∙ so))
