use Rattle.std.proofs.Common.{length, sym, ap, ◌∙◌}
use Rattle.lt_sense.specs.Apart.{still_in}
use Rattle.lt_sense.proofs.United.{united_beside, united_within}
use Rattle.lt_sense.proofs.spans.Spans.joined.Goals as goal

pub returns-then-prefix_of-clause-rows : goal.returns-then-prefix_of-clause-rows
returns-then-prefix_of-clause-rows c =
    let s = c.args.self.now in
    let last = c.args.last in
    let next = c.args.next in
    united_within s.relation s.columns (still_in s last).prefix (still_in s next).prefix last.lo last.hi next.lo next.hi c.requires.order c.requires.meets (λ e. c.if-prefix_of.true (ap length c.prefix_of.ensures ∙ e ∙ sym (ap length c.prefix_of-2.ensures)))

pub returns-clause-rows : goal.returns-clause-rows
returns-clause-rows c =
    let s = c.args.self.now in
    let last = c.args.last in
    let next = c.args.next in
    united_beside s.relation s.columns (still_in s last).prefix (still_in s next).prefix last.lo last.hi next.lo next.hi c.greater.result c.requires.order c.requires.meets
    (sym (ap length c.prefix_of.ensures) ∙ c.if-prefix_of.false ∙ ap length c.prefix_of-2.ensures) c.greater.ensures.above c.greater.ensures.one
