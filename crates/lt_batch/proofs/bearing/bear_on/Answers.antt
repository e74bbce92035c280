use Rattle.std.proofs.Common.{◌≡◌, ◌∙◌, ◌≤◌, Bool, false, length, List, sym, ap, add-one, arith}
use Rattle.std.proofs.lemmas.List.{take_all}
use Rattle.std.specs.List.{list_any}
use Rattle.lt_batch.specs.Bearing.{bears_on_some}
use Rattle.lt_batch.proofs.Unborne.{any_at, none_more, run-unborne}
use Rattle.lt_batch.proofs.bearing.bear_on.Goals as goal

pub returns-then-bears_on_some-clause-value : goal.returns-then-bears_on_some-clause-value
returns-then-bears_on_some-clause-value c = sym (any_at (bears_on_some c.args.prog.now) c.args.marks.now c.loop-i.i c.mark.result.now c.mark.ensures (sym c.bears_on_some.ensures ∙ c.if-bears_on_some.true))

pub loop-i-preserved : goal.loop-i-preserved
loop-i-preserved c = rw add-one (none_more (bears_on_some c.args.prog.now) c.args.marks.now c.loop-i.i c.mark.result.now c.mark.ensures (sym c.bears_on_some.ensures ∙ c.if-bears_on_some.false) c.loop-i.invariant)

pub returns-clause-same : goal.returns-clause-same
returns-clause-same c = λ is_false s.
    let count = c.len-i-end.ensures.count in
    let end = c.loop-i-test.false in
    let whole : length c.args.marks.now ≤ c.loop-i.i = omega (arith, count, end) in
    run-unborne c.args.prog.now s c.args.marks.now (ap (list_any (bears_on_some c.args.prog.now)) (sym (take_all c.loop-i.i c.args.marks.now whole)) ∙ c.loop-i.invariant)
