use Rattle.std.proofs.Common.{arith}
use Rattle.std.proofs.lemmas.Bool.{eqb-true, eqb-false}
use Rattle.lt_delta.proofs.Starts.{none_on, none_at, one_at}
use Rattle.lt_delta.proofs.marks.Marks.is_on.Goals as goal

pub returns-then-place-len-clause-off : goal.returns-then-place-len-clause-off
returns-then-place-len-clause-off c = λ off.
    none_on c.args.relation c.args.self.now c.start_of-place.result (omega (arith, c.len.ensures.count, c.if-place-len.true)) c.start_of-place.ensures.before

pub returns-clause-on : goal.returns-clause-on
returns-clause-on c = λ same. one_at c.args.relation c.args.self.now c.start_of-place.result c.mark-mark.result.now c.mark-mark.ensures (eqb-true _ _ same)

pub returns-clause-off : goal.returns-clause-off
returns-clause-off c = λ differs.
    none_at c.args.relation c.args.self.now c.start_of-place.result c.mark-mark.result.now c.len.ensures.ascending c.start_of-place.ensures.before c.mark-mark.ensures
    (c.start_of-place.ensures.after c.start_of-place.result c.mark-mark.result.now c.mark-mark.ensures (omega arith)) (eqb-false _ _ differs)
