use Rattle.std.proofs.Common.{length, ap, ◌∙◌, sym, ◌-◌, ◌<◌, arith}
use Rattle.std.specs.Ordering.{is_eq}
use Rattle.lt_delta.proofs.Ends.{ends_at}
use Rattle.lt_delta.proofs.sorting.ends_on.Goals as goal

pub returns-in-Some-clause-value : goal.returns-in-Some-clause-value
returns-in-Some-clause-value c =
    let some : 0 < length c.args.marks.now = c.in-Some.ensures.item.3.0 in
    c.is_eq.ensures ∙ ap is_eq c.compare.ensures
    ∙ sym (ends_at c.args.marks.now c.args.mark.now c.in-Some.last.now (length c.args.marks.now - 1) (omega arith) c.in-Some.ensures.item.1)
