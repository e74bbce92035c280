use Rattle.std.proofs.Common.{sym, ◌∙◌, arith}
use Rattle.lt_delta.proofs.Ends.{put_end, put_over}
use Rattle.lt_delta.proofs.sorting.put.Goals as goal

pub returns-then-ends_on : goal.returns-then-ends_on
returns-then-ends_on c =
    sym (put_over c.args.marks.now.items c.args.mark _ (omega arith) c.requires.ascending c.requires.none_above (cc (c.deref.ensures.value, c.if-ends_on.ensures.value)))

pub returns-in_ok-push : goal.returns-in_ok-push
returns-in_ok-push c =
    c.in_ok-push.ensures.items ∙ sym (put_end c.args.marks.now.items c.args.mark c.requires.ascending c.requires.none_above (cc (c.deref.ensures.value, c.if-ends_on.ensures.value)))
