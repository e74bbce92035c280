use Rattle.std.proofs.Common.{◌-◌, get_or, sym, subst, arith}
use Rattle.lt_sense.specs.Apart.{IsApart, IsKeptSpan, still_in}
use Rattle.lt_sense.proofs.Joined.{ordered_next}
use Rattle.lt_sense.proofs.Stands.{apart_chain}
use Rattle.lt_sense.proofs.United.{got_or, kept_at}
use Rattle.lt_sense.proofs.spans.Spans.are_apart.Goals as goal

pub is_apart-requires-clause-one : goal.is_apart-requires-clause-one
is_apart-requires-clause-one c = kept_at (IsKeptSpan c.args.self.now) c.args.all.now (c.loop-at.at - 1) c.span_at-last.result c.requires.kept c.span_at-last.ensures

pub is_apart-requires-clause-other : goal.is_apart-requires-clause-other
is_apart-requires-clause-other c = kept_at (IsKeptSpan c.args.self.now) c.args.all.now c.loop-at.at c.span_at-next.result c.requires.kept c.span_at-next.ensures

pub loop-at-preserved : goal.loop-at-preserved
loop-at-preserved c =
    let entry = still_in c.args.self.now in
    let all = c.args.all.now in
    let at = c.loop-at.at in
    let last = c.span_at-last.result in
    let next = c.span_at-next.result in
    ordered_next IsApart apart_chain entry all at next c.loop-at.auto.at (omega (arith, c.loop-at-test.true)) c.loop-at.invariant
    (subst (λ x. IsApart (entry x) (entry (get_or all at next))) (sym (got_or all (at - 1) last next c.span_at-last.ensures))
    (subst (λ x. IsApart (entry last) (entry x)) (sym (got_or all at next next c.span_at-next.ensures)) (c.is_apart.ensures c.if-not-is_apart.false)))
