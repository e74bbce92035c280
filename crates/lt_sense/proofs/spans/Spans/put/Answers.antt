use Rattle.std.proofs.Common.{◌<◌, ◌++◌, ◌∷◌, [], length, sym, ap, ◌∙◌, subst}
use Rattle.std.specs.List.{AllByRecursion}
use Rattle.std.specs.Ordering.{is_lt}
use Rattle.lt_sense.specs.Apart.{IsKeptSpan}
use Rattle.lt_sense.proofs.Sorted.{all_push, all_init}
use Rattle.lt_sense.proofs.United.{last_up, less_is, span_put_next, span_put_united}
use Rattle.lt_sense.proofs.spans.Spans.put.Goals as goal

pub returns-then-is_lt-clause-kept : goal.returns-then-is_lt-clause-kept
returns-then-is_lt-clause-kept c =
    let s = c.args.self.now in
    let old : AllByRecursion (IsKeptSpan s) (c.pop.new.self.items ++ c.in-Some.last ∷ []) = subst (AllByRecursion (IsKeptSpan s)) c.in-Some.ensures.items c.requires.kept in
    subst (AllByRecursion (IsKeptSpan s)) (sym (c.in_ok-push-in-Some-2.ensures.items ∙ ap (λ xs. xs ++ c.args.next ∷ []) c.in_ok-push-in-Some.ensures.items)) (all_push (IsKeptSpan s) (c.pop.new.self.items ++ c.in-Some.last ∷ []) c.args.next old c.requires.next)

pub returns-then-is_lt-clause-put : goal.returns-then-is_lt-clause-put
returns-then-is_lt-clause-put c =
    span_put_next c.args.self.now c.args.out.now.items c.pop.new.self.items c.push-then-is_lt.new.self.items c.push-then-is_lt-2.new.self.items c.in-Some.last c.args.next
    c.in-Some.ensures.items c.in_ok-push-in-Some.ensures.items c.in_ok-push-in-Some-2.ensures.items c.requires.ordered c.requires.up_to (sym c.compare_end.ensures ∙ less_is c.compare_end.result (sym c.is_lt.ensures ∙ c.if-is_lt.true))

pub joined-span-requires-clause-last : goal.joined-span-requires-clause-last
joined-span-requires-clause-last c =
    (all_init (IsKeptSpan c.args.self.now) c.pop.new.self.items c.in-Some.last (subst (AllByRecursion (IsKeptSpan c.args.self.now)) c.in-Some.ensures.items c.requires.kept)).1

pub joined-span-requires-clause-order : goal.joined-span-requires-clause-order
joined-span-requires-clause-order c = last_up c.args.self.now c.args.out.now.items c.pop.new.self.items c.in-Some.last c.args.next c.in-Some.ensures.items c.requires.up_to

pub joined-span-requires-clause-meets : goal.joined-span-requires-clause-meets
joined-span-requires-clause-meets c = ap is_lt (sym c.compare_end.ensures) ∙ sym c.is_lt.ensures ∙ c.if-is_lt.false

pub returns-in_ok-push-in-Some-3-clause-kept : goal.returns-in_ok-push-in-Some-3-clause-kept
returns-in_ok-push-in-Some-3-clause-kept c =
    let s = c.args.self.now in
    let parts = all_init (IsKeptSpan s) c.pop.new.self.items c.in-Some.last (subst (AllByRecursion (IsKeptSpan s)) c.in-Some.ensures.items c.requires.kept) in
    subst (AllByRecursion (IsKeptSpan s)) (sym c.in_ok-push-in-Some-3.ensures.items) (all_push (IsKeptSpan s) c.pop.new.self.items c.joined-span.result parts.0 (subst (λ n. n < length s.runs.items) (sym c.joined-span.ensures.run) parts.1))

pub returns-in_ok-push-in-Some-3-clause-put : goal.returns-in_ok-push-in-Some-3-clause-put
returns-in_ok-push-in-Some-3-clause-put c =
    span_put_united c.args.self.now c.args.out.now.items c.pop.new.self.items c.push-in-Some.new.self.items c.in-Some.last c.args.next c.joined-span.result
    c.in-Some.ensures.items c.in_ok-push-in-Some-3.ensures.items c.requires.ordered c.joined-span.ensures.run c.joined-span.ensures.lo c.joined-span.ensures.rows
