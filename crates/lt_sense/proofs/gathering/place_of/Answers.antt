use Rattle.std.proofs.Common.{◌<◌, ◌≢◌, length, take, sym, ap, ◌∙◌, subst, arith}
use Rattle.std.specs.List.{AllByRecursion}
use Rattle.lt_sense.specs.Held.{Index, index_of, indexes}
use Rattle.lt_sense.proofs.Costs.{indexes_next}
use Rattle.lt_sense.proofs.Lies.{get_there, take_next, take_whole}
use Rattle.lt_sense.proofs.Sorted.{all_push}
use Rattle.lt_sense.proofs.gathering.place_of.Goals as goal

pub returns-then-is_of-clause-place : goal.returns-then-is_of-clause-place
returns-then-is_of-clause-place c =
    let lists = c.args.lists.now.items in
    let lt : c.loop-at.at < length lists = omega (arith, c.loop-at-test.true, c.len-at-end.ensures) in
    let same = c.is_of.ensures.same c.if-is_of.true in
    (c.index.result.now, get_there lists c.loop-at.at c.index.result.now lt c.index.ensures, ap (λ (i : Index). i.0) same, ap (λ (i : Index). i.1) same)

pub loop-at-preserved : goal.loop-at-preserved
loop-at-preserved c =
    let lists = c.args.lists.now.items in
    let at = c.loop-at.at in
    let s = c.index.result.now in
    let lt : at < length lists = omega (arith, c.loop-at-test.true, c.len-at-end.ensures) in
    subst (AllByRecursion (λ i. i ≢ (c.args.relation, c.args.perm.now))) (sym (ap indexes (take_next lists at s lt c.index.ensures) ∙ indexes_next (take at lists) s))
    (all_push (λ i. i ≢ (c.args.relation, c.args.perm.now)) (indexes (take at lists)) (index_of s) c.loop-at.invariant (c.is_of.ensures.other c.if-is_of.false))

pub returns-clause-none : goal.returns-clause-none
returns-clause-none c =
    subst (λ xs. AllByRecursion (λ i. i ≢ (c.args.relation, c.args.perm.now)) (indexes xs)) (take_whole c.args.lists.now.items c.loop-at.at (omega (arith, c.loop-at-test.false, c.len-at-end.ensures))) c.loop-at.invariant
