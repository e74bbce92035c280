use Rattle.std.proofs.Common.{◌^◌, ◌<◌, subst}
use Rattle.std.specs.Prelude.{IfSome}
use Rattle.lt_join.proofs.BoundLaws.{lower_begun, lower_more, lower_passed}
use Rattle.lt_join.proofs.bounds.add_firsts.Goals as goal
use Rattle.lt_join.proofs.bounds.add_firsts.Goals.{in-Some+in_ok-push-in-Some, in-None}

pub loop-row-init : goal.loop-row-init
loop-row-init c = lower_begun c.args.bounds.now.items c.requires

pub loop-row-preserved : goal.loop-row-preserved
loop-row-preserved c =
    let rows = c.loop-row.row-index in
    let last = c.loop-row.last in
    let now = c.loop-row.bounds.items in
    elim c.match-key_above.branch [
      | in-Some+in_ok-push-in-Some w ↦
          let above = subst (λ r. IfSome r (λ key. last < key)) w.in-Some.is c.key_above.ensures.above in
          let low = subst (λ r. IfSome r (λ key. key < 2 ^ 120)) w.in-Some.is c.key_above.ensures.low in
          rw (w.bounds-is, w.last-is) (lower_more now w.push.new.self.items rows last w.in-Some.key w.in_ok-push-in-Some.ensures.items above low c.loop-row.invariant)
      | in-None w ↦ rw (w.bounds-is, w.last-is) (lower_passed now rows last c.loop-row.invariant)
    ]

pub returns-clause-rising : goal.returns-clause-rising
returns-clause-rising c = c.loop-row.invariant.rising

pub returns-clause-low : goal.returns-clause-low
returns-clause-low c = c.loop-row.invariant.low

pub returns-clause-first : goal.returns-clause-first
returns-clause-first c = c.loop-row.invariant.first
