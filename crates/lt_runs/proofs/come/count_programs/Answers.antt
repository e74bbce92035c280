use Rattle.std.proofs.Common.{◌≡◌, ◌<◌, ap, arith, length}
use Rattle.std.specs.Arc.{arc_value}
use Rattle.lt_model.specs.Check as model
use Rattle.lt_world.specs.Batches.{checked_of}
use Rattle.lt_runs.proofs.Counting.{all_counted, answer_left, bad_counted, good_counted, none_counted, room_left}
use Rattle.lt_runs.proofs.come.count_programs.Goals as goal
use Rattle.lt_runs.proofs.come.count_programs.Goals.{in-Good, in-Bad}

pub loop-i-init : goal.loop-i-init
loop-i-init c = none_counted c.args.programs.now c.args.judgements.now c.args.replies.now c.args.summary.now c.requires.some_replies

pub loop-i-preserved : goal.loop-i-preserved
loop-i-preserved c =
    let inside : c.loop-i.i < length c.args.judgements.now = omega (arith, c.loop-i-test.true, c.requires.checks) in
    elim c.match-judgements-i.branch [
      | in-Good w ↦
          let good : checked_of c.index-judgements-i.result ≡ model.Good (arc_value w.in-Good.field-0) = ap checked_of w.in-Good.is in
          rw (w.summary-is, w.next-is) (good_counted c.args.programs.now c.args.judgements.now c.args.replies.now
          _ _ c.loop-i.i c.loop-i.next c.index-programs-i.result c.index-judgements-i.result c.loop-i-test.true c.index-programs-i.is inside c.index-judgements-i.is c.loop-i.invariant
          _ (arc_value w.in-Good.field-0) w.index-replies-next.result good
          (answer_left c.args.programs.now c.args.judgements.now c.args.replies.now _ _ c.loop-i.i c.loop-i.next c.index-programs-i.result c.index-judgements-i.result c.loop-i-test.true c.index-programs-i.is inside c.index-judgements-i.is c.loop-i.invariant (arc_value w.in-Good.field-0) good)
          w.index-replies-next.is w.count.ensures.counts w.count.ensures.programs w.count.ensures.left w.count.ensures.sold)
      | in-Bad w ↦
          rw (w.summary-is, w.next-is) (bad_counted c.args.programs.now c.args.judgements.now c.args.replies.now
          _ _ c.loop-i.i c.loop-i.next c.index-programs-i.result c.index-judgements-i.result c.loop-i-test.true c.index-programs-i.is inside c.index-judgements-i.is c.loop-i.invariant
          w.in-Bad.code w.in-Bad.statement (ap checked_of w.in-Bad.is))
    ]

pub count-requires-clause-room : goal.count-requires-clause-room
count-requires-clause-room c = room_left c.args.programs.now c.args.judgements.now c.args.replies.now _ _ c.loop-i.i c.loop-i.next c.loop-i.invariant c.requires.room c.loop-i-test.true

pub returns-clause-counts : goal.returns-clause-counts
returns-clause-counts c = all_counted c.args.programs.now c.args.judgements.now c.args.replies.now _ _ c.loop-i.i c.loop-i.next c.loop-i.invariant c.loop-i-test.false
