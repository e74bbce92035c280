use Rattle.std.proofs.Common.{◌≡◌, ◌<◌, ◌+◌, ap, arith, length}
use Rattle.std.proofs.lemmas.Result.{err_from_is_err_and}
use Rattle.std.specs.Arc.{arc_value}
use Rattle.lt_model.specs.Check as model
use Rattle.lt_model.specs.Report.{bad_program_text, done_text}
use Rattle.lt_report.proofs.Going.{stops}
use Rattle.lt_world.specs.Batches.{checked_of}
use Rattle.lt_world.proofs.Telling.{bad_parts, bad_told, effect_left, good_parts, good_told, reply_left, rest_from}
use Rattle.lt_world.proofs.batch.put_programs.Goals as goal
use Rattle.lt_world.proofs.batch.put_programs.Goals.{in-Good+in_ok-put_done-in-Good, in-Bad+in_ok-put_bad_program-in-Bad}

pub loop-i-preserved : goal.loop-i-preserved
loop-i-preserved g c =
    let inside : c.loop-i.i < length c.args.judgements.now = omega (arith, c.loop-i-test.true, c.requires.checks) in
    elim c.match-judgements-i.branch [
      | in-Good+in_ok-put_done-in-Good w ↦
          let good : checked_of c.index-judgements-i.result ≡ model.Good (arc_value w.in-Good.field-0) = ap checked_of w.in-Good.is in
          rw (w.sink-is, w.next-is) (good_told c.args.marks c.args.headings.now c.args.programs.now c.args.judgements.now c.args.replies.now c.args.effects.now
          _ _ _ _ c.loop-i.i c.loop-i.next c.index-programs-i.result c.index-judgements-i.result c.loop-i-test.true c.index-programs-i.is inside c.index-judgements-i.is c.loop-i.invariant
          _ _ (arc_value w.in-Good.field-0) w.index-replies-next.result w.index-effects-next.result good
          (reply_left c.args.marks c.args.headings.now c.args.programs.now c.args.judgements.now c.args.replies.now c.args.effects.now _ _ _ _ c.loop-i.i c.loop-i.next c.index-programs-i.result c.index-judgements-i.result c.loop-i-test.true c.index-programs-i.is inside c.index-judgements-i.is c.loop-i.invariant (arc_value w.in-Good.field-0) good)
          (effect_left c.args.marks c.args.headings.now c.args.programs.now c.args.judgements.now c.args.replies.now c.args.effects.now _ _ _ _ c.loop-i.i c.loop-i.next c.index-programs-i.result c.index-judgements-i.result c.loop-i-test.true c.index-programs-i.is inside c.index-judgements-i.is c.loop-i.invariant (arc_value w.in-Good.field-0) good)
          w.index-replies-next.is w.index-effects-next.is w.in_ok-put_done-in-Good.ensures.ok w.in_ok-put_done-in-Good.ensures.cause.later)
      | in-Bad+in_ok-put_bad_program-in-Bad w ↦
          rw (w.sink-is, w.next-is) (bad_told c.args.marks c.args.headings.now c.args.programs.now c.args.judgements.now c.args.replies.now c.args.effects.now
          _ _ _ _ c.loop-i.i c.loop-i.next c.index-programs-i.result c.index-judgements-i.result c.loop-i-test.true c.index-programs-i.is inside c.index-judgements-i.is c.loop-i.invariant
          _ _ w.in-Bad.code w.in-Bad.statement (ap checked_of w.in-Bad.is) w.in_ok-put_bad_program-in-Bad.ensures.ok w.in_ok-put_bad_program-in-Bad.ensures.cause.later)
    ]

pub returns-in_err-put_done-in-Good : goal.returns-in_err-put_done-in-Good
returns-in_err-put_done-in-Good g c =
    let inside : c.loop-i.i < length c.args.judgements.now = omega (arith, c.loop-i-test.true, c.requires.checks) in
    let prog = arc_value c.in-Good.field-0 in
    let good : checked_of c.index-judgements-i.result ≡ model.Good prog = ap checked_of c.in-Good.is in
    let r_left = reply_left c.args.marks c.args.headings.now c.args.programs.now c.args.judgements.now c.args.replies.now c.args.effects.now _ _ _ _ c.loop-i.i c.loop-i.next c.index-programs-i.result c.index-judgements-i.result c.loop-i-test.true c.index-programs-i.is inside c.index-judgements-i.is c.loop-i.invariant prog good in
    let e_left = effect_left c.args.marks c.args.headings.now c.args.programs.now c.args.judgements.now c.args.replies.now c.args.effects.now _ _ _ _ c.loop-i.i c.loop-i.next c.index-programs-i.result c.index-judgements-i.result c.loop-i-test.true c.index-programs-i.is inside c.index-judgements-i.is c.loop-i.invariant prog good in
    let p = err_from_is_err_and c.from_residual.result c.from_residual.ensures.1 in
    stops c.from_residual.result p.0 _ _ (g.K.Sink.holds c.loop-i.sink) _ _ (g.K.Sink.faults c.loop-i.sink) _ c.loop-i.invariant.front
    (done_text c.args.marks c.args.headings.now c.index-programs-i.result.name (c.index-replies-next.result, c.index-effects-next.result)) _
    (rest_from c.args.marks c.args.headings.now c.args.programs.now c.args.judgements.now c.args.replies.now c.args.effects.now (c.loop-i.i + 1) (c.loop-i.next + 1)) p.1 c.loop-i.invariant.did c.in_err-put_done-in-Good.ensures
    (good_parts c.args.marks c.args.headings.now c.args.programs.now c.args.judgements.now c.args.replies.now c.args.effects.now _ _ _ _ c.loop-i.i c.loop-i.next c.index-programs-i.result c.index-judgements-i.result c.loop-i-test.true c.index-programs-i.is inside c.index-judgements-i.is c.loop-i.invariant
    prog c.index-replies-next.result c.index-effects-next.result good r_left e_left c.index-replies-next.is c.index-effects-next.is)

pub returns-in_err-put_bad_program-in-Bad : goal.returns-in_err-put_bad_program-in-Bad
returns-in_err-put_bad_program-in-Bad g c =
    let inside : c.loop-i.i < length c.args.judgements.now = omega (arith, c.loop-i-test.true, c.requires.checks) in
    let r = c.from_residual-in_err-put_bad_program-in-Bad in
    let p = err_from_is_err_and r.result r.ensures.1 in
    stops r.result p.0 _ _ (g.K.Sink.holds c.loop-i.sink) _ _ (g.K.Sink.faults c.loop-i.sink) _ c.loop-i.invariant.front
    (bad_program_text c.index-programs-i.result.name c.in-Bad.code c.in-Bad.statement) _
    (rest_from c.args.marks c.args.headings.now c.args.programs.now c.args.judgements.now c.args.replies.now c.args.effects.now (c.loop-i.i + 1) c.loop-i.next) p.1 c.loop-i.invariant.did c.in_err-put_bad_program-in-Bad.ensures
    (bad_parts c.args.marks c.args.headings.now c.args.programs.now c.args.judgements.now c.args.replies.now c.args.effects.now _ _ _ _ c.loop-i.i c.loop-i.next c.index-programs-i.result c.index-judgements-i.result c.loop-i-test.true c.index-programs-i.is inside c.index-judgements-i.is c.loop-i.invariant
    c.in-Bad.code c.in-Bad.statement (ap checked_of c.in-Bad.is))
