use Rattle.std.proofs.Common.{arith}
use Rattle.std.proofs.lemmas.Result.{err_from_is_err_and}
use Rattle.lt_runs.proofs.ReplayEnded.{kept_front, kept_then, kept_told, none_inside, on_err, rest_inside, refusing_unread, stopped_refusing}
use Rattle.lt_runs.proofs.replay.refuse.Goals as goal

pub returns-in_err-pass_on-clause-err : goal.returns-in_err-pass_on-clause-err
returns-in_err-pass_on-clause-err g c =
    let p = err_from_is_err_and c.from_residual.result c.from_residual.ensures.1 in
    stopped_refusing c.from_residual.result p.0 _ p.1 p.2 _ _ _ _ _ _ _ _ (c.in_err-pass_on.ensures.cause.failed, none_inside c.args.taken.ended c.args.taken.count _ c.requires.within)

pub returns-in_err-take_rest-clause-err : goal.returns-in_err-take_rest-clause-err
returns-in_err-take_rest-clause-err g c =
    let p = err_from_is_err_and c.from_residual-in_err-take_rest.result c.from_residual-in_err-take_rest.ensures.1 in
    stopped_refusing c.from_residual-in_err-take_rest.result p.0 _ p.1 p.2 _ _ _ _ _ _ _ _ (refusing_unread c.in_err-take_rest.field-0.0 c.args.taken.ended c.args.taken.count _ _ _ _ _ _ c.in_err-take_rest.ensures.err)

pub returns-in_err-put_bad_trace-clause-err : goal.returns-in_err-put_bad_trace-clause-err
returns-in_err-put_bad_trace-clause-err g c =
    let p = err_from_is_err_and c.from_residual-in_err-put_bad_trace.result c.from_residual-in_err-put_bad_trace.ensures.1 in
    stopped_refusing c.from_residual-in_err-put_bad_trace.result p.0 _ p.1 p.2 _ _ _ _ _ _ _ _
    (omega (arith, c.pass_on.ensures.cause.later, c.in_err-put_bad_trace.ensures.cause.failed), rest_inside c.args.taken.ended c.args.taken.count _ _ c.in_ok-take_rest.ensures.ok)

pub returns-clause-told : goal.returns-clause-told
returns-clause-told g c = kept_then _ _ _ _ c.pass_on.ensures.bytes c.in_ok-put_bad_trace.ensures.ok

pub returns-in_err-pass_on-clause-part : goal.returns-in_err-pass_on-clause-part
returns-in_err-pass_on-clause-part g c = on_err c.from_residual.result (kept_front _ _ _ c.in_err-pass_on.ensures.bytes)

pub returns-in_err-take_rest-clause-part : goal.returns-in_err-take_rest-clause-part
returns-in_err-take_rest-clause-part g c = on_err c.from_residual-in_err-take_rest.result (kept_front _ _ _ c.pass_on.ensures.bytes)

pub returns-in_err-put_bad_trace-clause-part : goal.returns-in_err-put_bad_trace-clause-part
returns-in_err-put_bad_trace-clause-part g c = on_err c.from_residual-in_err-put_bad_trace.result (kept_told _ _ _ _ c.pass_on.ensures.bytes c.in_err-put_bad_trace.ensures.err)
