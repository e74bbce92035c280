use Rattle.std.proofs.lemmas.Result.{err_from_is_err_and}
use Rattle.lt_runs.proofs.ReplayEnded.{inside_going, rest_read, rest_taken, stopped_inside}
use Rattle.lt_runs.proofs.replay.take_rest.Goals as goal

pub returns-then-taken-clause-ok : goal.returns-then-taken-clause-ok
returns-then-taken-clause-ok g c = rest_taken c.args.taken.ended c.args.taken.count _ c.requires.within (c.requires.end c.if-taken.true)

pub returns-in_err-read_rest-clause-err : goal.returns-in_err-read_rest-clause-err
returns-in_err-read_rest-clause-err g c =
    let p = err_from_is_err_and c.from_residual.result c.from_residual.ensures.1 in
    stopped_inside c.from_residual.result p.0 _ p.1 p.2 _ _ _ _ _ _ (inside_going c.in_err-read_rest.field-0.0 c.args.taken.ended c.args.taken.count _ _ _ _ c.if-taken.false c.in_err-read_rest.ensures.err)

pub returns-clause-ok : goal.returns-clause-ok
returns-clause-ok g c = rest_read c.args.taken.ended c.args.taken.count _ _ c.if-taken.false c.in_ok-read_rest.ensures.ok
