use Rattle.std.proofs.Common.{[], arith}
use Rattle.std.proofs.lemmas.Result.{err_from_is_err_and}
use Rattle.std.proofs.KnownBytes.{Consumes-nil}
use Rattle.lt_runs.proofs.Ends.{going_unread, stopped_going}
use Rattle.lt_runs.proofs.script.go_on.Goals as goal

pub returns-in_err-pass_on-clause-err : goal.returns-in_err-pass_on-clause-err
returns-in_err-pass_on-clause-err g c =
    let p = err_from_is_err_and c.from_residual.result c.from_residual.ensures.1 in
    stopped_going c.from_residual.result p.0 _ p.1 p.2 _ _ _ _ _ _ _ (c.in_err-pass_on.ensures.cause.failed, ([], Consumes-nil _, omega arith))

pub returns-in_err-taken-clause-err : goal.returns-in_err-taken-clause-err
returns-in_err-taken-clause-err g c =
    let p = err_from_is_err_and c.from_residual-in_err-taken.result c.from_residual-in_err-taken.ensures.1 in
    stopped_going c.from_residual-in_err-taken.result p.0 _ p.1 p.2 _ _ _ _ _ _ _ (going_unread c.in_err-taken.field-0.0 _ _ _ _ _ _ _ c.in_err-taken.ensures.err)
