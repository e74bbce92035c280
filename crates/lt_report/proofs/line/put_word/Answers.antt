use Rattle.std.proofs.Common.{◌<◌, [], ◌∷◌, arith}
use Rattle.std.proofs.lemmas.Result.{err_from_is_err_and}
use Rattle.lt_report.proofs.Going.{did_of, ends, stops_first}
use Rattle.lt_report.proofs.Joining.{spaced-later}
use Rattle.lt_report.proofs.line.put_word.Goals as goal

pub returns-in_err-write_all : goal.returns-in_err-write_all
returns-in_err-write_all g c =
    let later : 0 < c.args.place = omega (arith, c.if-place-eq0.false) in
    let p = err_from_is_err_and c.from_residual.result c.from_residual.ensures.1 in
    stops_first c.from_residual.result p.0 _ _ _ _ _ (32 ∷ []) _ c.args.word.now p.1 c.in_err-write_all.ensures (spaced-later c.args.place c.args.word.now later)

pub returns : goal.returns
returns g c =
    let later : 0 < c.args.place = omega (arith, c.if-place-eq0.false) in
    ends c.write_all-3.result _ (g.K.Sink.holds c.write_all-2.new.sink) _ _ (g.K.Sink.faults c.write_all-2.new.sink) _ (32 ∷ []) c.args.word.now _ (did_of _ _ _ _ _ _ (32 ∷ []) c.in_ok-write_all.ensures) c.write_all-3.ensures (spaced-later c.args.place c.args.word.now later)
