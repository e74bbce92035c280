use Rattle.std.proofs.Common.{refl}
use Rattle.std.specs.Prelude.{codes}
use Rattle.std.proofs.lemmas.Result.{err_from_is_err_and}
use Rattle.lt_report.proofs.Going.{did_of, ends, stops_first}
use Rattle.lt_gen.specs.Summaries.{count_text}
use Rattle.lt_gen.proofs.text.put_reads.Goals as goal

pub returns-in_err-put_if_there : goal.returns-in_err-put_if_there
returns-in_err-put_if_there g c =
    let p = err_from_is_err_and c.from_residual.result c.from_residual.ensures.1 in
    stops_first c.from_residual.result p.0 _ _ _ _ _ (count_text (codes "reads") c.args.summary.now.reads) _ (count_text (codes "equal") c.args.summary.now.equal) p.1 c.in_err-put_if_there.ensures refl

pub returns : goal.returns
returns g c =
    let first = count_text (codes "reads") c.args.summary.now.reads in
    let second = count_text (codes "equal") c.args.summary.now.equal in
    ends c.put_if_there-2.result _ (g.K.Sink.holds c.put_if_there.new.sink) _ _ (g.K.Sink.faults c.put_if_there.new.sink) _ first second _ (did_of _ _ _ _ _ _ first c.in_ok-put_if_there.ensures) c.put_if_there-2.ensures refl
