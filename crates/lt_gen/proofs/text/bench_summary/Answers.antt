use Rattle.std.proofs.Common.{◌++◌, refl, append_assoc}
use Rattle.std.proofs.lemmas.Result.{err_from_is_err_and}
use Rattle.lt_report.proofs.Going.{did_more, did_of, ends, stops, stops_first}
use Rattle.lt_gen.specs.Summaries.{counts_text, reads_text, sums_text}
use Rattle.lt_gen.proofs.text.bench_summary.Goals as goal

pub returns-in_err-put_programs : goal.returns-in_err-put_programs
returns-in_err-put_programs g c =
    let p = err_from_is_err_and c.from_residual.result c.from_residual.ensures.1 in
    let x = counts_text c.args.summary.now in
    let y = sums_text c.args.summary.now in
    let z = reads_text c.args.summary.now in
    stops_first c.from_residual.result p.0 _ _ _ _ _ x _ (y ++ z) p.1 c.in_err-put_programs.ensures (append_assoc x y z)

pub returns-in_err-put_sums : goal.returns-in_err-put_sums
returns-in_err-put_sums g c =
    let p = err_from_is_err_and c.from_residual-in_err-put_sums.result c.from_residual-in_err-put_sums.ensures.1 in
    let x = counts_text c.args.summary.now in
    let y = sums_text c.args.summary.now in
    let z = reads_text c.args.summary.now in
    stops c.from_residual-in_err-put_sums.result p.0 _ _ (g.K.Sink.holds c.put_programs.new.sink) _ _ (g.K.Sink.faults c.put_programs.new.sink) _ x y _ z p.1 (did_of _ _ _ _ _ _ x c.in_ok-put_programs.ensures) c.in_err-put_sums.ensures refl

pub returns : goal.returns
returns g c =
    let x = counts_text c.args.summary.now in
    let y = sums_text c.args.summary.now in
    let z = reads_text c.args.summary.now in
    let both = did_more _ (g.K.Sink.holds c.put_programs.new.sink) (g.K.Sink.holds c.put_sums.new.sink) _ (g.K.Sink.faults c.put_programs.new.sink) (g.K.Sink.faults c.put_sums.new.sink) x y (x ++ y)
    (did_of _ _ _ _ _ _ x c.in_ok-put_programs.ensures) c.in_ok-put_sums.ensures.ok c.in_ok-put_sums.ensures.cause.later refl in
    ends c.put_reads.result _ (g.K.Sink.holds c.put_sums.new.sink) _ _ (g.K.Sink.faults c.put_sums.new.sink) _ (x ++ y) z _ both c.put_reads.ensures refl
