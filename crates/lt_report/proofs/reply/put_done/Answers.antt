use Rattle.std.proofs.Common.{[], ◌∷◌, refl}
use Rattle.std.specs.Prelude.{codes, flat_map}
use Rattle.std.proofs.lemmas.Result.{err_from_is_err_and}
use Rattle.lt_model.specs.Report.{line as line_of, print_text}
use Rattle.lt_report.proofs.Going.{did_of, ends, stops_first}
use Rattle.lt_report.proofs.reply.put_done.Goals as goal

pub returns-in_err-put_done_line : goal.returns-in_err-put_done_line
returns-in_err-put_done_line g c =
    let p = err_from_is_err_and c.from_residual.result c.from_residual.ensures.1 in
    stops_first c.from_residual.result p.0 _ _ _ _ _ (line_of (c.args.name.now ∷ codes "done" ∷ [])) _ (flat_map print_text c.args.prints.now) p.1 c.in_err-put_done_line.ensures refl

pub returns : goal.returns
returns g c =
    let first = line_of (c.args.name.now ∷ codes "done" ∷ []) in
    ends c.put_prints.result _ (g.K.Sink.holds c.put_done_line.new.sink) _ _ (g.K.Sink.faults c.put_done_line.new.sink) _ first (flat_map print_text c.args.prints.now) _ (did_of _ _ _ _ _ _ first c.in_ok-put_done_line.ensures) c.put_prints.ensures refl
