use Rattle.std.proofs.Common.{[], ◌∷◌, ◌++◌, refl, append_assoc}
use Rattle.std.specs.Prelude.{codes, decimal}
use Rattle.std.proofs.lemmas.Result.{err_from_is_err_and}
use Rattle.lt_model.specs.Report.{line}
use Rattle.lt_report.proofs.Going.{did_more, did_of, ends, stops, stops_first}
use Rattle.lt_gen.proofs.text.put_programs.Goals as goal

pub returns-in_err-put_number : goal.returns-in_err-put_number
returns-in_err-put_number g c =
    let p = err_from_is_err_and c.from_residual.result c.from_residual.ensures.1 in
    let x = line (codes "programs" ∷ decimal c.args.summary.now.programs ∷ []) in
    let y = line (codes "done" ∷ decimal c.args.summary.now.done ∷ []) in
    let z = line (codes "refused" ∷ decimal c.args.summary.now.refused ∷ []) in
    stops_first c.from_residual.result p.0 _ _ _ _ _ x _ (y ++ z) p.1 c.in_err-put_number.ensures (append_assoc x y z)

pub returns-in_err-put_number-2 : goal.returns-in_err-put_number-2
returns-in_err-put_number-2 g c =
    let p = err_from_is_err_and c.from_residual-in_err-put_number-2.result c.from_residual-in_err-put_number-2.ensures.1 in
    let x = line (codes "programs" ∷ decimal c.args.summary.now.programs ∷ []) in
    let y = line (codes "done" ∷ decimal c.args.summary.now.done ∷ []) in
    let z = line (codes "refused" ∷ decimal c.args.summary.now.refused ∷ []) in
    stops c.from_residual-in_err-put_number-2.result p.0 _ _ (g.K.Sink.holds c.put_number.new.sink) _ _ (g.K.Sink.faults c.put_number.new.sink) _ x y _ z p.1 (did_of _ _ _ _ _ _ x c.in_ok-put_number.ensures) c.in_err-put_number-2.ensures refl

pub returns : goal.returns
returns g c =
    let x = line (codes "programs" ∷ decimal c.args.summary.now.programs ∷ []) in
    let y = line (codes "done" ∷ decimal c.args.summary.now.done ∷ []) in
    let z = line (codes "refused" ∷ decimal c.args.summary.now.refused ∷ []) in
    let both = did_more _ (g.K.Sink.holds c.put_number.new.sink) (g.K.Sink.holds c.put_number-2.new.sink) _ (g.K.Sink.faults c.put_number.new.sink) (g.K.Sink.faults c.put_number-2.new.sink) x y (x ++ y)
    (did_of _ _ _ _ _ _ x c.in_ok-put_number.ensures) c.in_ok-put_number-2.ensures.ok c.in_ok-put_number-2.ensures.cause.later refl in
    ends c.put_number-3.result _ (g.K.Sink.holds c.put_number-2.new.sink) _ _ (g.K.Sink.faults c.put_number-2.new.sink) _ (x ++ y) z _ both c.put_number-3.ensures refl
