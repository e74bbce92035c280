use Rattle.std.proofs.Common.{◌≡◌, ◌∙◌, [], ◌∷◌, ◌++◌, List, ℕ, rules, refl, sym, ap, append_assoc}
use Rattle.std.specs.Prelude.{ℤ, codes, decimal, FitsSigned}
use Rattle.std.specs.Fmt.{signed_decimal}
use Rattle.std.specs.Int.{cast_signed, cast_unsigned, w128}
use Rattle.std.proofs.lemmas.Int.{to_z-of_z}
use Rattle.std.proofs.lemmas.Result.{err_from_is_err_and}
use Rattle.lt_model.specs.Report.{line}
use Rattle.lt_report.proofs.Going.{did_more, did_of, ends, stops, stops_first}
use Rattle.lt_gen.proofs.text.put_sums.Goals as goal

pub returns-in_err-put_number : goal.returns-in_err-put_number
returns-in_err-put_number g c =
    let p = err_from_is_err_and c.from_residual.result c.from_residual.ensures.1 in
    let x = line (codes "printed" ∷ decimal c.args.summary.now.printed ∷ []) in
    let y = line (codes "left" ∷ signed_decimal c.args.summary.now.left ∷ []) in
    let z = line (codes "sold" ∷ signed_decimal c.args.summary.now.sold ∷ []) in
    stops_first c.from_residual.result p.0 _ _ _ _ _ x _ (y ++ z) p.1 c.in_err-put_number.ensures (append_assoc x y z)

pub returns-in_err-put_number-2 : goal.returns-in_err-put_number-2
returns-in_err-put_number-2 g c =
    let p = err_from_is_err_and c.from_residual-in_err-put_number-2.result c.from_residual-in_err-put_number-2.ensures.1 in
    let left = c.args.summary.now.left in
    let fits : FitsSigned w128 left = search rules in
    let same : cast_signed w128 (cast_unsigned w128 left) ≡ left = to_z-of_z w128 left fits in
    let x = line (codes "printed" ∷ decimal c.args.summary.now.printed ∷ []) in
    let y : ℤ → List ℕ = λ n. line (codes "left" ∷ signed_decimal n ∷ []) in
    let z = line (codes "sold" ∷ signed_decimal c.args.summary.now.sold ∷ []) in
    stops c.from_residual-in_err-put_number-2.result p.0 _ _ (g.K.Sink.holds c.put_number.new.sink) _ _ (g.K.Sink.faults c.put_number.new.sink) _ x (y (cast_signed w128 (cast_unsigned w128 left))) _ z p.1 (did_of _ _ _ _ _ _ x c.in_ok-put_number.ensures) c.in_err-put_number-2.ensures
    (ap (λ (n : ℤ). (x ++ y n) ++ z) (sym same))

pub returns : goal.returns
returns g c =
    let left = c.args.summary.now.left in
    let sold = c.args.summary.now.sold in
    let left_fits : FitsSigned w128 left = search rules in
    let sold_fits : FitsSigned w128 sold = search rules in
    let same_left : cast_signed w128 (cast_unsigned w128 left) ≡ left = to_z-of_z w128 left left_fits in
    let same_sold : cast_signed w128 (cast_unsigned w128 sold) ≡ sold = to_z-of_z w128 sold sold_fits in
    let x = line (codes "printed" ∷ decimal c.args.summary.now.printed ∷ []) in
    let y : ℤ → List ℕ = λ n. line (codes "left" ∷ signed_decimal n ∷ []) in
    let z : ℤ → List ℕ = λ n. line (codes "sold" ∷ signed_decimal n ∷ []) in
    let yy = y (cast_signed w128 (cast_unsigned w128 left)) in
    let both = did_more _ (g.K.Sink.holds c.put_number.new.sink) (g.K.Sink.holds c.put_number-2.new.sink) _ (g.K.Sink.faults c.put_number.new.sink) (g.K.Sink.faults c.put_number-2.new.sink) x yy (x ++ yy)
    (did_of _ _ _ _ _ _ x c.in_ok-put_number.ensures) c.in_ok-put_number-2.ensures.ok c.in_ok-put_number-2.ensures.cause.later refl in
    ends c.put_number-3.result _ (g.K.Sink.holds c.put_number-2.new.sink) _ _ (g.K.Sink.faults c.put_number-2.new.sink) _ (x ++ yy) (z (cast_signed w128 (cast_unsigned w128 sold))) _ both c.put_number-3.ensures
    (ap (λ (n : ℤ). (x ++ y n) ++ z sold) (sym same_left) ∙ ap (λ (n : ℤ). (x ++ yy) ++ z n) (sym same_sold))
