use Rattle.std.proofs.Common.{◌++◌, [], ◌∷◌, ℕ, List, ap}
use Rattle.std.proofs.lemmas.Result.{err_from_is_err_and}
use Rattle.lt_report.specs.Texts.{joined, texts}
use Rattle.lt_report.proofs.Going.{did_of, ends, stops_first}
use Rattle.lt_report.proofs.Joining.{join_joined}
use Rattle.lt_report.proofs.line.put_line.Goals as goal

pub returns-in_err-put_words : goal.returns-in_err-put_words
returns-in_err-put_words g c =
    let p = err_from_is_err_and c.from_residual.result c.from_residual.ensures.1 in
    stops_first c.from_residual.result p.0 _ _ _ _ _ (joined 0 (texts c.args.words.now)) _ (10 ∷ []) p.1 c.in_err-put_words.ensures (ap (λ (s : List ℕ). s ++ 10 ∷ []) (join_joined (texts c.args.words.now)))

pub returns : goal.returns
returns g c =
    ends c.write_all.result _ (g.K.Sink.holds c.put_words.new.sink) _ _ (g.K.Sink.faults c.put_words.new.sink) _ (joined 0 (texts c.args.words.now)) (10 ∷ []) _ (did_of _ _ _ _ _ _ (joined 0 (texts c.args.words.now)) c.in_ok-put_words.ensures) c.write_all.ensures (ap (λ (s : List ℕ). s ++ 10 ∷ []) (join_joined (texts c.args.words.now)))
