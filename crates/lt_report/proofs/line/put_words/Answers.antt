use Rattle.std.proofs.Common.{◌<◌, ◌+◌, List, ℕ, [], drop, length, take, arith}
use Rattle.std.specs.Borrow.{Bor}
use Rattle.std.proofs.lemmas.List.{length-map, get_or-map}
use Rattle.std.proofs.lemmas.Result.{err_from_is_err_and}
use Rattle.lt_report.specs.Texts.{joined, texts}
use Rattle.lt_report.proofs.Going.{did_more, stops}
use Rattle.lt_report.proofs.Joining.{word-at, word-more}
use Rattle.lt_report.proofs.line.put_words.Goals as goal

pub returns-in_err-put_word : goal.returns-in_err-put_word
returns-in_err-put_word g c =
    let words = texts c.args.words.now in
    let within : c.words.i < length words = rw (length-map c.args.words.now (λ (w : Bor (List ℕ)). w.now)) c.words-test.true in
    let p = err_from_is_err_and c.from_residual.result c.from_residual.ensures.1 in
    stops c.from_residual.result p.0 _ _ (g.K.Sink.holds c.words.sink) _ _ (g.K.Sink.faults c.words.sink) _ (joined 0 (take c.words.i words)) _ _ (joined (c.words.i + 1) (drop (c.words.i + 1) words)) p.1 c.words.invariant c.in_err-put_word.ensures
    (word-at 0 words c.words.i c.words.i _ within (omega arith) (get_or-map (λ (w : Bor (List ℕ)). w.now) c.args.words.now c.words.i _ [] c.words-test.true))

pub words-preserved : goal.words-preserved
words-preserved g c =
    let words = texts c.args.words.now in
    let within : c.words.i < length words = rw (length-map c.args.words.now (λ (w : Bor (List ℕ)). w.now)) c.words-test.true in
    did_more _ (g.K.Sink.holds c.words.sink) _ _ (g.K.Sink.faults c.words.sink) _ (joined 0 (take c.words.i words)) _ _ c.words.invariant c.in_ok-put_word.ensures.ok c.in_ok-put_word.ensures.cause.later
    (word-more 0 words c.words.i c.words.i _ within (omega arith) (get_or-map (λ (w : Bor (List ℕ)). w.now) c.args.words.now c.words.i _ [] c.words-test.true))
