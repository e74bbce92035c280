use Rattle.std.proofs.Common.{◌∙◌, ◌≡◌, ◌∷◌, List, ℕ, [], ap, sym, subst, false}
use Rattle.std.specs.Option.{option_map_or}
use Rattle.std.specs.Io.KnownBytes.{Appends}
use Rattle.std.specs.Prelude.{codes}
use Rattle.lt_model.specs.Report.{bad_text, line}
use Rattle.lt_hearing.proofs.Answering.{told_code, told_name}
use Rattle.lt_hearing.proofs.answers.declare.Goals as goal

pub returns-in_ok-put_bad_item-in-Some-clause-text : goal.returns-in_ok-put_bad_item-in-Some-clause-text
returns-in_ok-put_bad_item-in-Some-clause-text g c = λ m s.
    let said = c.in_ok-code.ensures.code false m s ∙ ap (λ o. option_map_or bad_text o []) c.in-Some.is in
    subst (λ (t : List ℕ). Appends (g.K.Sink.holds c.args.sink.now) (g.K.Sink.holds c.put_bad_item.new.sink) t) (sym (told_code c.args.name c.args.kinds c.args.keys _ c.in-Some.code said)) c.in_ok-put_bad_item-in-Some.ensures.ok

pub returns-in_ok-put_line-in-None-clause-text : goal.returns-in_ok-put_line-in-None-clause-text
returns-in_ok-put_line-in-None-clause-text g c = λ m s.
    let said = c.in_ok-code.ensures.code false m s ∙ ap (λ o. option_map_or bad_text o []) c.in-None.is in
    let same : c.as_bytes-in-None.result.now ≡ c.args.name = c.as_bytes-in-None.ensures.bytes ∙ c.from_bytes-told.ensures ∙ c.as_bytes.ensures.bytes in
    let written = subst (λ (n : List ℕ). Appends (g.K.Sink.holds c.args.sink.now) (g.K.Sink.holds c.put_line.new.sink) (line (codes "relation" ∷ n ∷ []))) same c.in_ok-put_line-in-None.ensures.ok in
    subst (λ (t : List ℕ). Appends (g.K.Sink.holds c.args.sink.now) (g.K.Sink.holds c.put_line.new.sink) t) (sym (told_name c.args.name c.args.kinds c.args.keys _ said)) written
