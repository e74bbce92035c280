use Rattle.std.proofs.Common.{◌≡◌, ◌∙◌, List, ap, sym, length, rules}
use Rattle.std.proofs.lemmas.List.{length-map}
use Rattle.std.specs.Arc.{arc_value}
use Rattle.lt_readers.specs.declared.reader.Reader.{Reader}
use Rattle.lt_runs.specs.declared.beside.asking.Asker.{Asker}
use Rattle.lt_runs.proofs.Asked.{all_to_ask, boards_of}
use Rattle.lt_runs.proofs.beside.asking.queries.Goals as goal

pub ask_all-requires-clause-ready : goal.ask_all-requires-clause-ready
ask_all-requires-clause-ready g c = λ lifetimes outlive.
    let made = c.in_ok-askers.ensures in
    let same : c.replace-readers.result.items ≡ c.args.readers.now.items = search rules in
    all_to_ask (arc_value c.args.asked.now) c.in_ok-askers.askers.items c.args.readers.now.items (made.readers ∙ same) made.numbers made.answers c.requires.ready

pub returns : goal.returns
returns g c =
    let made = c.in_ok-askers.ensures in
    let same : c.replace-readers.result.items ≡ c.args.readers.now.items = search rules in
    record {
      count = c.in_ok-all.ensures.count ∙ sym (length-map c.in_ok-askers.askers.items (λ (a : Asker). a.reader)) ∙ ap (λ (rs : List Reader). length rs) (made.readers ∙ same);
      each = λ board all. c.in_ok-all.ensures.asked board (boards_of board c.in_ok-askers.askers.items c.args.readers.now.items (made.readers ∙ same) all);
    }
