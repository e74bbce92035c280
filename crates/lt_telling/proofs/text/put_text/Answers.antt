use Rattle.std.proofs.Common.{◌∙◌, ◌++◌, List, ℕ, take, sym, ap, append_assoc}
use Rattle.std.proofs.KnownBytes.{Appends-trans}
use Rattle.std.proofs.lemmas.List.{take-append-drop}
use Rattle.lt_telling.proofs.text.put_text.Goals as goal

pub rest-preserved : goal.rest-preserved
rest-preserved g c =
    let before = c.rest.invariant in
    let taken : List ℕ = take c.in_ok-count.count c.rest.rest.now in
    record {
      front = before.front ++ taken;
      parts = before.parts ∙ ap (λ (s : List ℕ). before.front ++ s) (sym (take-append-drop c.in_ok-count.count c.rest.rest.now) ∙ ap (λ (s : List ℕ). taken ++ s) (sym c.split_at.ensures.back)) ∙ sym (append_assoc before.front taken c.split_at.result.1.now);
      written = Appends-trans _ (g.K.Sink.holds c.rest.sink) _ before.front taken before.written c.in_ok-count.ensures.bytes;
    }
