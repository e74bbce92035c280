use Rattle.std.proofs.Common.{◌≡◌, ◌∙◌, map, sym, ap, false, true}
use Rattle.std.specs.Arc.{arc_value}
use Rattle.lt_delta.specs.Finding.{IsPlaceFor, tied_at}
use Rattle.lt_delta.proofs.Puts.{owner_put, owner_set}
use Rattle.lt_delta.proofs.adding.put.Goals as goal

pub returns-then-is_taken-clause-ok : goal.returns-then-is_taken-clause-ok
returns-then-is_taken-clause-ok c =
    let place : IsPlaceFor (map arc_value c.args.marks.now.items) (arc_value c.args.mark).relation (arc_value c.args.mark).row c.place_among-place.result = rw (← c.deref.ensures.value, ← c.deref-2.ensures) c.place_among-place.ensures in
    let tied : tied_at (map arc_value c.args.marks.now.items) c.place_among-place.result (arc_value c.args.mark) ≡ true = rw (← c.deref-3.ensures.value, ← c.deref-4.ensures) (sym c.is_taken.ensures.value ∙ c.if-is_taken.true) in
    owner_set arc_value c.args.marks.now.items c.args.mark c.place_among-place.result place tied

pub returns-in_ok-insert-clause-ok : goal.returns-in_ok-insert-clause-ok
returns-in_ok-insert-clause-ok c =
    let place : IsPlaceFor (map arc_value c.args.marks.now.items) (arc_value c.args.mark).relation (arc_value c.args.mark).row c.place_among-place.result = rw (← c.deref.ensures.value, ← c.deref-2.ensures) c.place_among-place.ensures in
    let apart : tied_at (map arc_value c.args.marks.now.items) c.place_among-place.result (arc_value c.args.mark) ≡ false = rw (← c.deref-3.ensures.value, ← c.deref-4.ensures) (sym c.is_taken.ensures.value ∙ c.if-is_taken.false) in
    ap (map arc_value) c.in_ok-insert.ensures.items ∙ owner_put arc_value c.args.marks.now.items c.args.mark c.place_among-place.result place apart
