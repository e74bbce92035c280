use Rattle.std.proofs.Common.{◌∙◌, ◌<◌, map, length, sym, ap, arith}
use Rattle.std.specs.Arc.{arc_value}
use Rattle.std.specs.Ordering.{is_eq}
use Rattle.std.proofs.lemmas.List.{length-map}
use Rattle.lt_model.specs.declared.mark.Mark.{Mark}
use Rattle.lt_model.specs.Marks.{mark_cmp}
use Rattle.lt_delta.proofs.Owners.{owned_at, owned_within}
use Rattle.lt_delta.proofs.Puts.{tied_past, tied_there}
use Rattle.lt_delta.proofs.adding.is_taken.Goals as goal

pub returns-then-place-marks-clause-value : goal.returns-then-place-marks-clause-value
returns-then-place-marks-clause-value c =
    let long = length-map c.args.marks.now arc_value in
    let le = c.if-place-marks.true in
    sym (tied_past (map arc_value c.args.marks.now) c.args.place c.args.mark.now (omega (arith, long, le)))

pub returns-clause-value : goal.returns-clause-value
returns-clause-value c =
    let lt : c.args.place < length c.args.marks.now = omega (arith, c.if-place-marks.false) in
    c.is_eq.ensures ∙ ap is_eq (c.compare.ensures ∙ ap (λ (m : Mark). mark_cmp m c.args.mark.now) c.deref.ensures)
    ∙ sym (tied_there (map arc_value c.args.marks.now) c.args.place c.args.mark.now (arc_value c.index-marks-place.result) (owned_within arc_value c.args.marks.now c.args.place lt)
    (owned_at arc_value c.args.marks.now c.args.place c.index-marks-place.result (arc_value c.index-marks-place.result) lt c.index-marks-place.is))
