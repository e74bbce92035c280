use Rattle.std.proofs.Common.{◌<◌, ◌∙◌, [], ◌∷◌, map, length, ap, arith}
use Rattle.std.specs.Arc.{arc_value}
use Rattle.lt_model.specs.declared.mark.Mark.{Mark}
use Rattle.lt_model.specs.Laws.{mark_on}
use Rattle.std.proofs.lemmas.List.{length-map}
use Rattle.lt_delta.proofs.Finds.{sign_there, sign_nowhere}
use Rattle.lt_delta.proofs.Owners.{owned_at}
use Rattle.lt_delta.proofs.finding.sign_on.Goals as goal

pub returns-then-place-marks : goal.returns-then-place-marks
returns-then-place-marks c =
    let long = length-map c.args.marks.now arc_value in
    let lt = c.if-place-marks.true in
    sign_nowhere (map arc_value c.args.marks.now) c.args.relation c.args.row.now c.place_for-place.result c.place_for-place.ensures (omega (arith, long, lt))

pub returns : goal.returns
returns c =
    let long = length-map c.args.marks.now arc_value in
    let lt : c.place_for-place.result < length c.args.marks.now = omega arith in
    let within : c.place_for-place.result < length (map arc_value c.args.marks.now) = omega (arith, long, lt) in
    let there = owned_at arc_value c.args.marks.now c.place_for-place.result c.index-marks-place.result (arc_value c.index-marks-place.result) lt c.index-marks-place.is in
    c.sign_if_on.ensures ∙ ap (λ (m : Mark). mark_on (m ∷ []) c.args.relation c.args.row.now) c.deref.ensures
    ∙ sign_there (map arc_value c.args.marks.now) c.args.relation c.args.row.now c.place_for-place.result (arc_value c.index-marks-place.result) c.requires c.place_for-place.ensures within there
