use Rattle.std.proofs.Common.{◌≡◌, ◌∷◌, map, drop, sym, ap, subst, ◌∙◌}
use Rattle.std.specs.Arc.{arc_value}
use Rattle.std.proofs.lemmas.List.{drop-map}
use Rattle.lt_model.specs.Marks.{Marks, AreMarks, and_then}
use Rattle.lt_delta.proofs.Merges.{rest_ascends}
use Rattle.lt_delta.proofs.Searched.{behind_tied, behind_apart}
use Rattle.lt_delta.proofs.merging.left_behind.Goals as goal

pub returns-then-is_taken-clause-ascend : goal.returns-then-is_taken-clause-ascend
returns-then-is_taken-clause-ascend c =
    let is : map arc_value c.split_at.result.1.now ≡ drop 1 (map arc_value c.args.marks.now) = ap (map arc_value) c.split_at.ensures.back ∙ sym (drop-map arc_value 1 c.args.marks.now) in
    subst (λ (t : Marks). AreMarks t) (sym is) (rest_ascends (map arc_value c.args.marks.now) 1 c.requires.ascend)

pub returns-then-is_taken-clause-left : goal.returns-then-is_taken-clause-left
returns-then-is_taken-clause-left c = λ later up.
    let is : map arc_value c.split_at.result.1.now ≡ drop 1 (map arc_value c.args.marks.now) = ap (map arc_value) c.split_at.ensures.back ∙ sym (drop-map arc_value 1 c.args.marks.now) in
    behind_tied (map arc_value c.args.marks.now) c.args.mark.now (sym c.is_taken.ensures.value ∙ c.if-is_taken.true) later up ∙ ap (λ (l : Marks). c.args.mark.now ∷ and_then l later) (sym is)

pub returns-clause-left : goal.returns-clause-left
returns-clause-left c = behind_apart (map arc_value c.args.marks.now) c.args.mark.now (sym c.is_taken.ensures.value ∙ c.if-is_taken.false) c.requires.none_before
