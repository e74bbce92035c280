use Rattle.std.proofs.Common.{◌∙◌, ap, sym, subst}
use Rattle.std.specs.Arc.{arc_value}
use Rattle.lt_program.specs.declared.part.Found.{Found}
use Rattle.lt_program.specs.Kept.{IsOrdered, marks_past}
use Rattle.lt_program.proofs.Keeps.{ordered_at, after_is, after_fits}
use Rattle.lt_program.proofs.tally.Tally.marks_after.Goals as goal

pub marks_past-requires : goal.marks_past-requires
marks_past-requires c =
    subst IsOrdered (sym c.outcome.ensures)
    (ordered_at (arc_value c.self.inside.prog) c.self.inside.base c.self.inside.course c.args.self.now c.self.view_is c.self.invariant
    c.args.place c.statements.result.now c.index-statements-place.result c.as_slice.result.now c.index-as_slice-place.result c.requires.there (c.statements.ensures ∙ c.deref.ensures) c.index-statements-place.is c.as_slice.ensures c.index-as_slice-place.is c.part.result.now c.part.ensures)

pub returns-clause-value : goal.returns-clause-value
returns-clause-value c =
    after_is (arc_value c.self.inside.prog) c.self.inside.base c.self.inside.course c.args.self.now c.self.view_is c.self.invariant
    c.args.place c.statements.result.now c.index-statements-place.result c.as_slice.result.now c.index-as_slice-place.result c.requires.there (c.statements.ensures ∙ c.deref.ensures) c.index-statements-place.is c.as_slice.ensures c.index-as_slice-place.is c.part.result.now c.args.before.now c.in_ok-marks.marks c.part.ensures c.requires.before
    (c.in_ok-marks.ensures ∙ ap (λ (f : Found). marks_past c.index-statements-place.result f c.args.before.now) c.outcome.ensures)

pub returns-clause-fits : goal.returns-clause-fits
returns-clause-fits c =
    after_fits (arc_value c.self.inside.prog) c.self.inside.base c.self.inside.course c.args.self.now c.self.view_is c.self.invariant
    c.args.place c.statements.result.now c.index-statements-place.result c.as_slice.result.now c.index-as_slice-place.result c.requires.there (c.statements.ensures ∙ c.deref.ensures) c.index-statements-place.is c.as_slice.ensures c.index-as_slice-place.is c.part.result.now c.args.before.now c.in_ok-marks.marks c.part.ensures c.requires.before
    (c.in_ok-marks.ensures ∙ ap (λ (f : Found). marks_past c.index-statements-place.result f c.args.before.now) c.outcome.ensures)
