use Rattle.std.proofs.Common.{◌≡◌, length, sym, ap, ◌∙◌, subst}
use Rattle.std.specs.Arc.{arc_value}
use Rattle.lt_model.specs.Fits.{FitMarks}
use Rattle.lt_base.specs.Tables.{state_of}
use Rattle.lt_program.specs.Run.{AreReplied}
use Rattle.lt_program.specs.Sound.{tally_of}
use Rattle.lt_program.specs.Tally.{TallyView, IsRun, has_ended}
use Rattle.lt_program.proofs.Sounds.{sound_fits, sound_replied}
use Rattle.lt_program.proofs.TallyGrows.{over_is, ended_reply, ended_marks}
use Rattle.lt_program.proofs.tally.Tally.ended.Goals as goal
use Rattle.lt_program.proofs.tally.Tally.ended.Goals.{After-is_over}

over : (c : After-is_over) → c.is_over.result ≡ has_ended c.args.self.now
over c = subst (λ (t : TallyView). c.is_over.result ≡ has_ended t) c.self.view_is (over_is (tally_of (arc_value c.self.inside.prog) c.self.inside.base c.self.inside.course) (length c.statements.result.now) c.is_over.result (ap length (c.statements.ensures ∙ c.deref.ensures)) c.is_over.ensures)

pub returns-clause-value : goal.returns-clause-value
returns-clause-value c = over (goal.at.returns-clause-value c).After-is_over

pub returns-clause-reply : goal.returns-clause-reply
returns-clause-reply c = λ h. ended_reply c.args.self.now (subst IsRun c.self.view_is c.self.invariant.run) (sym (over (goal.at.returns-clause-reply c).After-is_over) ∙ h)

pub returns-clause-marks : goal.returns-clause-marks
returns-clause-marks c = λ h. ended_marks c.args.self.now (subst IsRun c.self.view_is c.self.invariant.run) (sym (over (goal.at.returns-clause-marks c).After-is_over) ∙ h)

pub returns-clause-fits : goal.returns-clause-fits
returns-clause-fits c = subst (λ (t : TallyView). FitMarks (state_of t.base) t.marks) c.self.view_is (sound_fits _ _ _ c.self.invariant)

pub returns-clause-printed : goal.returns-clause-printed
returns-clause-printed c = subst (λ (t : TallyView). AreReplied t.reply) c.self.view_is (sound_replied _ _ _ c.self.invariant)
