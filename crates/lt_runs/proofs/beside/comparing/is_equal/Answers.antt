use Rattle.std.proofs.Common.{◌≡◌, ◌∙◌, sym, ap, rules, Some, None, slice_get}
use Rattle.std.specs.Arc.{arc_value}
use Rattle.lt_face.specs.State.{State}
use Rattle.lt_model.specs.Run.{run}
use Rattle.lt_base.specs.Tables.{state_of}
use Rattle.lt_runs.proofs.Compared.{none_right, right_state}
use Rattle.lt_runs.proofs.Posted.{mapped_get}
use Rattle.lt_runs.proofs.beside.comparing.is_equal.Goals as goal

pub returns-in-None : goal.returns-in-None
returns-in-None g c = (λ never. absurd (cc), λ right. let none : slice_get c.args.versions.now c.args.number ≡ None = search rules in absurd (none_right _ _ _ right none))

pub answered-requires-clause-fits : goal.answered-requires-clause-fits
answered-requires-clause-fits g c = λ lifetimes outlive.
    let there : slice_get c.args.versions.now c.args.number ≡ Some c.in-Some.db.now = search rules in
    c.requires.fits (state_of c.in-Some.db.now) (mapped_get state_of c.args.versions.now c.args.number c.in-Some.db.now there)

pub returns-in_ok-own-in-Some : goal.returns-in_ok-own-in-Some
returns-in_ok-own-in-Some g c =
    let there : slice_get c.args.versions.now c.args.number ≡ Some c.in-Some.db.now = search rules in
    let listed = mapped_get state_of c.args.versions.now c.args.number c.in-Some.db.now there in (
      λ h. record { state = state_of c.in-Some.db.now; there = listed; fits = c.requires.fits (state_of c.in-Some.db.now) listed; reply = c.same_reply.ensures.0 h ∙ c.in_ok-own-in-Some.ensures.reply },
      λ right.
          let same = right_state _ _ _ c.in-Some.db.now right there in
          c.same_reply.ensures.1 (right.reply ∙ ap (λ (s : State). (run (arc_value c.args.asked.now) s).0) same ∙ sym c.in_ok-own-in-Some.ensures.reply),
    )
