use Rattle.std.proofs.Common.{◌≡◌, true, sym, subst, inl, inr}
use Rattle.lt_model.specs.Marks.{Marks}
use Rattle.lt_restate.specs.Walked.{is_named}
use Rattle.lt_restate.proofs.Named.{all_named}
use Rattle.lt_restate.proofs.restating.restate.Goals as goal

pub restate_marks-requires-clause-marked : goal.restate_marks-requires-clause-marked
restate_marks-requires-clause-marked g c = λ relation row.
    elim (c.requires.named relation row) [
      | inl agree ↦ inl agree
      | inr there ↦ inr (inl (subst (λ (m : Marks). is_named m relation row ≡ true) (sym c.in_ok-marks.ensures) (all_named c.args.named.now relation row there)))
    ]
