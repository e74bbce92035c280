use Rattle.std.proofs.Common.{sym, ◌∙◌}
use Rattle.lt_model.specs.Check.{same_kind}
use Rattle.lt_check.proofs.notes.Notes.agree.Goals as goal

pub returns-then-not-are_alike : goal.returns-then-not-are_alike
returns-then-not-are_alike c = c.refuse.ensures (λ whole choice. same_kind c.args.kind c.args.other) (λ whole choice. sym c.are_alike.ensures ∙ c.if-not-are_alike.true)
