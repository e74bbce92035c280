use Rattle.std.proofs.Common.{◌≡◌, Option, sym, subst, ◌∙◌}
use Rattle.lt_delta.proofs.Merges.{after_none}
use Rattle.lt_model.specs.Marks.{Marks, and_then}
use Rattle.lt_program.specs.Tally.{those}
use Rattle.lt_program.proofs.course.joined.Goals as goal

pub returns-in_ok-same-in-None : goal.returns-in_ok-same-in-None
returns-in_ok-same-in-None c =
    subst (λ (o : Option Marks). c.in_ok-same-in-None.same ≡ and_then (those o) c.args.marks.now) (sym c.in-None.is)
    (c.in_ok-same-in-None.ensures ∙ sym (after_none c.args.marks.now c.len-ascending.ensures.ascending))
