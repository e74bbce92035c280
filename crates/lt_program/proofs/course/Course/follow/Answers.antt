use Rattle.std.proofs.Common.{Option, sym, subst}
use Rattle.lt_program.specs.declared.course.Laid.{Laid}
use Rattle.lt_program.specs.Tally.{IsLaid}
use Rattle.lt_program.proofs.course.Course.follow.Goals as goal

pub returns-clause-laid : goal.returns-clause-laid
returns-clause-laid c = λ base before is.
    c.followed_by.ensures base before (subst (λ (o : Option Laid). IsLaid base before o) (sym c.replace-laid.ensures.value) is)
