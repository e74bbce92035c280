use Rattle.std.proofs.Common.{sym, ap, ◌∙◌, List}
use Rattle.lt_face.specs.State.{Row}
use Rattle.lt_delta.specs.Laying.{rows_laid}
use Rattle.lt_delta.proofs.Laid.{rows_in_laid}
use Rattle.lt_delta.proofs.marks.Marks.lay_on.Goals as goal

pub returns-clause-rows : goal.returns-clause-rows
returns-clause-rows g c = λ state within same.
    c.in_ok-set.ensures.rows
    ∙ ap (λ (rows : List Row). rows_laid c.args.relation rows c.args.self.now) (sym same)
    ∙ sym (rows_in_laid state c.args.self.now c.args.relation within)
