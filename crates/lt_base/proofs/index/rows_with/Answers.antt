use Rattle.std.proofs.Common.{sym, ◌∙◌, subst, arith}
use Rattle.lt_delta.specs.Columns.{IsPermuted}
use Rattle.lt_delta.specs.Laying.{rows_laid}
use Rattle.lt_base.proofs.Kept.{all_laid}
use Rattle.lt_base.proofs.index.rows_with.Goals as goal

pub edits_in-requires : goal.edits_in-requires
edits_in-requires c = (c.args.rows.now.width, c.requires.perm, omega (arith, c.width-width.ensures.value, c.width-width.ensures.bound), c.requires.fit)

pub laid-requires : goal.laid-requires
laid-requires c =
    let edits = c.in_ok-edits.ensures c.args.rows.now.width c.requires.perm c.requires.fit in
    record { gone = edits.gone; come = edits.come }

pub returns-clause-rows : goal.returns-clause-rows
returns-clause-rows c = λ table set is.
    let width = c.args.rows.now.width in
    let edits = c.in_ok-edits.ensures width c.requires.perm c.requires.fit in
    subst (IsPermuted width c.args.columns.now (rows_laid c.args.relation table c.args.marks.now))
    (sym (c.in_ok-set.ensures.rows ∙ edits.laid c.args.rows.now.rows c.width-width.ensures.is_set.rises))
    (all_laid width c.args.columns.now c.args.relation table c.args.rows.now.rows c.args.marks.now is set.each c.requires.fit)
