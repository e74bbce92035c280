use Rattle.std.proofs.Common.{sym, ap, map, ◌∙◌, subst}
use Rattle.lt_face.specs.Rows.{IsRow}
use Rattle.lt_face.proofs.RowLemmas.{each_weaker}
use Rattle.lt_base.specs.declared.index.Index.{Index}
use Rattle.lt_base.specs.Indexed.{IsIndexed}
use Rattle.lt_base.proofs.Finds.{perms_of}
use Rattle.lt_base.proofs.OneRow.{stays_put, indexes_edited, edited_columns}
use Rattle.lt_base.proofs.relation.edit_each.Goals as goal

pub edit_all-requires-clause-perms : goal.edit_all-requires-clause-perms
edit_all-requires-clause-perms c = perms_of c.args.first.now.width c.args.first.now.rows c.args.others.now c.requires.indexed

pub edit_all-requires-clause-rows : goal.edit_all-requires-clause-rows
edit_all-requires-clause-rows c =
    each_weaker (IsIndexed c.args.first.now.width c.args.first.now.rows) (λ (i : Index). IsRow i.rows.width c.args.row.now)
    (λ i is. subst (λ n. IsRow n c.args.row.now) (sym is.wide) c.requires.row) c.args.others.now c.requires.indexed

pub returns-in_ok-edit_all-clause-indexed : goal.returns-in_ok-edit_all-clause-indexed
returns-in_ok-edit_all-clause-indexed c =
    rw (c.in_ok-edit_all.ensures, c.edit.ensures.width, c.in_ok-changed.ensures.rows)
    (indexes_edited c.args.first.now.width c.args.first.now.rows c.args.row.now c.args.plus c.args.others.now c.requires.indexed c.width-width.ensures.is_set.each c.requires.row)

pub returns-in_ok-edit_all-clause-columns : goal.returns-in_ok-edit_all-clause-columns
returns-in_ok-edit_all-clause-columns c = ap (map (λ (i : Index). i.columns)) c.in_ok-edit_all.ensures ∙ edited_columns c.args.row.now c.args.plus c.args.others.now

pub returns-else-changed-clause-indexed : goal.returns-else-changed-clause-indexed
returns-else-changed-clause-indexed c =
    rw (
      c.edit.ensures.width,
      c.in_ok-changed.ensures.rows,
      stays_put c.args.first.now.rows c.args.row.now c.args.plus c.width-width.ensures.is_set.rises (sym c.in_ok-changed.ensures.changed ∙ c.if-changed.false),
    ) c.requires.indexed
