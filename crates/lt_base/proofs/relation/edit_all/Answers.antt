use Rattle.std.proofs.Common.{◌<◌, ◌∙◌, length, refl, sym, ap, subst, arith}
use Rattle.lt_face.specs.Rows.{IsRow}
use Rattle.lt_face.proofs.RowLemmas.{each_at}
use Rattle.lt_delta.specs.Columns.{IsPermOf}
use Rattle.lt_base.specs.declared.index.Index.{Index}
use Rattle.lt_base.specs.Indexed.{index_edited}
use Rattle.lt_base.proofs.OneRow.{not_yet, one_more}
use Rattle.lt_base.proofs.relation.edit_all.Goals as goal

pub edit-requires-clause-perm : goal.edit-requires-clause-perm
edit-requires-clause-perm c =
    let lt : c.loop-i.i < length c.args.others.now = omega arith in
    let at = not_yet (index_edited c.args.row.now c.args.plus) c.args.others.now c.loop-i.others c.loop-i.i c.index-others-i.result lt c.loop-i.invariant c.index-others-i.is in
    subst (λ (i : Index). IsPermOf i.rows.width i.columns) (sym at ∙ c.index-others-i.is)
    (each_at (λ (i : Index). IsPermOf i.rows.width i.columns) c.args.others.now c.loop-i.i c.index-others-i.result c.requires.perms lt)

pub edit-requires-clause-row : goal.edit-requires-clause-row
edit-requires-clause-row c =
    let lt : c.loop-i.i < length c.args.others.now = omega arith in
    let at = not_yet (index_edited c.args.row.now c.args.plus) c.args.others.now c.loop-i.others c.loop-i.i c.index-others-i.result lt c.loop-i.invariant c.index-others-i.is in
    subst (λ (i : Index). IsRow i.rows.width c.args.row.now) (sym at ∙ c.index-others-i.is)
    (each_at (λ (i : Index). IsRow i.rows.width c.args.row.now) c.args.others.now c.loop-i.i c.index-others-i.result c.requires.rows lt)

pub loop-i-init : goal.loop-i-init
loop-i-init c = refl

pub loop-i-preserved : goal.loop-i-preserved
loop-i-preserved c =
    one_more (index_edited c.args.row.now c.args.plus) c.args.others.now c.loop-i.others c.loop-i.i c.index-others-i.result c.edit.new.self (omega arith) c.loop-i.invariant c.index-others-i.is
    (c.in_ok-edit.ensures.index ∙ ap (index_edited c.args.row.now c.args.plus) (sym c.index-others-i.is))
