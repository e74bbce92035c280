use Rattle.std.proofs.Common.{◌≡◌, ◌∙◌, length, ap, arith}
use Rattle.lt_base.proofs.Sorts.{permuted_row}
use Rattle.lt_base.proofs.index.Index.edit.Goals as goal

pub permuted_row-row-requires-clause-few : goal.permuted_row-row-requires-clause-few
permuted_row-row-requires-clause-few c =
    let long : length c.as_slice.result.now ≡ c.args.self.now.rows.width = ap length c.as_slice.ensures ∙ c.requires.perm.as_long in
    omega (arith, long, c.width-width.ensures.value, c.width-width.ensures.bound)

pub permuted_row-row-requires-clause-within : goal.permuted_row-row-requires-clause-within
permuted_row-row-requires-clause-within c = rw (c.as_slice.ensures, c.requires.row.is_wide) c.requires.perm.within

pub edit-requires : goal.edit-requires
edit-requires c =
    rw (c.permuted_row-row.ensures, c.as_slice.ensures) (permuted_row c.args.self.now.rows.width c.args.self.now.columns c.args.row.now c.requires.perm c.requires.row)
