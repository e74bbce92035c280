use Rattle.std.proofs.Common.{ℕ, Ok, length, ap, ◌∙◌, inl}
use Rattle.lt_sense.specs.Held.{first_columns}
use Rattle.lt_sense.proofs.Growth.{on_err}
use Rattle.lt_sense.proofs.MetRows.{whole_list}
use Rattle.lt_sense.proofs.Tallied.{on_ok}
use Rattle.lt_sense.proofs.met.add_first_row.Goals as goal

pub add_row_at-requires-clause-place : goal.add_row_at-requires-clause-place
add_row_at-requires-clause-place c =
    whole_list {E = ℕ} (Ok c.in-Some.at) c.args.lists.now.items c.args.relation c.in_ok-columns.columns (length c.args.row.now) (c.in_ok-columns.ensures.width ∙ c.width.ensures.value) c.in_ok-columns.ensures.order c.in-Some.ensures.place

pub add_row_new-requires-clause-columns : goal.add_row_new-requires-clause-columns
add_row_new-requires-clause-columns c = c.in_ok-columns.ensures.first ∙ ap first_columns c.width.ensures.value

pub returns-in-Some-clause-indexes : goal.returns-in-Some-clause-indexes
returns-in-Some-clause-indexes c = on_ok c.add_row_at.result (inl c.add_row_at.ensures.indexes)

pub returns-in-Some-clause-same : goal.returns-in-Some-clause-same
returns-in-Some-clause-same c = on_err c.add_row_at.result c.add_row_at.ensures.indexes
