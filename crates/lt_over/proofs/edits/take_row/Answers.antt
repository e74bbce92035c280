use Rattle.std.proofs.Common.{◌∙◌, List, ap, sym}
use Rattle.lt_face.specs.Rows.{with_row}
use Rattle.lt_face.specs.State.{Row}
use Rattle.lt_over.specs.Overlaid.{overlaid}
use Rattle.lt_over.proofs.Edited.{taken_rows, hidden_rows, not_put, fewer_put, on_err}
use Rattle.lt_over.proofs.edits.take_row.Goals as goal

pub returns-in_err-remove-clause-err : goal.returns-in_err-remove-clause-err
returns-in_err-remove-clause-err c =
    on_err c.from_residual-in_err-remove.result
    (λ base up. ap (λ (l : List Row). overlaid base c.insert.new.self.rows l) c.in_err-remove.ensures.err
    ∙ hidden_rows base c.args.gone.now.rows c.args.come.now.rows c.insert.new.self.rows c.args.row.now up (c.in_ok-insert.ensures.ok ∙ ap (with_row c.args.gone.now.rows) c.copy_row.ensures) (sym c.has.ensures ∙ c.if-has.true))

pub returns-in_ok-remove-clause-ok : goal.returns-in_ok-remove-clause-ok
returns-in_ok-remove-clause-ok c = λ base up.
    taken_rows base c.args.gone.now.rows c.args.come.now.rows c.insert.new.self.rows c.remove.new.self.rows c.args.row.now up (c.in_ok-insert.ensures.ok ∙ ap (with_row c.args.gone.now.rows) c.copy_row.ensures) c.in_ok-remove.ensures.ok

pub returns-in_ok-remove-clause-fewer : goal.returns-in_ok-remove-clause-fewer
returns-in_ok-remove-clause-fewer c = fewer_put c.args.come.now.rows c.remove.new.self.rows c.args.row.now c.in_ok-remove.ensures.ok

pub returns-else-has-clause-ok : goal.returns-else-has-clause-ok
returns-else-has-clause-ok c = λ base up.
    taken_rows base c.args.gone.now.rows c.args.come.now.rows c.insert.new.self.rows c.args.come.now.rows c.args.row.now up (c.in_ok-insert.ensures.ok ∙ ap (with_row c.args.gone.now.rows) c.copy_row.ensures)
    (not_put c.args.come.now.rows c.args.row.now (sym c.has.ensures ∙ c.if-has.false))
