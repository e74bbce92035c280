use Rattle.std.proofs.Common.{◌∙◌, List, false, ap, sym}
use Rattle.lt_face.specs.Rows.{has_row}
use Rattle.lt_face.specs.State.{rows_in}
use Rattle.lt_model.specs.Marks.{laid}
use Rattle.lt_base.specs.Tables.{Table, state_of}
use Rattle.lt_restate.proofs.Asking.{base_wide, cells_below, laid_wide}
use Rattle.lt_restate.proofs.Spotted.{spot_gap, spot_hit}
use Rattle.lt_restate.proofs.touched.spot_of.Goals as goal

pub returns-then-has_with : goal.returns-then-has_with
returns-then-has_with c = λ sense tight covered.
    spot_hit sense (laid (state_of c.args.old.now.base) c.args.past.now) c.args.relation c.args.row.now tight covered
    (ap (λ (tables : List Table). has_row (rows_in (laid (state_of tables) c.args.past.now) c.args.relation) c.args.row.now) (sym c.base.ensures) ∙ sym c.has_with.ensures ∙ c.if-has_with.true)

pub own_gap-requires-clause-some : goal.own_gap-requires-clause-some
own_gap-requires-clause-some c = base_wide (state_of c.args.old.now.base) c.requires.base c.args.relation c.args.row.now c.requires.row

pub own_gap-requires-clause-below : goal.own_gap-requires-clause-below
own_gap-requires-clause-below c = cells_below c.args.row.now c.requires.row.has_cells

pub returns : goal.returns
returns c = λ sense tight covered.
    spot_gap sense (laid (state_of c.args.old.now.base) c.args.past.now) c.args.relation c.args.row.now tight covered
    (ap (λ (tables : List Table). has_row (rows_in (laid (state_of tables) c.args.past.now) c.args.relation) c.args.row.now) (sym c.base.ensures) ∙ sym c.has_with.ensures ∙ c.if-has_with.false)
    (λ other there. laid_wide (state_of c.args.old.now.base) c.requires.base c.args.past.now c.requires.fits c.args.relation c.args.row.now other c.requires.row there)
    c.own_gap.result c.own_gap.ensures
