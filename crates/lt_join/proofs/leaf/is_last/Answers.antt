use Rattle.std.proofs.Common.{◌-◌, sym, ◌∙◌, arith, length}
use Rattle.lt_model.specs.Answers.{cell_of, cells_of}
use Rattle.lt_join.specs.Values.{assigned, values_in}
use Rattle.lt_join.proofs.LastRow.{same_more, same_all, last_is_in}
use Rattle.lt_join.proofs.leaf.is_last.Goals as goal

pub loop-i-preserved : goal.loop-i-preserved
loop-i-preserved c =
    same_more (cell_of (assigned (values_in c.args.values.now.cells))) c.cells-cells.result.now c.args.terms.now c.loop-i.i 0 _
    (let long = c.if-cells-terms.false in omega (arith, long, c.loop-i-test.true)) c.loop-i-test.true (c.if-cells-i.false ∙ c.cell.ensures) c.loop-i.invariant

pub returns : goal.returns
returns c = λ done.
    let same = same_all (cell_of (assigned (values_in c.args.values.now.cells))) c.cells-cells.result.now c.args.terms.now c.loop-i.i (omega (arith, c.loop-i.auto.i-end, c.loop-i-test.false)) c.if-cells-terms.false c.loop-i.invariant in
    last_is_in c.args.rows.now (length c.args.rows.now - 1) c.in-Some.last.now (cells_of (assigned (values_in c.args.values.now.cells)) c.args.terms.now) (sym c.in-Some.ensures.value) (sym c.cells-cells.ensures.cells ∙ same)
