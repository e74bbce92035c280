use Rattle.std.proofs.Common.{ap, ◌∙◌, arith}
use Rattle.std.proofs.lemmas.List.{take_all}
use Rattle.lt_delta.specs.Laying.{rows_laid}
use Rattle.lt_delta.proofs.Laid.{row_written, row_passed}
use Rattle.lt_delta.proofs.laying.laid_on.Goals as goal
use Rattle.lt_delta.proofs.laying.laid_on.Goals.{then-mark-relation+in_ok-put, else-mark-relation}

pub loop-i-preserved : goal.loop-i-preserved
loop-i-preserved g c =
    elim c.if-mark-relation.branch [
      | then-mark-relation+in_ok-put w ↦ record {
        rows =
            rw w.set-is
            (row_written c.args.relation (g.R.RowReads.rows c.args.rows.now) (g.R.RowReads.rows c.loop-i.set) (g.R.RowReads.rows w.put.new.rows) c.args.marks.now c.loop-i.i c.mark-mark.result.now
            c.mark-mark.ensures w.if-mark-relation.true c.loop-i.invariant.rows w.in_ok-put.ensures.rows);
        width = rw w.set-is (w.put.ensures.width ∙ c.loop-i.invariant.width);
      }
      | else-mark-relation w ↦ record {
        rows =
            rw w.set-is
            (row_passed c.args.relation (g.R.RowReads.rows c.args.rows.now) (g.R.RowReads.rows c.loop-i.set) c.args.marks.now c.loop-i.i c.mark-mark.result.now
            c.mark-mark.ensures w.if-mark-relation.false c.loop-i.invariant.rows);
        width = rw w.set-is c.loop-i.invariant.width;
      }
    ]

pub loop-i-init : goal.loop-i-init
loop-i-init g c = record { rows = c.in_ok-set.ensures.rows; width = c.in_ok-set.ensures.width }

pub returns-clause-rows : goal.returns-clause-rows
returns-clause-rows g c =
    c.loop-i.invariant.rows
    ∙ ap (rows_laid c.args.relation (g.R.RowReads.rows c.args.rows.now)) (take_all c.loop-i.i c.args.marks.now (omega (arith, c.len-i-end.ensures, c.loop-i-test.false)))
