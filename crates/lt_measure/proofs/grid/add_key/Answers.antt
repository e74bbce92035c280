use Rattle.std.proofs.Common.{arith}
use Rattle.lt_measure.proofs.Building.{IsBuilt-append}
use Rattle.lt_measure.proofs.grid.add_key.Goals as goal

pub loop-b-preserved : goal.loop-b-preserved
loop-b-preserved c =
    rw (c.in_ok-push.ensures.ok, c.from_cells-row.ensures)
    (IsBuilt-append c.loop-b.rows c.args.a c.loop-b.b (omega (arith, c.ranges.a.fits)) (omega (arith, c.loop-b-test.true, c.ranges.each.fits)) c.loop-b.invariant)
