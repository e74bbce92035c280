use Rattle.std.proofs.Common.{ℕ, ◌+◌, ◌-◌, ◌<◌, ◌≤◌, length, arith}
use Rattle.lt_face.specs.Rows.{has_row}
use Rattle.lt_face.proofs.row_set.RowReads.cuts.Goals as goal

-- one row more at most, and one part fewer to come
one_part : (old new part parts : ℕ) → old + (parts - part) ≤ parts - 1 → new ≤ old + 1 → part < parts → new + (parts - (part + 1)) ≤ parts - 1
one_part old new part parts few more lt = omega arith

pub loop-part-preserved : goal.loop-part-preserved
loop-part-preserved g c = record {
  few = one_part (length c.loop-part.cuts) (length c.push_above.new.rows) c.loop-part.part c.args.parts c.loop-part.invariant.few c.push_above.ensures.few c.loop-part-test.true;
  rises = c.push_above.ensures.rises;
  each = c.push_above.ensures.each (has_row (g.Self.RowReads.rows c.args.self.now)) c.loop-part.invariant.each c.row_about.ensures;
}
