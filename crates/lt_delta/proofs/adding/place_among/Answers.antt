use Rattle.std.proofs.Common.{arith, refl}
use Rattle.std.specs.Arc.{arc_value}
use Rattle.lt_delta.proofs.Puts.{place_end}
use Rattle.lt_delta.proofs.adding.place_among.Goals as goal

pub returns-then-are_before : goal.returns-then-are_before
returns-then-are_before c = place_end arc_value c.args.marks.now c.args.mark.now.relation c.args.mark.now.row _ (omega arith) (c.if-are_before.ensures refl)
