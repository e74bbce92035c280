use Rattle.std.proofs.Common.{refl, arith}
use Rattle.lt_sense.specs.Spans.{ranges_of}
use Rattle.lt_sense.proofs.Added.{list_added}
use Rattle.lt_sense.proofs.Stepped.{ok_map}
use Rattle.lt_sense.proofs.adding.take_all.Goals as goal

pub returns-clause-added : goal.returns-clause-added
returns-clause-added c =
    ok_map c.take_range.result (list_added c.args.other.now c.cells.result.now (ranges_of c.args.list.now) (ranges_of c.args.list.now) (ranges_of c.take_still.new.list) (ranges_of c.take_above.new.list) (ranges_of c.take_range.new.list)
    (λ relation row below. refl) c.in_ok-take_still.ensures.added c.in_ok-take_above.ensures.added c.cells.ensures.cells) c.take_range.ensures.added

pub returns-clause-few : goal.returns-clause-few
returns-clause-few c =
    let a = c.in_ok-take_still.ensures.few in
    let b = c.in_ok-take_above.ensures.few in
    ok_map c.take_range.result (λ e. omega (arith, a, b, e)) c.take_range.ensures.few
