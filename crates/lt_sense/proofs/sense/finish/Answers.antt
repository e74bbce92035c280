use Rattle.std.proofs.Common.{◌∙◌, arith}
use Rattle.lt_sense.specs.Spans.{ranges_of}
use Rattle.lt_sense.proofs.Done.{alike_rows, alike_held}
use Rattle.lt_sense.proofs.Stepped.{ok_map, same_chain}
use Rattle.lt_sense.proofs.sense.finish.Goals as goal

pub returns-clause-same : goal.returns-clause-same
returns-clause-same c = record {
  relation = c.put_in_order.ensures.alike.relation ∙ c.in_ok-close.ensures.same.relation;
  columns = c.put_in_order.ensures.alike.columns ∙ c.in_ok-close.ensures.same.columns;
}

pub returns-clause-rows : goal.returns-clause-rows
returns-clause-rows c =
    same_chain (ranges_of c.args.list.now) (ranges_of c.close.new.self) (ranges_of c.put_in_order.new.self) c.in_ok-close.ensures.rows
    (alike_rows c.close.new.self c.put_in_order.new.self c.put_in_order.ensures.alike c.put_in_order.ensures.rows)

pub returns-clause-few : goal.returns-clause-few
returns-clause-few c =
    let a = alike_held c.close.new.self c.put_in_order.new.self c.put_in_order.ensures.alike c.put_in_order.ensures.few in
    let b = c.in_ok-close.ensures.few in
    omega (arith, a, b)

pub returns-clause-done : goal.returns-clause-done
returns-clause-done c =
    let alike = c.put_in_order.ensures.alike in
    let ended = c.in_ok-close.ensures.ended in
    ok_map c.put_in_order.result (λ ordered. record {
      sound = c.put_in_order.ensures.sound;
      ordered = ordered;
      at = alike.at ∙ ended.0;
      none = rw (alike.lo, alike.hi) ended.1;
    }) c.put_in_order.ensures.ordered
