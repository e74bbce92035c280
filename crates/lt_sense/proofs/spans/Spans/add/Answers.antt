use Rattle.std.proofs.Common.{arith}
use Rattle.lt_sense.specs.Spans.{ranges_of, under}
use Rattle.lt_sense.proofs.Growth.{on_err}
use Rattle.lt_sense.proofs.Stepped.{same_chain, also_after, under_alike, ok_map, err_map}
use Rattle.lt_sense.proofs.spans.Spans.add.Goals as goal

pub returns-in_err-sink_to-clause-err : goal.returns-in_err-sink_to-clause-err
returns-in_err-sink_to-clause-err c =
    on_err c.from_residual-in_err-sink_to.result
    (same_chain (ranges_of c.args.self.now) (ranges_of c.rise_to.new.self) (ranges_of c.sink_to.new.self) c.in_ok-rise_to.ensures.rows c.in_err-sink_to.ensures.rows)

pub returns-clause-added : goal.returns-clause-added
returns-clause-added c =
    let s = c.args.self.now in
    let mid = c.sink_to.new.self in
    let same = same_chain (ranges_of s) (ranges_of c.rise_to.new.self) (ranges_of mid) c.in_ok-rise_to.ensures.rows c.in_ok-sink_to.ensures.rows in
    let is = under_alike s c.rise_to.new.self mid c.args.prefix.now c.args.lo c.args.hi c.in_ok-rise_to.ensures.same c.in_ok-sink_to.ensures.same c.in_ok-sink_to.ensures.at in
    ok_map c.grow.result (also_after (ranges_of s) (ranges_of mid) (ranges_of c.grow.new.self) (under mid mid.at c.args.lo c.args.hi) (under s c.args.prefix.now c.args.lo c.args.hi) same is) c.grow.ensures.grown

pub returns-clause-err : goal.returns-clause-err
returns-clause-err c =
    let s = c.args.self.now in
    let mid = c.sink_to.new.self in
    let same = same_chain (ranges_of s) (ranges_of c.rise_to.new.self) (ranges_of mid) c.in_ok-rise_to.ensures.rows c.in_ok-sink_to.ensures.rows in
    err_map c.grow.result (λ last. same_chain (ranges_of s) (ranges_of mid) (ranges_of c.grow.new.self) same last) c.grow.ensures.err

pub returns-clause-few : goal.returns-clause-few
returns-clause-few c = (let a = c.in_ok-rise_to.ensures.few in let b = c.in_ok-sink_to.ensures.few in ok_map c.grow.result (λ e. omega (arith, a, b, e)) c.grow.ensures.few)

pub returns-clause-left : goal.returns-clause-left
returns-clause-left c = (let a = c.in_ok-rise_to.ensures.few in let b = c.in_ok-sink_to.ensures.few in err_map c.grow.result (λ e. omega (arith, a, b, e)) c.grow.ensures.left)
