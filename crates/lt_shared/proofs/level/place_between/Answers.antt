use Rattle.std.proofs.Common.{◌≡◌, ◌<◌, ◌+◌, ◌-◌, ◌/◌, ◌++◌, ◌∷◌, [], suc, drop, subst, arith}
use Rattle.lt_shared.specs.Entries.{joined, AreNoneBelow}
use Rattle.lt_shared.proofs.level.place_between.Goals as goal

pub loop-high-preserved-then-is_behind : goal.loop-high-preserved-then-is_behind
loop-high-preserved-then-is_behind g c = record {
  order = omega (arith, c.loop-high-test.true);
  within = c.loop-high.invariant.within;
  before = c.is_behind.ensures.below c.if-is_behind.true;
  after = c.loop-high.invariant.after;
}

pub loop-high-preserved : goal.loop-high-preserved
loop-high-preserved g c =
    let middle = c.loop-high.low + (c.loop-high.high - c.loop-high.low) / 2 in
    let lt : middle < c.loop-high.high = omega (arith, c.loop-high-test.true) in
    record {
      order = omega (arith, c.loop-high-test.true);
      within = omega (arith, lt, c.loop-high.invariant.within);
      before = c.loop-high.invariant.before;
      after = (c.is_behind.ensures.above c.if-is_behind.false).1;
    }

pub returns : goal.returns
returns g c =
    let next : c.loop-high.high ≡ suc c.loop-high.low = omega (arith, c.loop-high.invariant.order, c.loop-high-test.false) in
    record {
      within = omega (arith, c.loop-high.invariant.order, c.loop-high.invariant.within);
      before = c.loop-high.invariant.before;
      after = subst (λ n. AreNoneBelow (c.args.prefix.now ++ c.args.bound ∷ []) (joined (joined g.T.Entry.rows) (drop n c.args.entries.now))) next c.loop-high.invariant.after;
    }
