use Rattle.std.proofs.Common.{◌≡◌, ◌<◌, ◌+◌, ◌-◌, ◌/◌, ◌++◌, ◌∷◌, [], sym, ◌∙◌, subst, arith}
use Rattle.lt_flat.specs.Flat.{AreNotBelow}
use Rattle.lt_flat.proofs.Near.{below_to, not_below_from, found_between}
use Rattle.lt_flat.proofs.list.place_between.Goals as goal

pub loop-low-preserved-then-is_below : goal.loop-low-preserved-then-is_below
loop-low-preserved-then-is_below c =
    let middle = c.loop-low.low + (c.loop-low.high - c.loop-low.low) / 2 in
    let lt : middle < c.loop-low.high = omega (arith, c.loop-low-test.true) in
    let q = c.args.prefix.now ++ c.args.bound ∷ [] in
    record {
      order = omega (arith, lt);
      within = c.loop-low.invariant.within;
      below = below_to c.args.rows.now q middle c.index-rows-middle.result c.requires.rises (omega (arith, lt, c.loop-low.invariant.within)) c.index-rows-middle.is (sym c.is_below.ensures ∙ c.if-is_below.true);
      above = c.loop-low.invariant.above;
    }

pub loop-low-preserved : goal.loop-low-preserved
loop-low-preserved c =
    let middle = c.loop-low.low + (c.loop-low.high - c.loop-low.low) / 2 in
    let lt : middle < c.loop-low.high = omega (arith, c.loop-low-test.true) in
    let q = c.args.prefix.now ++ c.args.bound ∷ [] in
    record {
      order = omega arith;
      within = omega (arith, lt, c.loop-low.invariant.within);
      below = c.loop-low.invariant.below;
      above = not_below_from c.args.rows.now q middle c.index-rows-middle.result c.requires.rises (omega (arith, lt, c.loop-low.invariant.within)) c.index-rows-middle.is (sym c.is_below.ensures ∙ c.if-is_below.false);
    }

pub returns-clause-found : goal.returns-clause-found
returns-clause-found c =
    let q = c.args.prefix.now ++ c.args.bound ∷ [] in
    let same : c.loop-low.high ≡ c.loop-low.low = omega (arith, c.loop-low.invariant.order, c.loop-low-test.false) in
    found_between c.args.rows.now q c.loop-low.low (omega (arith, same, c.loop-low.invariant.within)) c.loop-low.invariant.below
    (subst (λ i. AreNotBelow c.args.rows.now q i) same c.loop-low.invariant.above)
