use Rattle.std.proofs.Common.{◌≡◌, ◌<◌, ◌≤◌, ◌+◌, ◌-◌, ◌++◌, ◌∷◌, [], length, sym, ◌∙◌, subst, arith}
use Rattle.lt_flat.specs.Flat.{AreBelow}
use Rattle.lt_flat.proofs.Near.{below_to, not_below_from}
use Rattle.lt_flat.proofs.list.place_near.Goals as goal

pub place_before-requires-then-not-is_below-clause-above : goal.place_before-requires-then-not-is_below-clause-above
place_before-requires-then-not-is_below-clause-above c =
    let q = c.args.prefix.now ++ c.args.bound ∷ [] in
    let lt : c.min-at.result < length c.args.rows.now = omega (arith, c.min-at.ensures, c.if-at-rows.false) in
    not_below_from c.args.rows.now q c.min-at.result c.index-rows-at.result c.requires.rises lt c.index-rows-at.is (sym c.is_below.ensures ∙ c.if-not-is_below.true)

pub loop-stride-init : goal.loop-stride-init
loop-stride-init c =
    let q = c.args.prefix.now ++ c.args.bound ∷ [] in
    let lt : c.min-at.result < length c.args.rows.now = omega (arith, c.min-at.ensures, c.if-at-rows.false) in
    record {
      some = omega arith;
      within = omega (arith, lt);
      below = below_to c.args.rows.now q c.min-at.result c.index-rows-at.result c.requires.rises lt c.index-rows-at.is (sym c.is_below.ensures ∙ c.if-not-is_below.false);
    }

pub place_between-requires-clause-above : goal.place_between-requires-clause-above
place_between-requires-clause-above c =
    let q = c.args.prefix.now ++ c.args.bound ∷ [] in
    not_below_from c.args.rows.now q (c.loop-stride.low + c.loop-stride.stride - 1) c.index-rows-next.result c.requires.rises
    (omega (arith, c.loop-stride.invariant.some, c.loop-stride.invariant.within, c.loop-stride-test.true)) c.index-rows-next.is (sym c.is_below-in-loop-stride.ensures ∙ c.if-not-is_below-2.true)

pub loop-stride-preserved : goal.loop-stride-preserved
loop-stride-preserved c =
    let q = c.args.prefix.now ++ c.args.bound ∷ [] in
    let rows = c.args.rows.now in
    let some = c.loop-stride.invariant.some in
    let le : c.loop-stride.low + c.loop-stride.stride ≤ length rows = omega (arith, c.loop-stride.invariant.within, c.loop-stride-test.true) in
    let at : c.loop-stride.low + c.loop-stride.stride - 1 + 1 ≡ c.loop-stride.low + c.loop-stride.stride = omega (arith, some) in
    record {
      some = omega (arith, some);
      within = le;
      below = subst (λ i. AreBelow rows q i) at
          (below_to rows q (c.loop-stride.low + c.loop-stride.stride - 1) c.index-rows-next.result c.requires.rises (omega (arith, some, le)) c.index-rows-next.is (sym c.is_below-in-loop-stride.ensures ∙ c.if-not-is_below-2.false));
    }
