use Rattle.std.proofs.Common.{◌+◌, ◌-◌, ◌<◌, ◌/◌, arith}
use Rattle.lt_sense.proofs.ByKeyPlaces.{place_low, place_high}
use Rattle.lt_sense.proofs.by_key_cut.place_in.Goals as goal

pub halves-preserved-then-keys-middle : goal.halves-preserved-then-keys-middle
halves-preserved-then-keys-middle c =
    let i = c.halves.invariant in
    let middle = c.halves.low + (c.halves.high - c.halves.low) / 2 in
    let lt : middle < c.halves.high = omega (arith, c.halves-test.true) in
    let within = i.within in
    record {
      order = omega (arith, lt);
      within = i.within;
      before = place_low c.args.keys.now c.args.bound c.halves.low middle c.requires (omega (arith, lt, within)) c.if-keys-middle.true;
      behind = i.behind;
    }

pub halves-preserved : goal.halves-preserved
halves-preserved c =
    let i = c.halves.invariant in
    let middle = c.halves.low + (c.halves.high - c.halves.low) / 2 in
    let lt : middle < c.halves.high = omega (arith, c.halves-test.true) in
    let within = i.within in
    record {
      order = omega arith;
      within = omega (arith, lt, within);
      before = i.before;
      behind = place_high c.args.keys.now c.args.bound middle c.requires c.if-keys-middle.false;
    }
