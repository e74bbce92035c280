use Rattle.std.proofs.Common.{◌≡◌, ◌<◌, ◌+◌, ◌-◌, ◌/◌, true, false, length, take, drop, sym, subst, ap, ◌∙◌, arith}
use Rattle.std.specs.List.{AllByRecursion}
use Rattle.std.specs.Ordering.{is_gt}
use Rattle.std.specs.declared.cmp.Ordering.TheVariants.{Less, Greater}
use Rattle.lt_face.specs.Rows.{row_cmp}
use Rattle.lt_shared.specs.Entries.{joined, IsPlace}
use Rattle.lt_shared.proofs.Joins.{place-low, place-high, place-met, drop_all}
use Rattle.lt_shared.proofs.search.place.Goals as goal

pub loop-low-init : goal.loop-low-init
loop-low-init g c = record {
  order = omega arith;
  within = omega arith;
  before = tt;
  after = subst (λ t. AllByRecursion (λ r. row_cmp r c.args.row.now ≡ Greater) (joined g.T.Entry.rows t)) (sym (drop_all c.args.entries.now)) tt;
}

pub loop-low-preserved-then-is_gt : goal.loop-low-preserved-then-is_gt
loop-low-preserved-then-is_gt g c =
    let middle = c.loop-low.low + (c.loop-low.high - c.loop-low.low) / 2 in
    let lt : middle < c.loop-low.high = omega (arith, c.loop-low-test.true) in
    let in_range : middle < length c.args.entries.now = omega (arith, lt, c.loop-low.invariant.within) in
    let greater : is_gt (row_cmp c.first.result.now c.args.row.now) ≡ true = ap is_gt (sym c.cmp.ensures) ∙ sym c.is_gt.ensures ∙ c.if-is_gt.true in
    record {
      order = omega arith;
      within = omega (arith, in_range);
      before = c.loop-low.invariant.before;
      after = place-high g.T.Entry.rows c.args.entries.now middle c.index-entries-middle.result c.first.result.now c.args.row.now c.requires.rises in_range c.index-entries-middle.is c.first.ensures greater;
    }

pub loop-low-preserved : goal.loop-low-preserved
loop-low-preserved g c =
    let middle = c.loop-low.low + (c.loop-low.high - c.loop-low.low) / 2 in
    let lt : middle < c.loop-low.high = omega (arith, c.loop-low-test.true) in
    let in_range : middle < length c.args.entries.now = omega (arith, lt, c.loop-low.invariant.within) in
    let greater : is_gt (row_cmp c.first.result.now c.args.row.now) ≡ false = ap is_gt (sym c.cmp.ensures) ∙ sym c.is_gt.ensures ∙ c.if-is_gt.false in
    let back : middle ≡ middle + 1 - 1 = omega arith in
    record {
      order = omega (arith, lt);
      within = c.loop-low.invariant.within;
      before = subst (λ n. AllByRecursion (λ r. row_cmp r c.args.row.now ≡ Less) (joined g.T.Entry.rows (take n c.args.entries.now))) back
          (place-low g.T.Entry.rows c.args.entries.now middle c.index-entries-middle.result c.first.result.now c.args.row.now c.requires.rises in_range c.index-entries-middle.is c.first.ensures greater);
      after = c.loop-low.invariant.after;
    }

pub returns : goal.returns
returns g c =
    let same : c.loop-low.high ≡ c.loop-low.low = omega (arith, c.loop-low.invariant.order, c.loop-low-test.false) in
    subst (λ n. IsPlace g.T.Entry.rows c.args.entries.now c.args.row.now n) (sym c.saturating_sub.ensures)
    (place-met g.T.Entry.rows c.args.entries.now c.args.row.now c.loop-low.low c.requires.some (omega (arith, same, c.loop-low.invariant.within)) c.loop-low.invariant.before
    (subst (λ n. AllByRecursion (λ r. row_cmp r c.args.row.now ≡ Greater) (joined g.T.Entry.rows (drop n c.args.entries.now))) same c.loop-low.invariant.after))
