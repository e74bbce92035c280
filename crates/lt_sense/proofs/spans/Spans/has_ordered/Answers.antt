use Rattle.std.proofs.Common.{◌-◌, ◌+◌, ◌/◌, ◌<◌, sym, ap, ◌∙◌, length, arith}
use Rattle.lt_face.specs.State.{permuted}
use Rattle.lt_sense.specs.Apart.{still_in}
use Rattle.lt_sense.specs.Spans.{stills}
use Rattle.lt_sense.proofs.Lies.{get_there}
use Rattle.lt_sense.proofs.Halved.{lower_none, upper_none, none_still, found_still}
use Rattle.lt_sense.proofs.Sorted.{image_at}
use Rattle.lt_sense.proofs.Sought.{digits_next, digits_ended}
use Rattle.lt_sense.proofs.spans.Spans.has_ordered.Goals as goal

pub halves-preserved-in-Less : goal.halves-preserved-in-Less
halves-preserved-in-Less n c =
    let s = c.args.self.now in
    let at = image_at (still_in s) s.ranges.items _ _ (get_there s.ranges.items _ _ (omega (arith, c.halves-test.true, c.halves.invariant.within)) c.index.ensures) in
    record {
      order = omega (arith, c.halves-test.true);
      within = c.halves.invariant.within;
      before = lower_none (stills s) c.cells_in-cells.result _ _ c.requires.ordered at (sym c.span_stands-place.ensures ∙ c.in-Less.is);
      after = c.halves.invariant.after;
      digits = rw c.tick.ensures (digits_next (length s.ranges.items) c.args.steps.now c.halves.steps (c.halves.high - c.halves.low) _ c.halves.invariant.digits (omega (arith, c.halves-test.true)) (omega (arith, c.halves-test.true)));
    }

pub halves-preserved : goal.halves-preserved
halves-preserved n c =
    let s = c.args.self.now in
    let at = image_at (still_in s) s.ranges.items _ _ (get_there s.ranges.items _ _ (omega (arith, c.halves-test.true, c.halves.invariant.within)) c.index.ensures) in
    record {
      order = omega (arith, c.halves-test.true);
      within = omega (arith, c.halves-test.true, c.halves.invariant.within);
      before = c.halves.invariant.before;
      after = upper_none (stills s) c.cells_in-cells.result _ _ c.requires.ordered at (sym c.span_stands-place.ensures ∙ c.in-Greater.is);
      digits = rw c.tick.ensures (digits_next (length s.ranges.items) c.args.steps.now c.halves.steps (c.halves.high - c.halves.low) _ c.halves.invariant.digits (omega (arith, c.halves-test.true)) (omega (arith, c.halves-test.true)));
    }

pub returns-in-Equal-clause-value : goal.returns-in-Equal-clause-value
returns-in-Equal-clause-value n c =
    let s = c.args.self.now in
    let lt : c.halves.low + (c.halves.high - c.halves.low) / 2 < length s.ranges.items = omega (arith, c.halves-test.true, c.halves.invariant.within) in
    sym (found_still s c.args.row.now c.cells_in-cells.result _ c.index.result.now lt c.index.ensures (c.cells_in-cells.ensures ∙ ap (λ cs. permuted cs c.args.row.now) c.as_slice.ensures) (sym c.span_stands-place.ensures ∙ c.in-Equal.is))

pub returns-in-Equal-clause-steps : goal.returns-in-Equal-clause-steps
returns-in-Equal-clause-steps n c d lt =
    let s = c.args.self.now in
    rw c.tick.ensures (digits_ended (length s.ranges.items) c.args.steps.now _ 0 (digits_next (length s.ranges.items) c.args.steps.now c.halves.steps (c.halves.high - c.halves.low) 0 c.halves.invariant.digits (omega (arith, c.halves-test.true)) (omega arith)) d lt)

pub returns-clause-value : goal.returns-clause-value
returns-clause-value n c =
    let s = c.args.self.now in
    sym (none_still s c.args.row.now c.cells_in-cells.result c.halves.low c.halves.high (c.cells_in-cells.ensures ∙ ap (λ cs. permuted cs c.args.row.now) c.as_slice.ensures) (omega (arith, c.halves-test.false)) c.halves.invariant.before c.halves.invariant.after)

pub returns-clause-steps : goal.returns-clause-steps
returns-clause-steps n c d lt = digits_ended (length c.args.self.now.ranges.items) c.args.steps.now c.halves.steps (c.halves.high - c.halves.low) c.halves.invariant.digits d lt
