use Rattle.std.proofs.Common.{sym, subst}
use Rattle.lt_sense.specs.Gathered.{ranges_in, IsSaid}
use Rattle.lt_sense.specs.Held.{IsCounted}
use Rattle.lt_sense.proofs.Added.{said_row}
use Rattle.lt_sense.proofs.Said.{said_same}
use Rattle.lt_sense.proofs.Tallied.{counted_hit, counted_same}
use Rattle.lt_sense.proofs.gathering.Gathering.add_hit.Goals as goal

pub invariant_of-self-2 : goal.invariant_of-self-2
invariant_of-self-2 c =
    let s = c.self.inside in
    let new = ranges_in c.add_row.new.lists.items in (
      c.in_ok-add_row.ensures.sound,
      subst (λ seen. IsSaid seen new) (sym c.with_hit-self-inside.ensures)
          (said_row s.seen.seen (ranges_in s.lists.items) new (record { relation = c.args.relation; row = c.args.row.now }) c.self.invariant.1 c.in_ok-add_row.ensures.added),
      subst (λ seen. IsCounted seen c.add_row.new.lists.items) (sym c.with_hit-self-inside.ensures)
          (counted_hit s.seen.seen s.lists.items c.add_row.new.lists.items (record { relation = c.args.relation; row = c.args.row.now }) c.self.invariant.2 c.in_ok-add_row.ensures.indexes c.in_ok-add_row.ensures.few),
    )

pub invariant_of-self : goal.invariant_of-self
invariant_of-self c =
    let s = c.self.inside in (
      c.in_err-add_row.ensures.sound,
      said_same s.seen.seen (ranges_in s.lists.items) (ranges_in c.add_row.new.lists.items) c.self.invariant.1 c.in_err-add_row.ensures.err,
      counted_same s.seen.seen s.lists.items c.add_row.new.lists.items c.self.invariant.2 c.in_err-add_row.ensures.same c.in_err-add_row.ensures.left,
    )
