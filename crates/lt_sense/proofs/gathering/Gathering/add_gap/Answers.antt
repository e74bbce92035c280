use Rattle.std.proofs.Common.{sym, subst}
use Rattle.lt_sense.specs.Gathered.{ranges_in, IsSaid}
use Rattle.lt_sense.specs.Held.{IsCounted}
use Rattle.lt_sense.proofs.Said.{said_gap, said_same}
use Rattle.lt_sense.proofs.Tallied.{counted_gap, counted_same}
use Rattle.lt_sense.proofs.gathering.Gathering.add_gap.Goals as goal

pub invariant_of-self-2 : goal.invariant_of-self-2
invariant_of-self-2 c =
    let s = c.self.inside in
    let new = ranges_in c.add_range.new.lists.items in (
      c.in_ok-add_range.ensures.sound,
      subst (λ seen. IsSaid seen new) (sym c.with_gap-self-inside.ensures)
          (said_gap s.seen.seen (ranges_in s.lists.items) new (record { relation = c.args.relation; columns = c.args.perm.now; prefix = c.args.prefix.now; lo = c.args.lo; hi = c.args.hi }) c.self.invariant.1 c.in_ok-add_range.ensures.added),
      subst (λ seen. IsCounted seen c.add_range.new.lists.items) (sym c.with_gap-self-inside.ensures)
          (counted_gap s.seen.seen s.lists.items c.add_range.new.lists.items (record { relation = c.args.relation; columns = c.args.perm.now; prefix = c.args.prefix.now; lo = c.args.lo; hi = c.args.hi }) c.self.invariant.2 c.in_ok-add_range.ensures.indexes c.in_ok-add_range.ensures.few),
    )

pub invariant_of-self : goal.invariant_of-self
invariant_of-self c =
    let s = c.self.inside in (
      c.in_err-add_range.ensures.sound,
      said_same s.seen.seen (ranges_in s.lists.items) (ranges_in c.add_range.new.lists.items) c.self.invariant.1 c.in_err-add_range.ensures.err,
      counted_same s.seen.seen s.lists.items c.add_range.new.lists.items c.self.invariant.2 c.in_err-add_range.ensures.same c.in_err-add_range.ensures.left,
    )
