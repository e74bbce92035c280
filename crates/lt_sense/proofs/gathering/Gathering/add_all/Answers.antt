use Rattle.std.proofs.Common.{sym, subst}
use Rattle.lt_sense.specs.Gathered.{ranges_in, IsSaid}
use Rattle.lt_sense.specs.Held.{IsCounted}
use Rattle.lt_sense.proofs.Added.{said_both}
use Rattle.lt_sense.proofs.Tallied.{counted_both}
use Rattle.lt_sense.proofs.gathering.Gathering.add_all.Goals as goal

pub invariant_of-self-2 : goal.invariant_of-self-2
invariant_of-self-2 c =
    let s = c.self.inside in
    let o = c.other.inside in
    let new = ranges_in c.add_lists.new.lists.items in (
      c.in_default.ensures.sound,
      subst (λ seen. IsSaid seen new) (sym c.with_all-self-inside.ensures)
          (said_both s.seen.seen o.seen.seen (ranges_in s.lists.items) (ranges_in o.lists.items) new c.self.invariant.1 c.other.invariant.1 c.in_default.ensures.added),
      subst (λ seen. IsCounted seen c.add_lists.new.lists.items) (sym c.with_all-self-inside.ensures)
          (counted_both s.seen.seen o.seen.seen s.lists.items o.lists.items c.add_lists.new.lists.items c.self.invariant.2 c.other.invariant.2 c.in_default.ensures.indexes c.in_default.ensures.few),
    )
