use Rattle.lt_sense.specs.Gathered.{ranges_in}
use Rattle.lt_sense.proofs.Said.{said_same}
use Rattle.lt_sense.proofs.Tallied.{counted_same}
use Rattle.lt_sense.proofs.gathering.Gathering.seal.Goals as goal

pub of-requires-clause-said : goal.of-requires-clause-said
of-requires-clause-said c =
    let s = c.self.inside in
    said_same s.seen.seen (ranges_in s.lists.items) (ranges_in c.finish_all.new.lists.items) c.self.invariant.1 c.in_ok-finish_all.ensures.rows

pub of-requires-clause-counted : goal.of-requires-clause-counted
of-requires-clause-counted c =
    let s = c.self.inside in
    counted_same s.seen.seen s.lists.items c.finish_all.new.lists.items c.self.invariant.2 c.in_ok-finish_all.ensures.indexes c.in_ok-finish_all.ensures.few
