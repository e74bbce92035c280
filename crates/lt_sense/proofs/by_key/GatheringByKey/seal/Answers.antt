use Rattle.lt_sense.proofs.ByKeySaid.{told_lists}
use Rattle.lt_sense.proofs.by_key.GatheringByKey.seal.Goals as goal

pub of-requires-clause-told : goal.of-requires-clause-told
of-requires-clause-told c =
    let s = c.self.inside in
    told_lists s.seen.seen s.lists.items c.finish_keyed.new.lists.items s.rest.items c.self.invariant.1 c.in_ok-finish_keyed.ensures.rows
