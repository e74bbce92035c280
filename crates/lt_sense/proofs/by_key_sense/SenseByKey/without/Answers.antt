use Rattle.std.proofs.Common.{sym, subst}
use Rattle.lt_sense.specs.ByKeyTold.{IsToldByKey}
use Rattle.lt_sense.proofs.ByKeyLeft.{told_without}
use Rattle.lt_sense.proofs.by_key_sense.SenseByKey.without.Goals as goal

pub of-requires-clause-told : goal.of-requires-clause-told
of-requires-clause-told c =
    let s = c.self.inside in
    subst (λ seen. IsToldByKey seen c.in_ok-lists.lists.items c.in_ok-rest.rest.items) (sym c.without-seen.ensures)
    (told_without s.seen.seen c.args.keys.now s.lists.items c.in_ok-lists.lists.items s.rest.items c.in_ok-rest.rest.items c.self.invariant.1 c.in_ok-lists.ensures.left c.in_ok-rest.ensures)
