use Rattle.std.proofs.Common.{sym, subst}
use Rattle.lt_sense.specs.ByKeyTold.{IsToldByKey}
use Rattle.lt_sense.proofs.ByKeySaid.{told_both}
use Rattle.lt_sense.proofs.by_key.GatheringByKey.add_all.Goals as goal

pub invariant_of-self-2 : goal.invariant_of-self-2
invariant_of-self-2 c =
    let s = c.self.inside in
    let o = c.other.inside in (
      c.in_default.ensures.sound,
      subst (λ seen. IsToldByKey seen c.take_both.new.lists.items c.take_both.new.rest.items) (sym c.with_all-self-inside.ensures)
          (told_both s.seen.seen o.seen.seen s.lists.items c.take_both.new.lists.items o.lists.items s.rest.items c.take_both.new.rest.items o.rest.items c.self.invariant.1 c.other.invariant.1 c.in_default.ensures.taken),
    )
