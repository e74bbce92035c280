use Rattle.std.proofs.Common.{sym, subst}
use Rattle.lt_sense.specs.ByKeyTold.{IsToldByKey}
use Rattle.lt_sense.specs.Gathered.{ranges_in}
use Rattle.lt_sense.proofs.ByKeySaid.{told_slice}
use Rattle.lt_sense.proofs.by_key.GatheringByKey.add_slice.Goals as goal

pub invariant_of-self-2 : goal.invariant_of-self-2
invariant_of-self-2 c =
    let s = c.self.inside in (
      c.in_default.ensures.sound,
      subst (λ seen. IsToldByKey seen c.take_lists.new.lists.items c.take_lists.new.rest.items) (sym c.with_slice-seen.ensures)
          (told_slice s.seen.seen s.lists.items c.take_lists.new.lists.items s.rest.items c.take_lists.new.rest.items (record { key = c.args.key; sense = c.args.sense }) (ranges_in c.into_lists-parts.result.items) c.self.invariant.1 c.into_lists-parts.ensures.said c.in_default.ensures.taken),
    )
