use Rattle.std.proofs.Common.{[], refl, sym, subst}
use Rattle.lt_sense.specs.ByKeyTold.{IsToldByKey}
use Rattle.lt_sense.proofs.ByKeySaid.{told_lists, told_root}
use Rattle.lt_sense.proofs.by_key.GatheringByKey.add_root.Goals as goal

pub invariant_of-self-2 : goal.invariant_of-self-2
invariant_of-self-2 c =
    let s = c.self.inside in (
      c.in_ok-add_root_range.ensures.sound,
      subst (λ seen. IsToldByKey seen c.add_root_range.new.lists.items s.rest.items) (sym c.with_root-self-inside.ensures)
          (told_root s.seen.seen s.lists.items c.add_root_range.new.lists.items s.rest.items (record { relation = c.args.relation; columns = c.args.perm.now; prefix = []; lo = c.args.lo; hi = c.args.hi }) refl c.self.invariant.1 c.in_ok-add_root_range.ensures.added),
    )

pub invariant_of-self : goal.invariant_of-self
invariant_of-self c =
    let s = c.self.inside in (
      c.in_err-add_root_range.ensures.sound,
      told_lists s.seen.seen s.lists.items c.add_root_range.new.lists.items s.rest.items c.self.invariant.1 c.in_err-add_root_range.ensures.err,
    )
