use Rattle.std.proofs.Common.{◌≡◌, ◌∙◌, sym, refl, rules}
use Rattle.std.specs.Arc.{arc_value}
use Rattle.lt_base.proofs.States.{not_named}
use Rattle.lt_base.proofs.database.relation_laid.Goals as goal

pub returns-then-not-is_named : goal.returns-then-not-is_named
returns-then-not-is_named c =
    let same : arc_value c.in_ok-same.same ≡ arc_value c.args.relation.now = search rules in
    same ∙ sym (not_named c.args.number (arc_value c.args.relation.now) c.args.marks.now (c.if-not-is_named.ensures.unnamed refl))

pub laid-requires : goal.laid-requires
laid-requires c = rw c.deref.ensures c.requires
