use Rattle.std.proofs.Common.{◌∙◌, sym, ap}
use Rattle.std.specs.Arc.{arc_value}
use Rattle.lt_delta.specs.Finding.{is_before}
use Rattle.lt_delta.proofs.Puts.{last_before}
use Rattle.lt_delta.proofs.adding.are_before.Goals as goal

pub returns-in-Some : goal.returns-in-Some
returns-in-Some c = λ h.
    last_before arc_value c.args.marks.now c.args.mark.now c.in-Some.last.now c.requires c.in-Some.ensures.item.3.0 c.in-Some.ensures.item.1
    (ap (is_before c.args.mark.now.relation c.args.mark.now.row) (sym c.deref.ensures) ∙ sym c.is_before.ensures ∙ h)
