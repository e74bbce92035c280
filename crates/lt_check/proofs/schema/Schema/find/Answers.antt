use Rattle.std.proofs.Common.{sym, ◌∙◌}
use Rattle.std.specs.Str.{bytes_eq}
use Rattle.lt_check.proofs.Places.{place_in}
use Rattle.lt_check.proofs.schema.Schema.find.Goals as goal

pub returns-then-is_named : goal.returns-then-is_named
returns-then-is_named c =
    place_in (λ heading. bytes_eq heading.0 c.args.name.now) c.as_slice-heading-items.result.now c.args.self.now c.loop-number.number c.heading-item.result (c.as_slice-heading-items.ensures ∙ c.self.view_is) c.loop-number-test.true c.heading-item.is
    (sym c.is_named.ensures ∙ c.if-is_named.true) c.loop-number.invariant
