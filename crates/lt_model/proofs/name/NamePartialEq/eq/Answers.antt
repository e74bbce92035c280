use Rattle.std.proofs.Common.{◌∙◌, nat_eq}
use Rattle.std.specs.Cmp.Lexicographic.{pointwise}
use Rattle.lt_model.proofs.Names.{same_names}
use Rattle.lt_model.proofs.name.NamePartialEq.eq.Goals as goal

pub returns : goal.returns
returns c =
    (λ i. nat_eq (c.from_be_bytes.ensures i) (c.from_be_bytes-2.ensures i))
    ∙ same_names c.self.inside.digits c.other.inside.digits c.self.told c.other.told (c.self.invariant.1, c.self.invariant.2, c.self.invariant.3) (c.other.invariant.1, c.other.invariant.2, c.other.invariant.3)
    ∙ (λ i. pointwise nat_eq (c.self.view_is i) (c.other.view_is i))
