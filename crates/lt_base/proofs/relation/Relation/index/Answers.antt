use Rattle.std.proofs.Common.{◌≡◌, ◌∙◌, sym, ap, true}
use Rattle.lt_face.specs.State.{row_eq}
use Rattle.lt_delta.specs.Columns.{numbers}
use Rattle.lt_base.proofs.OwnOrder.{own_index}
use Rattle.lt_base.proofs.Finds.{other_index}
use Rattle.lt_base.proofs.relation.Relation.index.Goals as goal

pub returns-then-is_own_order-clause-rows : goal.returns-then-is_own_order-clause-rows
returns-then-is_own_order-clause-rows c =
    let own : row_eq c.args.perm.now (numbers 0 c.self.inside.first.width) ≡ true =
    sym (c.is_own_order.ensures ∙ ap (λ s. row_eq s (numbers 0 c.width.result)) c.as_slice.ensures ∙ ap (λ w. row_eq c.args.perm.now (numbers 0 w)) c.width.ensures.value) ∙ c.if-is_own_order.true in
    rw (← c.self.view_is) (own_index c.self.inside.first.width c.self.inside.first.rows c.args.perm.now c.width.ensures.is_set own)

pub returns-in-Some-clause-rows : goal.returns-in-Some-clause-rows
returns-in-Some-clause-rows c =
    rw (← c.self.view_is) (other_index c.self.inside.first.width c.self.inside.first.rows c.self.inside.others.items c.in-Some.index.now c.args.perm.now c.width.ensures.is_set c.self.invariant.1
    (rw c.deref.ensures.value at c.in-Some.ensures.found.1) c.in-Some.ensures.found.0)
