use Rattle.std.proofs.Common.{◌≡◌, ◌∙◌, sym, refl}
use Rattle.lt_base.proofs.Finds.{in_at, any_in, none_more}
use Rattle.lt_base.proofs.relation.found.Goals as goal

pub returns-then-is_same_order-clause-there : goal.returns-then-is_same_order-clause-there
returns-then-is_same_order-clause-there c =
    let same : c.index-item.result.columns ≡ c.args.perm.now = sym c.as_slice.ensures ∙ c.if-is_same_order.ensures.same refl ∙ c.as_slice-in-loop-index.ensures in
    sym (any_in c.args.perm.now c.args.others.now c.index-item.result (in_at c.args.others.now c.loop-index.index-index c.index-item.result c.loop-index-test.true c.index-item.is) same)

pub returns-then-is_same_order-clause-found : goal.returns-then-is_same_order-clause-found
returns-then-is_same_order-clause-found c =
    let same : c.index-item.result.columns ≡ c.args.perm.now = sym c.as_slice.ensures ∙ c.if-is_same_order.ensures.same refl ∙ c.as_slice-in-loop-index.ensures in
    (same, in_at c.args.others.now c.loop-index.index-index c.index-item.result c.loop-index-test.true c.index-item.is)

pub loop-index-preserved : goal.loop-index-preserved
loop-index-preserved c =
    none_more c.args.perm.now c.args.others.now c.loop-index.index-index c.index-item.result c.loop-index-test.true c.index-item.is
    (λ e. c.if-is_same_order.ensures.differ refl (c.as_slice.ensures ∙ e ∙ sym c.as_slice-in-loop-index.ensures)) c.loop-index.invariant
