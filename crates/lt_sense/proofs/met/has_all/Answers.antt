use Rattle.std.proofs.Common.{subst, sym, ◌∙◌}
use Rattle.lt_sense.specs.Gathered.{IsOrder}
use Rattle.lt_sense.proofs.met.has_all.Goals as goal

pub returns : goal.returns
returns c so = record {
  relation_is = c.if-list-relation.false;
  width_is = sym c.len.ensures ∙ c.if-len-width.false;
  order = subst IsOrder c.as_slice.ensures (c.is_order.ensures so);
}
