use Rattle.std.proofs.Common.{◌≡◌, ◌∙◌, sym, arith, true}
use Rattle.std.specs.Arc.{arc_value}
use Rattle.lt_delta.proofs.Owners.{own_same}
use Rattle.lt_delta.proofs.marks.are_same.Goals as goal

pub returns-then-not-is_same : goal.returns-then-not-is_same
returns-then-not-is_same c = (
  λ never. absurd (cc),
  λ e.
      let one = own_same arc_value c.args.a.now c.args.b.now c.loop-i.i c.index-a-i.result c.index-b-i.result c.loop-i-test.true (omega arith) c.index-a-i.is c.index-b-i.is e in
      let said : c.is_same.result ≡ true = c.is_same.ensures.1 (c.deref.ensures ∙ one ∙ sym c.deref-in-loop-i.ensures) in
      absurd (cc),
)
