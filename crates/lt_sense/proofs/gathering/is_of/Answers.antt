use Rattle.std.proofs.Common.{sym, ap, ◌∙◌}
use mathlib.Core.Bool.{true≢false}
use Rattle.lt_sense.specs.Held.{Index}
use lib.Pointwise.{bytes_decides}
use Rattle.lt_sense.proofs.gathering.is_of.Goals as goal

pub returns-then-list-relation-clause-other : goal.returns-then-list-relation-clause-other
returns-then-list-relation-clause-other c off e = c.if-list-relation.true (ap (λ (i : Index). i.0) e)

pub returns-clause-same : goal.returns-clause-same
returns-clause-same c so =
    ap (λ n. (n, c.args.list.now.columns)) c.if-list-relation.false
    ∙ ap (λ cs. (c.args.relation, cs)) (sym c.as_slice.ensures ∙ (bytes_decides _ _).0 (sym c.eq.ensures ∙ so) ∙ c.as_slice-2.ensures)

pub returns-clause-other : goal.returns-clause-other
returns-clause-other c off e = true≢false (sym ((bytes_decides _ _).1 (c.as_slice.ensures ∙ ap (λ (i : Index). i.1) e ∙ sym c.as_slice-2.ensures)) ∙ sym c.eq.ensures ∙ off)
