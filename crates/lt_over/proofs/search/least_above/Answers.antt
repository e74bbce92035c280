use Rattle.std.proofs.Common.{sym, refl, ap, ◌∙◌}
use Rattle.std.specs.Option.{option_copied}
use Rattle.lt_over.specs.Overlaid.{lesser}
use Rattle.lt_over.proofs.Firsts.{above_none, above_here, above_past, above_has, above_fewer, above_stops, lesser_before}
use Rattle.lt_over.proofs.search.least_above.Goals as goal

pub loop-more-init : goal.loop-more-init
loop-more-init g c = record { there = c.requires; same = refl }

pub row_above-requires : goal.row_above-requires
row_above-requires g c = c.loop-more.invariant.there

pub returns-in-None : goal.returns-in-None
returns-in-None g c =
    sym (ap (λ o. lesser o (option_copied c.args.more)) (c.loop-more.invariant.same ∙ above_none (g.B.RowReads.rows c.args.base.now) c.args.layer.now.gone c.loop-more.from.now (sym c.in-None.ensures)))

pub returns-then-reaches : goal.returns-then-reaches
returns-then-reaches g c =
    sym (ap (λ o. lesser o (option_copied c.args.more)) c.loop-more.invariant.same
    ∙ above_stops (g.B.RowReads.rows c.args.base.now) c.args.layer.now.gone c.loop-more.from.now c.in-Some.next.now (option_copied c.args.more) c.width-width.ensures.is_set.rises (sym c.in-Some.ensures)
    (sym c.reaches.ensures ∙ c.if-reaches.true))

pub returns-then-not-takes : goal.returns-then-not-takes
returns-then-not-takes g c =
    sym (ap (λ o. lesser o (option_copied c.args.more)) (c.loop-more.invariant.same ∙ above_here (g.B.RowReads.rows c.args.base.now) c.args.layer.now.gone c.loop-more.from.now c.in-Some.next.now (sym c.in-Some.ensures) (sym c.takes.ensures ∙ c.if-not-takes.true))
    ∙ lesser_before (option_copied c.args.more) c.in-Some.next.now (sym c.reaches.ensures ∙ c.if-reaches.false))

pub loop-more-smaller : goal.loop-more-smaller
loop-more-smaller g c = above_fewer (g.B.RowReads.rows c.args.base.now) c.loop-more.from.now c.in-Some.next.now (sym c.in-Some.ensures)

pub loop-more-preserved : goal.loop-more-preserved
loop-more-preserved g c = record {
  there = above_has (g.B.RowReads.rows c.args.base.now) c.loop-more.from.now c.in-Some.next.now (sym c.in-Some.ensures);
  same =
      c.loop-more.invariant.same
      ∙ above_past (g.B.RowReads.rows c.args.base.now) c.args.layer.now.gone c.loop-more.from.now c.in-Some.next.now c.width-width.ensures.is_set.rises (sym c.in-Some.ensures)
      (sym c.takes.ensures ∙ c.if-not-takes.false);
}
