use Rattle.std.proofs.Common.{sym, ap, ◌∙◌}
use Rattle.std.specs.Option.{option_copied}
use Rattle.lt_over.specs.Overlaid.{lesser}
use Rattle.lt_over.proofs.Firsts.{from_none, from_here, from_past, from_has, from_stops, lesser_before}
use Rattle.lt_over.proofs.search.least_from.Goals as goal

pub least_above-requires : goal.least_above-requires
least_above-requires g c =
    from_has (g.B.RowReads.rows c.args.base.now) c.requires.0 c.in-Some.row.now (sym (sym (ap option_copied c.in-Some.is) ∙ c.requires.1))

pub returns-in-None : goal.returns-in-None
returns-in-None g c = λ q is.
    sym (ap (λ o. lesser o (option_copied c.args.more)) (from_none (g.B.RowReads.rows c.args.base.now) c.args.layer.now.gone q (sym (sym (ap option_copied c.in-None.is) ∙ is))))

pub returns-then-reaches : goal.returns-then-reaches
returns-then-reaches g c = λ q is.
    sym (from_stops (g.B.RowReads.rows c.args.base.now) c.args.layer.now.gone q c.in-Some.row.now (option_copied c.args.more) c.width-width.ensures.is_set.rises (sym (sym (ap option_copied c.in-Some.is) ∙ is))
    (sym c.reaches.ensures ∙ c.if-reaches.true))

pub returns-then-takes : goal.returns-then-takes
returns-then-takes g c = λ q is.
    c.least_above.ensures
    ∙ ap (λ o. lesser o (option_copied c.args.more)) (sym (from_past (g.B.RowReads.rows c.args.base.now) c.args.layer.now.gone q c.in-Some.row.now c.width-width.ensures.is_set.rises (sym (sym (ap option_copied c.in-Some.is) ∙ is)) (sym c.takes.ensures ∙ c.if-takes.true)))

pub returns-else-takes : goal.returns-else-takes
returns-else-takes g c = λ q is.
    sym (ap (λ o. lesser o (option_copied c.args.more)) (from_here (g.B.RowReads.rows c.args.base.now) c.args.layer.now.gone q c.in-Some.row.now (sym (sym (ap option_copied c.in-Some.is) ∙ is)) (sym c.takes.ensures ∙ c.if-takes.false))
    ∙ lesser_before (option_copied c.args.more) c.in-Some.row.now (sym c.reaches.ensures ∙ c.if-reaches.false))
