use Rattle.std.proofs.Common.{refl, ap, ◌∙◌, map, arith, []}
use Rattle.lt_sense.specs.Spans.{have, still}
use Rattle.lt_sense.proofs.Spanned.{same_all, have_all, covers_nothing}
use Rattle.lt_sense.proofs.spans.Spans.new.Goals as goal

pub returns-clause-none : goal.returns-clause-none
returns-clause-none c relation row below =
    ap (λ ranges. have ranges relation row) (same_all (ap (map (still c.args.relation c.args.columns c.new-3.result.items c.new-2.result.items)) c.new-4.ensures.items) refl refl refl c.new.ensures.items refl refl)
    ∙ have_all [] c.args.relation c.args.columns c.from_cells.result [] 0 0 relation row
    ∙ covers_nothing c.args.relation c.args.columns c.from_cells.result 0 0 (omega arith) relation row
