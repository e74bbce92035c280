use Rattle.std.proofs.Common.{refl, ap, ◌∙◌, arith}
use Rattle.lt_sense.specs.Spans.{have, stills}
use Rattle.lt_sense.specs.Held.{open_count}
use Rattle.lt_sense.proofs.Costs.{open_next}
use Rattle.lt_sense.proofs.Spanned.{same_all, goes_down}
use Rattle.lt_sense.proofs.spans.Spans.sink.Goals as goal

pub returns-clause-rows : goal.returns-clause-rows
returns-clause-rows c relation row below =
    let s = c.args.self.now in
    ap (λ ranges. have ranges relation row) (same_all {k1 = stills s} refl refl refl c.push-2.ensures c.in_ok-push.ensures.items refl refl)
    ∙ goes_down (stills s) s.relation s.columns s.at c.args.key s.above.items (record { lo = s.lo; hi = s.hi }) c.requires.sound.depth relation row below

pub returns-clause-few : goal.returns-clause-few
returns-clause-few c =
    let s = c.args.self.now in
    let e = ap open_count c.in_ok-push.ensures.items ∙ open_next s.above.items (record { lo = s.lo; hi = s.hi }) in
    omega (arith, e)
