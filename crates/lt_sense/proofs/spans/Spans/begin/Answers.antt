use Rattle.std.proofs.Common.{◌≡◌, take, refl, ap, ◌∙◌, subst, arith}
use Rattle.lt_sense.specs.Spans.{have, stills, HaveAlso, under}
use Rattle.lt_sense.proofs.Lies.{take_whole}
use Rattle.lt_sense.proofs.Settled.{held_begun}
use Rattle.lt_sense.proofs.Spanned.{same_all, begins_anew}
use Rattle.lt_sense.proofs.spans.Spans.begin.Goals as goal

pub returns-clause-grown : goal.returns-clause-grown
returns-clause-grown c relation row below =
    let s = c.args.self.now in
    let kept = c.keep.new.self in
    let alike = c.in_ok-keep.ensures.alike in
    let whole : take c.width-depth.result s.at ≡ s.at = take_whole s.at c.width-depth.result (let e = c.width-depth.ensures.value in omega (arith, e)) in
    ap (λ ranges. have ranges relation row) (same_all {k1 = stills kept} refl alike.relation alike.columns alike.at alike.above refl refl)
    ∙ begins_anew (stills s) (stills kept) s.relation s.columns s.at s.above.items s.lo s.hi c.args.lo c.args.hi (subst (λ prefix. HaveAlso (stills s) (stills kept) (under s prefix s.lo s.hi)) whole c.in_ok-keep.ensures.kept) relation row below

pub returns-clause-few : goal.returns-clause-few
returns-clause-few c = held_begun c.args.self.now c.keep.new.self c.args.lo c.args.hi c.in_ok-keep.ensures.alike c.in_ok-keep.ensures.few
