use Rattle.std.proofs.Common.{◌≡◌, ◌-◌, length, take, get_or, refl, ap, ◌∙◌, subst, arith}
use Rattle.std.specs.Vec.{vec_len}
use Rattle.lt_sense.specs.Spans.{have, stills, HaveAlso, under}
use Rattle.lt_sense.proofs.Lies.{take_whole}
use Rattle.lt_sense.proofs.Settled.{held_risen}
use Rattle.lt_sense.proofs.Spanned.{same_all, rises}
use Rattle.lt_sense.proofs.spans.Spans.step_up.Goals as goal

pub returns-clause-rows : goal.returns-clause-rows
returns-clause-rows c relation row below =
    let s = c.args.self.now in
    let mid = c.keep.new.self in
    let alike = c.in_ok-keep.ensures.alike in
    let gap = c.index-gap.result.now in
    let whole : take c.width-depth.result s.at ≡ s.at = take_whole s.at c.width-depth.result (let e = c.width-depth.ensures.value in omega (arith, e)) in
    let popped : c.pop.new.self.items ≡ take (length mid.above.items - 1) mid.above.items = c.pop.ensures.rest ∙ ap (λ n. take (n - 1) mid.above.items) (let e : vec_len mid.above ≡ length mid.above.items = omega arith in e) in
    ap (λ ranges. have ranges relation row) (same_all {k1 = stills mid} refl alike.relation alike.columns (c.pop-2.ensures.rest ∙ ap (λ xs. take (length xs - 1) xs) alike.at) (popped ∙ ap (λ xs. take (length xs - 1) xs) alike.above) refl refl)
    ∙ rises s (stills mid) gap c.requires.sound c.requires.below (c.index-gap.ensures ∙ ap (λ n. get_or s.above.items (n - 1) gap) c.width-depth.ensures.value)
    (subst (λ prefix. HaveAlso (stills s) (stills mid) (under s prefix s.lo s.hi)) whole c.in_ok-keep.ensures.kept) relation row below

pub returns-clause-few : goal.returns-clause-few
returns-clause-few c =
    let s = c.args.self.now in
    let mid = c.keep.new.self in
    let gap = c.index-gap.result.now in
    let popped : c.pop.new.self.items ≡ take (length mid.above.items - 1) mid.above.items = c.pop.ensures.rest ∙ ap (λ n. take (n - 1) mid.above.items) (let e : vec_len mid.above ≡ length mid.above.items = omega arith in e) in
    rw popped (held_risen s mid gap c.requires.sound c.requires.below (c.index-gap.ensures ∙ ap (λ n. get_or s.above.items (n - 1) gap) c.width-depth.ensures.value) c.in_ok-keep.ensures.alike c.in_ok-keep.ensures.few)
