use Rattle.std.proofs.Common.{refl, ap, ◌∙◌, arith}
use Rattle.lt_sense.specs.Held.{open_count}
use Rattle.lt_sense.specs.Spans.{have, stills, ranges_of}
use Rattle.lt_sense.proofs.Closed.{all_kept, none_grows}
use Rattle.lt_sense.proofs.Spanned.{same_all}
use Rattle.lt_sense.proofs.spans.Spans.close.Goals as goal

pub returns-clause-rows : goal.returns-clause-rows
returns-clause-rows c relation row below =
    let mid = c.rise_to.new.self in
    let kept = c.keep.new.self in
    let alike = c.in_ok-keep.ensures.alike in
    ap (λ ranges. have ranges relation row) (same_all {k1 = stills kept} refl alike.relation alike.columns alike.at alike.above refl refl)
    ∙ none_grows mid (stills kept) (ranges_of c.args.self.now) c.in_ok-rise_to.ensures.at c.in_ok-rise_to.ensures.rows c.in_ok-keep.ensures.kept relation row below

pub returns-clause-kept : goal.returns-clause-kept
returns-clause-kept c =
    let mid = c.rise_to.new.self in
    let kept = c.keep.new.self in
    all_kept mid (stills kept) (ranges_of c.args.self.now) c.in_ok-rise_to.ensures.sound c.in_ok-rise_to.ensures.at c.in_ok-rise_to.ensures.rows c.in_ok-keep.ensures.kept

pub returns-clause-few : goal.returns-clause-few
returns-clause-few c =
    let a = c.in_ok-rise_to.ensures.few in
    let b = c.in_ok-keep.ensures.few in
    let e = ap open_count c.in_ok-keep.ensures.alike.above in
    omega (arith, a, b, e)
