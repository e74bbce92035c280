use Rattle.std.proofs.Common.{slice_set, refl, ap, ◌∙◌, arith}
use Rattle.lt_sense.specs.Spans.{have, stills}
use Rattle.lt_sense.proofs.Settled.{settled_rows, settled_sound, held_settled}
use Rattle.lt_sense.proofs.Spanned.{same_all}
use Rattle.lt_sense.proofs.spans.Spans.settle_at.Goals as goal

pub returns-clause-rows : goal.returns-clause-rows
returns-clause-rows c relation row below =
    let s = c.args.self.now in
    let kept = c.keep.new.self in
    let alike = c.in_ok-keep.ensures.alike in
    let gap = c.index-gap.result.now in
    let d = c.requires.sound.depth in
    ap (λ ranges. have ranges relation row) (same_all {k1 = stills kept} refl alike.relation alike.columns alike.at (ap (λ gaps. slice_set gaps c.args.depth (record { lo = gap.hi; hi = gap.hi })) alike.above) alike.lo alike.hi)
    ∙ settled_rows (stills s) (stills kept) s.relation s.columns s.at s.above.items s.lo s.hi c.args.depth gap (record { lo = gap.hi; hi = gap.hi }) (omega (arith, c.requires.within, d)) c.index-gap.ensures (omega arith) c.in_ok-keep.ensures.kept relation row below

pub returns-clause-sound : goal.returns-clause-sound
returns-clause-sound c =
    let gap = c.index-gap.result.now in
    settled_sound c.keep.new.self _ c.args.depth (record { lo = gap.hi; hi = gap.hi }) c.in_ok-keep.ensures.sound (omega arith) refl refl refl refl refl refl refl refl

pub returns-clause-few : goal.returns-clause-few
returns-clause-few c =
    let s = c.args.self.now in
    let gap = c.index-gap.result.now in
    let d = c.requires.sound.depth in
    held_settled s c.keep.new.self c.args.depth gap (record { lo = gap.hi; hi = gap.hi }) c.in_ok-keep.ensures.alike c.in_ok-keep.ensures.few (omega (arith, c.requires.within, d)) c.index-gap.ensures (omega (arith, c.if-gap.false)) (omega arith)
