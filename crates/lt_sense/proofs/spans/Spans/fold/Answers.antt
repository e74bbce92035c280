use Rattle.std.proofs.Common.{◌≡◌, ◌≤◌, ◌<◌, ◌+◌, ◌-◌, List, ℕ, length, take, get_or, slice_index, refl, sym, ap, ◌∙◌, subst, arith}
use Rattle.std.specs.Prelude.{nat_lt, if◌then◌else◌}
use Rattle.std.specs.Vec.{vec_len}
use Rattle.lt_sense.specs.Spans.{have, stills, IsSpans, HaveAlso, under, ranges_of}
use Rattle.lt_sense.specs.Held.{open_count, held}
use Rattle.lt_sense.proofs.Settled.{held_folded}
use Rattle.lt_sense.proofs.Spanned.{all_of, same_all, rise_sound, whole_on, whole_anew, up_of}
use Rattle.lt_sense.proofs.spans.Spans.fold.Goals as goal
use Rattle.lt_sense.proofs.spans.Spans.fold.Goals.{then-gap-key+in_ok-keep, else-gap-key}

pub returns-clause-sound : goal.returns-clause-sound
returns-clause-sound c =
    let s = c.args.self.now in
    let mid = c.if-gap-key.self in
    let gap = c.index-gap.result.now in
    let there = c.index-gap.ensures ∙ ap (λ n. get_or s.above.items (n - 1) gap) c.width-depth.ensures.value in
    let up = up_of s gap c.requires.sound c.requires.below there in
    let popped : c.pop.new.self.items ≡ take (length mid.above.items - 1) mid.above.items = c.pop.ensures.rest ∙ ap (λ n. take (n - 1) mid.above.items) (let e : vec_len mid.above ≡ length mid.above.items = omega arith in e) in
    let facts : IsSpans mid × (0 < length mid.at) × (c.if-gap-key.lo ≤ c.cell-key.result + 1) = elim c.if-gap-key.branch [
      | then-gap-key+in_ok-keep w ↦ rw (w.self-is, w.lo-is) (w.in_ok-keep.ensures.sound, subst (λ (xs : List ℕ). 0 < length xs) (sym w.in_ok-keep.ensures.alike.at) c.requires.below, omega arith)
      | else-gap-key w ↦ rw (w.self-is, w.lo-is) (c.requires.sound, c.requires.below, omega (arith, up, w.if-gap-key.false))
    ] in
    rise_sound mid (record mid { at = c.pop-2.new.self; lo = c.if-gap-key.lo; hi = c.cell-key.result + 1; above = c.pop.new.self }) facts.0 facts.1 refl refl refl refl c.pop-2.ensures.rest popped facts.2

pub returns-clause-rows : goal.returns-clause-rows
returns-clause-rows c relation row below =
    let s = c.args.self.now in
    let mid = c.if-gap-key.self in
    let gap = c.index-gap.result.now in
    let depth = c.width-depth.ensures.value in
    let there = c.index-gap.ensures ∙ ap (λ n. get_or s.above.items (n - 1) gap) depth in
    let is = c.cell-key.ensures ∙ ap (λ n. slice_index s.at (n - 1)) depth in
    let popped : c.pop.new.self.items ≡ take (length mid.above.items - 1) mid.above.items = c.pop.ensures.rest ∙ ap (λ n. take (n - 1) mid.above.items) (let e : vec_len mid.above ≡ length mid.above.items = omega arith in e) in
    let folded : have (all_of (stills mid) mid.relation mid.columns (take (length mid.at - 1) mid.at) (take (length mid.above.items - 1) mid.above.items) c.if-gap-key.lo (c.cell-key.result + 1)) relation row ≡ have (ranges_of s) relation row = elim c.if-gap-key.branch [
      | then-gap-key+in_ok-keep w ↦
          let kept = w.keep.new.self in
          let alike = w.in_ok-keep.ensures.alike in
          rw (w.self-is, w.lo-is)
          (ap (λ ranges. have ranges relation row) (same_all {k1 = stills kept} refl alike.relation alike.columns (ap (λ xs. take (length xs - 1) xs) alike.at) (ap (λ xs. take (length xs - 1) xs) alike.above) refl refl)
          ∙ whole_anew s (stills kept) c.cell-key.result gap c.requires.sound c.requires.below c.requires.above c.requires.all there is
          (subst (λ n. HaveAlso (stills s) (stills kept) (under s (take (n - 1) s.at) gap.lo gap.hi)) depth w.in_ok-keep.ensures.kept) relation row below)
      | else-gap-key w ↦ rw (w.self-is, w.lo-is) (whole_on s c.cell-key.result gap c.requires.sound c.requires.below c.requires.above c.requires.all there is w.if-gap-key.false relation row below)
    ] in
    ap (λ ranges. have ranges relation row) (same_all {k1 = stills mid} refl refl refl c.pop-2.ensures.rest popped refl refl)
    ∙ folded

pub returns-clause-few : goal.returns-clause-few
returns-clause-few c =
    let s = c.args.self.now in
    let mid = c.if-gap-key.self in
    let gap = c.index-gap.result.now in
    let there = c.index-gap.ensures ∙ ap (λ n. get_or s.above.items (n - 1) gap) c.width-depth.ensures.value in
    let popped : c.pop.new.self.items ≡ take (length mid.above.items - 1) mid.above.items = c.pop.ensures.rest ∙ ap (λ n. take (n - 1) mid.above.items) (let e : vec_len mid.above ≡ length mid.above.items = omega arith in e) in
    let folded : length mid.ranges.items + (open_count (take (length mid.above.items - 1) mid.above.items) + (if nat_lt c.if-gap-key.lo (c.cell-key.result + 1) then 1 else 0)) ≤ held s = elim c.if-gap-key.branch [
      | then-gap-key+in_ok-keep w ↦ rw (w.self-is, w.lo-is) (held_folded s w.keep.new.self gap c.cell-key.result (c.cell-key.result + 1) c.requires.sound c.requires.below there c.requires.all w.in_ok-keep.ensures.alike.above w.in_ok-keep.ensures.few)
      | else-gap-key w ↦ rw (w.self-is, w.lo-is) (held_folded s s gap gap.lo (c.cell-key.result + 1) c.requires.sound c.requires.below there c.requires.all refl (omega arith))
    ] in
    rw popped folded
