use Rattle.std.proofs.Common.{◌≡◌, length, sym, ap, ◌∙◌, subst, arith}
use Rattle.std.specs.List.{AllByRecursion}
use Rattle.std.proofs.lemmas.List.Elements.{All-from_recursion, recursion_from_All}
use Rattle.std.proofs.lemmas.List.Sorted.{All-permutation, list_any-IsPermutation, length_permutation, IsPermutation-map}
use Rattle.lt_sense.specs.Apart.{still_in, stills_in, IsKeptSpan}
use Rattle.lt_sense.specs.Sense.{gap_covers}
use Rattle.lt_sense.specs.Spans.{have}
use Rattle.lt_sense.proofs.Lies.{length_map}
use Rattle.lt_sense.proofs.spans.Spans.put_in_order.Goals as goal

pub united-requires-clause-kept : goal.united-requires-clause-kept
united-requires-clause-kept c =
    let s = c.args.self.now in
    let all = c.in_ok-all.all.items in
    subst (AllByRecursion (IsKeptSpan s)) (sym c.deref-2.ensures.value)
    (recursion_from_All (IsKeptSpan s) all (All-permutation (IsKeptSpan s) s.ranges.items all c.in_ok-all.ensures.same (All-from_recursion (IsKeptSpan s) s.ranges.items c.requires.sound.ranges)))

pub returns-clause-rows : goal.returns-clause-rows
returns-clause-rows c relation row below =
    let s = c.args.self.now in
    let all = c.in_ok-all.all.items in
    c.in_ok-ranges.ensures.same.alike relation row
    ∙ ap (λ xs. have (stills_in s xs) relation row) c.deref-2.ensures.value
    ∙ sym (list_any-IsPermutation (λ range. gap_covers range relation row) (stills_in s s.ranges.items) (stills_in s all) (IsPermutation-map (still_in s) s.ranges.items all c.in_ok-all.ensures.same))

pub returns-clause-few : goal.returns-clause-few
returns-clause-few c =
    let s = c.args.self.now in
    let all = c.in_ok-all.all.items in
    let new = c.in_ok-ranges.ranges.items in
    let few = c.in_ok-ranges.ensures.same.few in
    let a = length_map (still_in s) new in
    let b = length_map (still_in s) c.deref-2.result.now in
    let d : length c.deref-2.result.now ≡ length all = ap length c.deref-2.ensures.value in
    let e = length_permutation s.ranges.items all c.in_ok-all.ensures.same in
    omega (arith, few, a, b, d, e)
