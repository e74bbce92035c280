use Rattle.std.proofs.Common.{◌≡◌, false, map, take, drop, sym, ap, subst, ◌∙◌}
use Rattle.std.specs.Arc.{arc_value}
use Rattle.std.specs.List.{AllByRecursion}
use Rattle.std.proofs.lemmas.List.{drop-map, take-map}
use Rattle.lt_model.specs.Marks.{Marks, AreMarks, and_then}
use Rattle.lt_delta.specs.Finding.{is_before}
use Rattle.lt_delta.proofs.Merges.{rest_ascends}
use Rattle.lt_delta.proofs.Owners.{owned_at, owned_within, pushed}
use Rattle.lt_delta.proofs.Searched.{searched}
use Rattle.lt_delta.proofs.merging.merged_by_search.Goals as goal

pub left_behind-left-requires-clause-ascend : goal.left_behind-left-requires-clause-ascend
left_behind-left-requires-clause-ascend c =
    let is : map arc_value c.split_at.result.1.now ≡ drop c.place_for-place.result (map arc_value c.loop-owner.left.now) = ap (map arc_value) c.split_at.ensures.back ∙ sym (drop-map arc_value c.place_for-place.result c.loop-owner.left.now) in
    subst (λ (t : Marks). AreMarks t) (sym is) (rest_ascends (map arc_value c.loop-owner.left.now) c.place_for-place.result c.loop-owner.invariant.ascend)

pub left_behind-left-requires-clause-none_before : goal.left_behind-left-requires-clause-none_before
left_behind-left-requires-clause-none_before c =
    let is : map arc_value c.split_at.result.1.now ≡ drop c.place_for-place.result (map arc_value c.loop-owner.left.now) = ap (map arc_value) c.split_at.ensures.back ∙ sym (drop-map arc_value c.place_for-place.result c.loop-owner.left.now) in
    subst (AllByRecursion (λ m. is_before c.deref-mark.result.now.relation c.deref-mark.result.now.row m ≡ false)) (sym is) c.place_for-place.ensures.after

pub loop-owner-preserved : goal.loop-owner-preserved
loop-owner-preserved c =
    let is_behind : map arc_value c.split_at.result.1.now ≡ drop c.place_for-place.result (map arc_value c.loop-owner.left.now) = ap (map arc_value) c.split_at.ensures.back ∙ sym (drop-map arc_value c.place_for-place.result c.loop-owner.left.now) in
    let is_front : map arc_value c.split_at.result.0.now ≡ take c.place_for-place.result (map arc_value c.loop-owner.left.now) = ap (map arc_value) c.split_at.ensures.front ∙ sym (take-map arc_value c.place_for-place.result c.loop-owner.left.now) in
    let is_mark = c.deref-mark.ensures ∙ owned_at arc_value c.args.second.now c.loop-owner.owner-index c.owner-item.result c.deref-mark.result.now c.loop-owner-test.true c.owner-item.is in
    let is_new = pushed arc_value c.append.new.list.items c.push.new.self.items c.in_ok-more.more c.deref-mark.result.now c.in_ok-push.ensures.items (c.in_ok-more.ensures.cases ∙ sym c.deref-mark.ensures) in
    record {
      done = searched (map arc_value c.loop-owner.marks.items) (map arc_value c.append.new.list.items) (map arc_value c.push.new.self.items) (map arc_value c.loop-owner.left.now)
          (map arc_value c.split_at.result.0.now) (map arc_value c.split_at.result.1.now) (map arc_value c.left_behind-left.result.now) (map arc_value c.args.second.now)
          (and_then (map arc_value c.args.first.now) (map arc_value c.args.second.now)) c.loop-owner.owner-index c.place_for-place.result c.deref-mark.result.now
          (owned_within arc_value c.args.second.now c.loop-owner.owner-index c.loop-owner-test.true) is_mark c.requires.second c.place_for-place.ensures is_front is_behind c.in_ok-append.ensures is_new
          c.left_behind-left.ensures.left c.loop-owner.invariant.done;
      ascend = c.left_behind-left.ensures.ascend;
    }
