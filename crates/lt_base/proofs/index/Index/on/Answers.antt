use Rattle.std.proofs.Common.{◌≡◌, ◌∙◌, ap, subst, List, map, length, arith}
use Rattle.std.specs.List.Sorted.{IsPermutation}
use Rattle.lt_face.specs.State.{Row, permuted}
use Rattle.lt_base.proofs.Sorts.{sorted_set, sorted_same}
use Rattle.lt_base.proofs.index.Index.on.Goals as goal

pub from_slice-columns-requires : goal.from_slice-columns-requires
from_slice-columns-requires g c =
    let long : length c.as_slice.result.now ≡ c.args.rows.now.width = ap length c.as_slice.ensures ∙ c.requires.perm.as_long in
    omega (arith, long, c.width-width.ensures.value, c.width-width.ensures.bound)

pub from_sorted-requires-clause-sorted : goal.from_sorted-requires-clause-sorted
from_sorted-requires-clause-sorted g c =
    let moved = subst (λ (l : List Row). IsPermutation l c.sort_rows.new.rows.items) (c.in_ok-list.ensures ∙ ap (λ p. map (permuted p) c.args.rows.now.rows) c.as_slice-2.ensures) c.sort_rows.ensures.permutation in
    rw (c.width-width.ensures.value, c.from_vec.ensures)
    (sorted_set c.args.rows.now.width c.args.perm.now c.args.rows.now.rows c.sort_rows.new.rows.items c.requires.perm c.width-width.ensures.is_set moved c.sort_rows.ensures.sorted)

pub returns-clause-indexed : goal.returns-clause-indexed
returns-clause-indexed g c =
    let moved = subst (λ (l : List Row). IsPermutation l c.sort_rows.new.rows.items) (c.in_ok-list.ensures ∙ ap (λ p. map (permuted p) c.args.rows.now.rows) c.as_slice-2.ensures) c.sort_rows.ensures.permutation in
    record {
      wide = c.in_ok-rows.ensures.width ∙ c.width-width.ensures.value;
      same = rw (c.in_ok-rows.ensures.rows, c.from_vec.ensures, c.from_slice-columns.ensures ∙ c.as_slice.ensures)
          (sorted_same c.args.rows.now.width c.args.perm.now c.args.rows.now.rows c.sort_rows.new.rows.items c.requires.perm c.width-width.ensures.is_set moved);
    }
