use Rattle.std.proofs.Common.{true, false, ℕ, List, map, ap, ◌∙◌, subst}
use Rattle.std.specs.List.Sorted.{IsPermutation}
use Rattle.lt_face.specs.State.{Row, permuted}
use Rattle.lt_delta.specs.Laying.{marked}
use Rattle.lt_base.proofs.Sorts.{sorted_set, sorted_same}
use Rattle.lt_base.proofs.Edited.{IsRowSet-marked, laid_by_permuted}
use Rattle.lt_base.proofs.index.edits_in.Goals as goal

pub returns : goal.returns
returns c = λ width perm fit.
    let columns = c.args.columns.now in
    let relation = c.args.relation in
    let marks = c.args.marks.now in
    let gone : IsPermutation (map (permuted columns) (marked relation false marks)) c.sorted-gone.result =
    subst (λ (l : List Row). IsPermutation l c.sorted-gone.result) (c.in_ok-edits.ensures.gone ∙ ap (λ (cs : List ℕ). map (permuted cs) (marked relation false marks)) c.as_slice.ensures) c.sorted-gone.ensures.moved in
    let come : IsPermutation (map (permuted columns) (marked relation true marks)) c.sorted-come.result =
    subst (λ (l : List Row). IsPermutation l c.sorted-come.result) (c.in_ok-edits.ensures.come ∙ ap (λ (cs : List ℕ). map (permuted cs) (marked relation true marks)) c.as_slice.ensures) c.sorted-come.ensures.moved in
    let out = IsRowSet-marked width relation false marks c.edits_by.ensures.ascending fit in
    let in_ = IsRowSet-marked width relation true marks c.edits_by.ensures.ascending fit in
    record {
      gone = sorted_set width columns (marked relation false marks) c.sorted-gone.result perm out gone c.sorted-gone.ensures.sorted;
      come = sorted_set width columns (marked relation true marks) c.sorted-come.result perm in_ come c.sorted-come.ensures.sorted;
      laid = λ rows up.
          laid_by_permuted width relation columns rows c.sorted-gone.result c.sorted-come.result marks up c.edits_by.ensures.ascending perm fit
          (sorted_same width columns (marked relation false marks) c.sorted-gone.result perm out gone)
          (sorted_same width columns (marked relation true marks) c.sorted-come.result perm in_ come);
    }
