use Rattle.std.proofs.Common.{◌≡◌, length, ◌<◌, ◌∙◌, ℕ, List, drop, sym, ap, subst, Some, slice_get, arith}
use Rattle.std.specs.Option.{option_copied}
use Rattle.std.proofs.lemmas.Int.{ints}
use Rattle.lt_face.proofs.Walked.{first_dropped, dropped_more}
use Rattle.lt_report.proofs.Parts.{element_at}
use Rattle.lt_gen.proofs.Adding.{column-more}
use Rattle.lt_gen.proofs.sums.set_sum.Goals as goal

pub rows-preserved : goal.rows-preserved
rows-preserved g c =
    let rows = g.R.RowReads.rows c.args.rows.now in
    let row = c.unwrap-row.result.now in
    let here : Some row ≡ slice_get rows c.rows._place = ap option_copied (sym c.unwrap-row.ensures) ∙ c.next_row.ensures.row ∙ ap (λ (l : List (List ℕ)). slice_get l 0) c.rows.invariant.left ∙ first_dropped c.rows._place rows in
    let within : c.rows._place < length rows = subst (λ n. c.rows._place < n) (c.len-place-end.ensures ∙ ap length c.over-walk.ensures) c.rows-test.true in
    let more = column-more c.args.column rows c.rows._place row within (element_at rows c.rows._place row (sym here)) in
    record {
      sum = omega (arith, ints, more, c.rows.invariant.sum, c.int_at.ensures, c.from-sum.ensures);
      least = omega (arith, ints, c.rows.invariant.least, c.from-sum.ensures);
      most = omega (arith, ints, c.rows.invariant.most, c.from-sum.ensures);
      left = c.next_row.ensures.rest ∙ ap (λ (l : List (List ℕ)). drop 1 l) c.rows.invariant.left ∙ dropped_more c.rows._place rows;
    }
