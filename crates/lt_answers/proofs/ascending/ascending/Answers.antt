use Rattle.std.proofs.Common.{◌∙◌, subst}
use Rattle.std.specs.Cmp.Lexicographic.{pointwise}
use Rattle.std.specs.Prelude.{nat_eq}
use Rattle.lt_face.specs.Rows.{IsAscending}
use Rattle.lt_answers.proofs.AscendingRows.{ascending_itself}
use Rattle.lt_answers.proofs.SortedRows.{rows_tie, sorted_is}
use Rattle.lt_answers.proofs.ascending.ascending.Goals as goal

pub returns-then-are_ascending : goal.returns-then-are_ascending
returns-then-are_ascending c =
    c.from_vec.ensures ∙ ascending_itself c.args.rows.items (subst IsAscending c.deref.ensures.value (c.are_ascending.ensures c.if-are_ascending.true))

pub returns : goal.returns
returns c =
    c.from_vec-2.ensures
    ∙ sorted_is (pointwise nat_eq) rows_tie c.args.rows.items c.sort.new.self.items c.dedup.new.self.items c.in_ok-sort.ensures.permutation c.in_ok-sort.ensures.sorted c.dedup.ensures.filtered
