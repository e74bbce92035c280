use Rattle.std.proofs.Common.{rules}
use Rattle.std.specs.Ordering.{is_lt}
use Rattle.std.proofs.lemmas.List.Sorted.{ranks_by}
use Rattle.std.proofs.lemmas.Fn.{always_returns_same}
use Rattle.lt_face.proofs.RowLemmas.{rows_total}
use Rattle.lt_sense.specs.Apart.{first_of, still_in, span_cmp}
use Rattle.lt_sense.proofs.spans.Spans.sorted.Goals as goal

pub returns-clause-sorted : goal.returns-clause-sorted
returns-clause-sorted c =
    let s = c.args.self.now in
    c.in_ok-sort_by.ensures.sorted (λ a b. is_lt (span_cmp s a b)) (ranks_by rows_total (λ x. first_of (still_in s x))) (always_returns_same _ _ _ (λ a r f k. search rules))
