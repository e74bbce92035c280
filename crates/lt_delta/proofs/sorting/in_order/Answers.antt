use Rattle.std.proofs.Common.{sym, rules, of_calls}
use Rattle.std.specs.Ordering.{is_lt}
use Rattle.std.proofs.lemmas.List.Sorted.{ranks_by}
use Rattle.std.proofs.lemmas.Fn.{always_returns_same}
use Rattle.lt_model.specs.Marks.{mark_cmp}
use Rattle.lt_delta.proofs.MarkOrder.{mark_total}
use Rattle.lt_delta.proofs.Ends.{sorted_says_same}
use Rattle.lt_delta.proofs.sorting.in_order.Goals as goal

pub last_of_each-requires : goal.last_of_each-requires
last_of_each-requires c =
    c.in_ok-sort_by.ensures.sorted (λ a b. is_lt (mark_cmp a b)) (ranks_by mark_total (λ m. m)) (always_returns_same _ _ _ (λ a r g called. search (rules, of_calls)))

pub returns : goal.returns
returns c =
    rw (sym (sorted_says_same c.args.list.items c.sort_by.new.self.items (c.in_ok-sort_by.ensures.stable (λ a b. is_lt (mark_cmp a b)) (ranks_by mark_total (λ m. m)) (always_returns_same _ _ _ (λ a r g called. search (rules, of_calls))))))
    c.last_of_each.ensures
