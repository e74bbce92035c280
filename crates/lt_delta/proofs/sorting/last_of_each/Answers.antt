use Rattle.std.proofs.Common.{◌≡◌, ◌≢◌, length, take, map-id, rules, sym, subst, ◌∙◌}
use Rattle.std.specs.List.{AllByRecursion}
use Rattle.std.specs.declared.cmp.Ordering.TheVariants.{Greater}
use Rattle.std.proofs.lemmas.Iterator.Consumers.{YieldsList-so_far, YieldsList-turn}
use Rattle.std.proofs.lemmas.Iterator.Adapters.{YieldsList-from_vec}
use Rattle.lt_model.specs.Marks.{Marks, mark_cmp}
use Rattle.lt_model.proofs.Composition.{AreMarks-and_then}
use Rattle.lt_delta.proofs.Composes.{each_after}
use Rattle.lt_delta.proofs.Ends.{sorted_before}
use Rattle.lt_delta.proofs.sorting.last_of_each.Goals as goal

pub put-requires-clause-ascending : goal.put-requires-clause-ascending
put-requires-clause-ascending c = rw c.loop-mark.invariant.done (AreMarks-and_then _ c.loop-mark.yielded tt)

pub put-requires-clause-none_above : goal.put-requires-clause-none_above
put-requires-clause-none_above c =
    let given = YieldsList-from_vec {s = c.into_iter-mark-iterator.result} c.args.sorted.items (search rules) (search rules) in
    let before : c.loop-mark.yielded ≡ take (length c.loop-mark.yielded) c.args.sorted.items =
    sym (map-id c.loop-mark.yielded) ∙ YieldsList-so_far given c.loop-mark.yielded c.loop-mark.mark-iterator c.loop-mark.yielded_by in
    let turn = YieldsList-turn given c.loop-mark.yielded c.loop-mark.mark-iterator c.loop-mark.yielded_by c.next.result c.next.new.self c.in-Some.mark c.in-Some.is c.next.ensures.steps in
    let none_above = sorted_before c.args.sorted.items (length c.loop-mark.yielded) c.in-Some.mark c.requires turn.0 turn.1 in
    rw c.loop-mark.invariant.done (each_after (λ m. mark_cmp m c.in-Some.mark ≢ Greater) _ c.loop-mark.yielded tt (subst (λ (l : Marks). AllByRecursion (λ m. mark_cmp m c.in-Some.mark ≢ Greater) l) (sym before) none_above))
