use Rattle.std.proofs.Common.{◌∙◌, ◌++◌, ◌∷◌, [], sym, ap, arith, length-append}
use Rattle.lt_shared.proofs.Gathered.{joined-one}
use Rattle.lt_shared.proofs.building.levels.Goals as goal

pub loop-entry-preserved : goal.loop-entry-preserved
loop-entry-preserved g c = record {
  can_next = tt;
  is_finite = tt;
  rows = c.in_ok-group-2.ensures.rows ∙ ap (λ t. t ++ g.T.Entry.rows c.in-Some.entry) c.loop-entry.invariant.rows ∙ sym (joined-one g.T.Entry.rows c.loop-entry.yielded c.in-Some.entry);
  count = λ full. omega (arith, c.in_ok-group-2.ensures.count full, c.loop-entry.invariant.count full, length-append c.loop-entry.yielded (c.in-Some.entry ∷ []));
  bound = c.in_ok-group-2.ensures.bound;
  some = λ _. c.in_ok-group-2.ensures.some;
}
