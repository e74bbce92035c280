use Rattle.std.proofs.Common.{◌≡◌, ◌++◌, ◌+◌, ◌*◌, min}
use Rattle.std.specs.Prelude.{map}
use Rattle.std.specs.List.{range_with_len}
use Rattle.lt_model.specs.declared.syntax.Item.TheVariants.{Batch}
use Rattle.lt_gen.specs.Script.{buyer, group_at, numbers}
use Rattle.lt_gen.proofs.buying.push_buys.Given as goal

abbrev pub invariant-groups : goal.invariant-groups
invariant-groups l = record {
  script : l.script ≡ l.fn.script ++ map Batch (map (group_at (map (buyer l.fn.draws.seed l.items) (numbers l.programs))) (range_with_len 0 l.j));
  seed : l.draws.seed ≡ l.fn.draws.seed;
  count : l.draws.count ≡ l.items + 3 * min l.programs (64 * l.j);
}
