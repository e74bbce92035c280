use Rattle.std.proofs.Common.{◌≡◌, ◌+◌, ◌-◌, ◌*◌}
use Rattle.std.specs.Prelude.{map}
use Rattle.std.specs.List.{range_with_len}
use Rattle.lt_gen.specs.Script.{stock_of}
use Rattle.lt_gen.proofs.loading.load_group.Given as goal

abbrev pub invariant-rows : goal.invariant-rows
invariant-rows l = record {
  group : l.group ≡ map (stock_of l.fn.draws.seed) (range_with_len (64 * l.j + 1) (l.before - 64 * l.j));
  seed : l.draws.seed ≡ l.fn.draws.seed;
  count : l.draws.count ≡ l.before;
}
