use Rattle.std.proofs.Common.{◌≡◌, ◌*◌, min}
use Rattle.std.specs.Prelude.{map}
use Rattle.std.specs.List.{range_with_len}
use Rattle.lt_gen.specs.Programs.{load}
use Rattle.lt_gen.specs.Script.{group_at, numbers, stock_of}
use Rattle.lt_gen.proofs.loading.load_programs.Given as goal

abbrev pub invariant-groups : goal.invariant-groups
invariant-groups l = record {
  programs : l.programs ≡ map load (map (group_at (map (stock_of l.fn.draws.seed) (numbers l.items))) (range_with_len 0 l.j));
  seed : l.draws.seed ≡ l.fn.draws.seed;
  count : l.draws.count ≡ min l.items (64 * l.j);
}
