use Rattle.std.proofs.Common.{◌≡◌, ◌+◌, ◌-◌, ◌*◌}
use Rattle.std.specs.Prelude.{map}
use Rattle.std.specs.List.{range_with_len}
use Rattle.lt_gen.specs.Script.{buyer}
use Rattle.lt_gen.proofs.buying.buy_group.Given as goal

abbrev pub invariant-programs : goal.invariant-programs
invariant-programs l = record {
  group : l.group ≡ map (buyer l.fn.draws.seed l.items) (range_with_len (64 * l.j + 1) (l.before - 64 * l.j));
  seed : l.draws.seed ≡ l.fn.draws.seed;
  count : l.draws.count ≡ l.items + 3 * l.before;
}
