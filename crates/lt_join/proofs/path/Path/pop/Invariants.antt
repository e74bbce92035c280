use Rattle.std.proofs.Common.{◌-◌, length}
use Rattle.std.specs.Prelude.{take}
use Rattle.lt_join.proofs.path.Path.pop.Given as goal

abbrev pub ghost-among : goal.ghost-among
ghost-among a = take (length a._old.now.keys - 1) a._old.now.keys
