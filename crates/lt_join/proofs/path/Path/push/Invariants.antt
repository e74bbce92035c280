use Rattle.std.proofs.Common.{◌++◌, ◌∷◌, []}
use Rattle.lt_join.proofs.path.Path.push.Given as goal

abbrev pub ghost-with : goal.ghost-with
ghost-with a = a._old.now.keys ++ a._key ∷ []
