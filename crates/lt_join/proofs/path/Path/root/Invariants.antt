use Rattle.std.proofs.Common.{[]}
use Rattle.lt_join.proofs.path.Path.root.Given as goal

abbrev pub ghost-of : goal.ghost-of
ghost-of a = []
