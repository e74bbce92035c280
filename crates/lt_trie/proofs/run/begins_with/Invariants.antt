use Rattle.std.proofs.Common.{◌≡◌, drop}
use Rattle.lt_trie.specs.Under.{next_cell}
use Rattle.lt_trie.proofs.run.begins_with.Given as goal

abbrev pub invariant-loop-i : goal.invariant-loop-i
invariant-loop-i l = next_cell l.prefix l.row ≡ next_cell (drop l.i l.prefix) (drop l.i l.row)
