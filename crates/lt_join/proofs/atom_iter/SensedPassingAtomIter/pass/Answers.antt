use Rattle.std.proofs.Common.{◌≤◌, length, sym, subst}
use Rattle.lt_face.specs.Limits.{most_columns}
use Rattle.lt_join.proofs.OpenedAtoms.{prefix_narrow}
use Rattle.lt_join.proofs.atom_iter.SensedPassingAtomIter.pass.Goals as goal

pub add_gap-requires-clause-prefix : goal.add_gap-requires-clause-prefix
add_gap-requires-clause-prefix g c = subst (λ cells. length cells ≤ most_columns) (sym c.prefix.ensures) (prefix_narrow (record { guide = c.iter.inside.guide.now; trie = c.iter.inside.trie }) c.iter.invariant)
