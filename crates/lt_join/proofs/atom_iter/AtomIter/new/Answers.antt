use Rattle.std.proofs.Common.{◌≤◌, ◌∙◌, subst, arith}
use Rattle.lt_face.specs.Limits.{most_columns}
use Rattle.lt_join.proofs.atom_iter.AtomIter.new.Goals as goal

pub invariant_of-result : goal.invariant_of-result
invariant_of-result g c =
    let e = c.new-trie.ensures in
    let columns = e.width ∙ c.requires in
    record {
      wide = columns;
      narrow = subst (λ n. n ≤ most_columns) columns e.narrow;
      within = omega (arith, e.level);
      root = λ z. (e.prefix, e.here);
      deep = λ lt. absurd (omega (arith, e.level, lt));
    }
