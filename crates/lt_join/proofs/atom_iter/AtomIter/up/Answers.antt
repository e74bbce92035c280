use Rattle.std.proofs.Common.{sym, subst}
use Rattle.lt_join.specs.AtomIter.{AtomView}
use Rattle.lt_join.specs.Level.{IsOpenedFrom}
use Rattle.lt_join.proofs.OpenedAtoms.{guide_up, atom_up}
use Rattle.lt_join.proofs.atom_iter.AtomIter.up.Goals as goal

pub invariant_of-self : goal.invariant_of-self
invariant_of-self g c =
    let e = c.up.ensures in
    guide_up c.self.inside.guide.now c.self.inside.trie c.up.new.self c.self.invariant (record { rows = e.rows; width = e.width; level = e.level; root = e.root; root_prefix = e.root_prefix; parent = e.parent })

pub returns : goal.returns
returns g c = λ above could is.
    let e = c.up.ensures in
    atom_up c.self.inside.guide.now c.self.inside.trie c.up.new.self above (record { rows = e.rows; width = e.width; level = e.level; root = e.root; root_prefix = e.root_prefix; parent = e.parent }) could
    (subst (λ (a : AtomView). IsOpenedFrom above a) (sym c.self.view_is) is)
