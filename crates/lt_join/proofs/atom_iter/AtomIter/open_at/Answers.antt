use Rattle.std.proofs.Common.{◌≢◌, ◌<◌, sym, subst}
use Rattle.lt_face.specs.Keys.{end_key}
use Rattle.lt_join.specs.AtomIter.{AtomView}
use Rattle.lt_join.specs.Level.{IsOpenedFrom}
use Rattle.lt_join.proofs.OpenedAtoms.{guide_opened, atom_opened, here_opened}
use Rattle.lt_join.proofs.atom_iter.AtomIter.open_at.Goals as goal

pub invariant_of-self : goal.invariant_of-self
invariant_of-self g c =
    let e = c.open_at.ensures in
    guide_opened c.self.inside.guide.now c.self.inside.trie c.open_at.new.self c.self.invariant (subst (λ (a : AtomView). a.trie.level < a.trie.width) (sym c.self.view_is) c.requires.above_last)
    (record { rows = e.rows; width = e.width; level = e.level; root = e.root; deeper = e.deeper })

pub returns-clause-opened : goal.returns-clause-opened
returns-clause-opened g c =
    let e = c.open_at.ensures in
    subst (λ (a : AtomView). IsOpenedFrom a (record { guide = c.self.inside.guide.now; trie = c.open_at.new.self })) c.self.view_is
    (atom_opened c.self.inside.guide.now c.self.inside.trie c.open_at.new.self c.self.invariant (subst (λ (a : AtomView). a.trie.level < a.trie.width) (sym c.self.view_is) c.requires.above_last)
    (subst (λ (a : AtomView). 0 < a.trie.level → a.trie.here ≢ end_key) (sym c.self.view_is) c.requires.at_key)
    (record { rows = e.rows; width = e.width; level = e.level; root = e.root; deeper = e.deeper }))

pub returns-clause-here : goal.returns-clause-here
returns-clause-here g c = here_opened c.self.inside.trie c.open_at.new.self c.args.bound c.open_at.ensures.level c.open_at.ensures.here
