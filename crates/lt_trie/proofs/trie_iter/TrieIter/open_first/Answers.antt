use Rattle.std.proofs.Common.{◌≡◌, ◌<◌, sym, subst}
use Rattle.lt_trie.specs.Trie.{TrieView}
use Rattle.lt_trie.proofs.Moved.{IsTrie-first}
use Rattle.lt_trie.proofs.trie_iter.TrieIter.open_first.Goals as goal

pub invariant_of-self : goal.invariant_of-self
invariant_of-self g c =
    let root = subst (λ (t : TrieView). t.level ≡ 0) (sym c.self.view_is) c.requires.root in
    let below = subst (λ (t : TrieView). 0 < t.width) (sym c.self.view_is) c.requires.above_last in (
      IsTrie-first _ c.args.bound c.land-self-inside.result c.land-self-inside.ensures.least c.self.invariant.0 root below,
      c.land-self-inside.ensures.stand,
      c.self.invariant.2,
    )
