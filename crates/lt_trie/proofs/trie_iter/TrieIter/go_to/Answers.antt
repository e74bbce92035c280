use Rattle.std.proofs.Common.{◌≢◌, sym, subst}
use Rattle.lt_face.specs.Keys.{end_key}
use Rattle.lt_trie.specs.Trie.{TrieView}
use Rattle.lt_trie.proofs.Moved.{IsTrie-moved, deep_of_key}
use Rattle.lt_trie.proofs.trie_iter.TrieIter.go_to.Goals as goal

pub invariant_of-self : goal.invariant_of-self
invariant_of-self g c =
    let key = subst (λ (t : TrieView). t.here ≢ end_key) (sym c.self.view_is) c.requires.not_ended in (
      IsTrie-moved _ c.args.bound c.go_on-self-inside.result c.go_on-self-inside.ensures.least c.self.invariant.0 (deep_of_key _ c.self.invariant.0 key),
      c.go_on-self-inside.ensures.stand,
      c.self.invariant.2,
    )
