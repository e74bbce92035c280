use Rattle.std.proofs.Common.{◌≤◌, subst, arith}
use Rattle.lt_trie.specs.Trie.{TrieView}
use Rattle.lt_trie.proofs.Moved.{least_reached}
use Rattle.lt_trie.proofs.trie_iter.TrieIter.open.Goals as goal

pub returns-else-self-bound-clause-here : goal.returns-else-self-bound-clause-here
returns-else-self-bound-clause-here g c =
    least_reached _ c.args.bound c.go_down.new.self.here c.go_down.ensures.here (subst (λ (t : TrieView). c.args.bound ≤ t.here) c.self-2.view_is (omega (arith, c.if-self-bound.false)))
