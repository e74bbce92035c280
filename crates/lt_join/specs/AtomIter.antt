-- The iterator of an atom.
use Rattle.std.specs.Prelude.{◌≡◌, ◌≤◌, ◌<◌, ◌+◌, ℕ, List, [], length}
use Rattle.lt_face.specs.Keys.{end_key}
use Rattle.lt_face.specs.Limits.{most_columns}
use Rattle.lt_trie.specs.Trie.{TrieView, keys_of}
use Rattle.lt_query.specs.declared.plans.Guide.{Guide}

-- how the atom is gone through, and where its iterator stands in the index
pub record AtomView : Type 0 where
  pub guide : Guide
  pub trie : TrieView

abbrev pub atom_keys : AtomView → List ℕ
atom_keys atom = keys_of atom.trie

abbrev pub atom_here : AtomView → ℕ
atom_here atom = atom.trie.here

abbrev pub atom_still : AtomView → AtomView
atom_still atom = record atom { trie = record atom.trie { here = 0 } }

-- the index has the guide's columns, of which there are few, and there are as many keys above the iterator as its level says
pub record IsOfGuide (atom : AtomView) : Type 0 where
  pub wide : atom.trie.width ≡ length atom.guide.columns
  pub narrow : length atom.guide.columns ≤ most_columns
  pub within : atom.trie.level ≤ atom.trie.width
  pub root : atom.trie.level ≡ 0 → (atom.trie.prefix ≡ []) × (atom.trie.here ≡ end_key)
  pub deep : 0 < atom.trie.level → length atom.trie.prefix + 1 ≡ atom.trie.level
