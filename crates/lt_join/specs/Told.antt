-- What a sense has become when an atom's iterator passed a gap.
use Rattle.std.specs.Prelude.{◌≡◌, ◌<◌, ◌≤◌, ℕ, [], ◌∷◌, ◌++◌}
use Rattle.lt_face.specs.declared.key.Gap.{Gap}
use Rattle.lt_sense.specs.declared.covering.KeptGap.{KeptGap}
use Rattle.lt_sense.specs.Kept.{Sense}
use Rattle.lt_join.specs.AtomIter.{AtomView}

-- the gap of an atom's iterator, under the keys above it
abbrev pub gap_of : AtomView → Gap → KeptGap
gap_of atom gap = record { relation = atom.guide.relation; columns = atom.guide.columns; prefix = atom.trie.prefix; lo = gap.lo; hi = gap.hi }

-- the gap is the last now, unless it is empty
pub record TakesGap (old : Sense) (place : ℕ) (atom : AtomView) (gap : Gap) (new : Sense) : Type 0 where
  pub kept : gap.lo < gap.hi → new.gaps ≡ old.gaps ++ gap_of atom gap ∷ []
  pub empty : gap.hi ≤ gap.lo → new.gaps ≡ old.gaps
  pub hits : new.hits ≡ old.hits
