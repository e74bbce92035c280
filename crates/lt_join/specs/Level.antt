-- A level that is open: the iterators of the atoms that hold it stand there at one key.
use Rattle.std.specs.Prelude.{◌≡◌, ◌≢◌, ℕ, ◌+◌, ◌^◌, ◌<◌, ◌≤◌, Bool, true, ⊤, if◌then◌else◌, List, [], ◌∷◌, map, length, nat_lt, ◌-◌, slice_get, Some, nat_le, ◌||◌}
use Rattle.std.specs.List.{AllByRecursion, AllZip}
use Rattle.lt_face.specs.Keys.{end_key, least_from}
use Rattle.lt_face.specs.Lists.{IsIn, AnyByRecursion}
use Rattle.lt_face.specs.State.{State}
use Rattle.lt_leap.specs.Common.{has_key}
use Rattle.lt_leap.specs.Places.{lists_at, heres_at, turned}
use Rattle.lt_leap.specs.Potential.{moves_left, shortest}
use Rattle.lt_model.specs.declared.normal.Body.{Body}
use Rattle.lt_query.specs.declared.plans.Level.{Level}
use Rattle.lt_query.specs.declared.plans.Guide.{Guide}
use Rattle.lt_query.specs.declared.plans.Plan.{Plan}
use Rattle.lt_query.specs.Plan.{Keys, levels_of}
use Rattle.lt_sense.specs.Kept.{Sense}
use Rattle.lt_sense.specs.Sense.{IsTight}
use Rattle.lt_join.specs.AtomIter.{AtomView, atom_keys, atom_here}
use Rattle.lt_join.specs.Cost.{LevelGains}
use Rattle.lt_join.specs.Explored.{IsPassed}
use Rattle.lt_join.specs.Holders.{IsTrieOf, AreUnder, atoms_at, path_of}
use Rattle.lt_join.specs.Walked.{at, Grows, StandsAt, CostsAt}

-- it is the guide's iterator, at the keys above a level
abbrev pub IsAtomAt : State → ℕ → Keys → Guide → AtomView → Type 0
IsAtomAt state l keys guide atom = (atom.guide ≡ guide) × IsTrieOf state l keys guide atom.trie

-- each atom's iterator is at the keys
abbrev pub AreAtomsAt : Plan → State → List ℕ → List AtomView → Type 0
AreAtomsAt plan state keys atoms = AllZip (IsAtomAt state (length keys) (at keys)) plan.guides atoms

-- it may be opened one column further on
pub record CanBeOpened (atom : AtomView) : Type 0 where
  pub above_last : atom.trie.level < atom.trie.width
  pub at_key : 0 < atom.trie.level → atom.trie.here ≢ end_key
  pub root : atom.trie.level ≡ 0 → (atom.trie.prefix ≡ []) × (atom.trie.here ≡ end_key)

-- the same iterator, opened one column further on
pub record IsOpenedFrom (above atom : AtomView) : Type 0 where
  pub could : CanBeOpened above
  pub guide : atom.guide ≡ above.guide
  pub rows : atom.trie.rows ≡ above.trie.rows
  pub width : atom.trie.width ≡ above.trie.width
  pub level : atom.trie.level ≡ above.trie.level + 1
  pub prefix : atom.trie.prefix ≡ path_of above.trie

-- those at these places are opened from where they stood, and the others stand where they did
pub record AreOpened (places : List ℕ) (above atoms : List AtomView) : Type 0 where
  pub as_long : length atoms ≡ length above
  pub opened : (i : ℕ) (one other : AtomView) → IsIn i places → slice_get above i ≡ Some one → slice_get atoms i ≡ Some other → IsOpenedFrom one other
  pub others : (i : ℕ) → (IsIn i places → ⊥) → slice_get atoms i ≡ slice_get above i

-- where those at these places stand
abbrev pub heres_of : List AtomView → List ℕ → List ℕ
heres_of atoms places = heres_at (map atom_here atoms) places

-- the keys of those at these places
abbrev pub lists_of : List AtomView → List ℕ → List (List ℕ)
lists_of atoms places = lists_at (map atom_keys atoms) places

-- ---- moves

-- moves at the level below the keys from one number up to another: each key that they passed lies in a gap that was kept
pub record AreSensed (plan : Plan) (state : State) (keys : List ℕ) (old new : Sense) (from to begun now : ℕ) : Type 0 where
  pub grows : Grows old new
  pub tight : IsTight new state
  pub passed : (k : ℕ) → from ≤ k → k < to → AnyByRecursion (IsPassed new (length keys) (at keys) k) plan.guides
  pub under : AreUnder keys old new
  pub few : length new.gaps + begun ≤ length old.gaps + now
  pub hits : new.hits ≡ old.hits
  pub rises : begun ≤ now

-- each stands at its first key from where the one before it stands
abbrev pub RiseFrom : ℕ → List (List ℕ) → List ℕ → Type 0
RiseFrom from [] [] = ⊤
RiseFrom from [] (here ∷ heres) = ⊥
RiseFrom from (keys ∷ lists) [] = ⊥
RiseFrom from (keys ∷ lists) (here ∷ heres) = (here ≡ least_from keys from) × RiseFrom here lists heres

-- ---- a level that stands at a key

-- whether a pin or a tie leaves the level one key at most
abbrev pub is_lone : Level → Bool
is_lone level = nat_lt 0 (length level.pins + length level.ties)

-- So many moves may the iterators at these places still make, where the level stands at the key: none where it has one key at most,
-- or is at its end.
abbrev pub left_at : Level → List ℕ → List AtomView → ℕ → ℕ → ℕ
left_at level places atoms key turn =
    if is_lone level || nat_le end_key key
    then 0
    else moves_left (lists_of atoms places) (heres_of atoms places) (turned (length places) turn) (shortest (lists_of atoms places))

-- the level below the keys stands at the key: the iterators that hold it were opened from where they stood above, and stand at the
-- key, which is one of each one's keys
pub record IsLevelAt (plan : Plan) (state : State) (keys : List ℕ) (places : List ℕ) (above atoms : List AtomView) (key turn : ℕ) : Type 0 where
  pub is_above : AreAtomsAt plan state keys above
  pub opened : AreOpened places above atoms
  pub at_key : AllByRecursion (λ here. here ≡ key) (heres_of atoms places)
  pub there : AllByRecursion (λ keys. IsIn key keys) (lists_of atoms places)
  pub not_ended : key < 2 ^ 128 - 1
  pub has_turn : turn < length places

-- what a call that goes to the level's first or next key leaves: from this number on the level has no key before the one where it
-- stands; at its end its iterators are where they stood above
pub record HasGone (body : Body) (plan : Plan) (state : State) (old new : Sense) (keys : List ℕ) (level : Level) (places : List ℕ) (above atoms : List AtomView) (from given begun now key turn : ℕ) : Type 0 where
  pub stands : StandsAt body plan state old new keys level from key
  pub cost : CostsAt plan state keys level given now (left_at level places atoms key turn) key
  pub gains : LevelGains (length (atoms_at plan.guides (length keys))) old new begun now key
  pub under : AreUnder keys old new
  pub reaches : from ≤ key
  pub at_key : key < 2 ^ 128 - 1 → IsLevelAt plan state keys places above atoms key turn
  pub ended : 2 ^ 128 - 1 ≤ key → atoms ≡ above

-- an atom of the plan holds the level below the keys, and its iterator stands at the keys
pub record HoldsAt (plan : Plan) (state : State) (keys : List ℕ) (atom : AtomView) : Type 0 where
  pub in_plan : IsIn atom.guide plan.guides
  pub holds : has_key (levels_of atom.guide) (length keys) ≡ true
  pub is_trie : IsTrieOf state (length keys) (at keys) atom.guide atom.trie
