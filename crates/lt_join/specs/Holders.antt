-- Who holds a level: atoms, pins and ties; and the iterators that sit there for them.
use Rattle.std.specs.Prelude.{◌≡◌, ◌≢◌, ℕ, ◌+◌, ◌^◌, ◌<◌, ◌≤◌, ◌==◌, if◌then◌else◌, List, [], ◌∷◌, ◌++◌, filter, length, ◌⊎◌}
use Rattle.std.specs.List.{AllByRecursion}
use Rattle.lt_face.specs.Keys.{end_key}
use Rattle.lt_face.specs.Limits.{most_columns, most_variables}
use Rattle.lt_face.specs.Rows.{IsRowSet}
use Rattle.lt_face.specs.Lists.{IsIn}
use Rattle.lt_face.specs.State.{Row, State, IsIndexOf}
use Rattle.lt_trie.specs.Trie.{TrieView}
use Rattle.lt_model.specs.declared.normal.Term.{Term}
use Rattle.lt_model.specs.declared.normal.Atom.{Atom}
use Rattle.lt_model.specs.declared.normal.Body.{Body}
use Rattle.lt_model.specs.Fits.{IsTermOf}
use Rattle.lt_query.specs.Runnable.{IsRunnable}
use Rattle.lt_join.specs.Values.{IsTest}
use Rattle.lt_query.specs.declared.plans.Level.{Level}
use Rattle.lt_query.specs.declared.plans.Guide.{Guide}
use Rattle.lt_query.specs.declared.plans.Plan.{Plan}
use Rattle.lt_query.specs.Plan.{Keys, levels_of}
use Rattle.lt_query.specs.Lists.{IsRising, below}
use Rattle.lt_sense.specs.declared.covering.KeptGap.{KeptGap}
use Rattle.lt_sense.specs.Kept.{Sense}
use Rattle.lt_join.specs.LookUp.{LookUpView}
use Rattle.lt_join.specs.Explored.{prefix_at}
use Rattle.lt_leap.specs.Common.{has_key}
use Rattle.lt_join.specs.Walked.{at}

-- what can be walked: its columns are those of the places, each once, in the order of their levels
pub record IsWalkable (guide : Guide) : Type 0 where
  pub columns : AllByRecursion (λ c. c < length guide.places) guide.columns
  pub each : (c : ℕ) → c < length guide.places → IsIn c guide.columns
  pub as_long : length guide.columns ≡ length guide.places
  pub rising : IsRising (levels_of guide)

-- the keys above an iterator's place and its own
abbrev pub path_of : TrieView → List ℕ
path_of t = if t.level == 0 then [] else t.prefix ++ t.here ∷ []

-- an iterator over the atom's index
pub record IsOver (state : State) (guide : Guide) (t : TrieView) : Type 0 where
  pub index : IsIndexOf state guide.relation guide.columns t.width t.rows
  pub is_set : IsRowSet t.width t.rows
  pub narrow : t.width ≤ most_columns

-- the atom's iterator, at the keys above a level
pub record IsTrieOf (state : State) (l : ℕ) (keys : Keys) (guide : Guide) (t : TrieView) : Type 0 where
  pub over : IsOver state guide t
  pub path : path_of t ≡ prefix_at guide l keys
  pub level : t.level ≡ length (prefix_at guide l keys)
  pub at_key : 0 < t.level → t.here ≢ end_key
  pub met : 0 < t.level → (r : Row) × IsIn r t.rows × (rest : Row) × (r ≡ path_of t ++ rest)

-- the atom's iterator, opened at a level that it holds
pub record IsOpenedOf (state : State) (l : ℕ) (keys : Keys) (guide : Guide) (t : TrieView) : Type 0 where
  pub over : IsOver state guide t
  pub prefix : t.prefix ≡ prefix_at guide l keys
  pub level : t.level ≡ length (prefix_at guide l keys) + 1

-- the atoms that hold the level
abbrev pub atoms_at : List Guide → ℕ → List Guide
atoms_at guides l = filter (λ guide. has_key (levels_of guide) l) guides

-- each gap is an old one, or lies under the cells that an atom has above the level
abbrev pub AreUnder : List ℕ → Sense → Sense → Type 0
AreUnder keys old new = (gap : KeptGap) → IsIn gap new.gaps → IsIn gap old.gaps ⊎ ((guide : Guide) × (gap.prefix ≡ prefix_at guide (length keys) (at keys)))

-- the level below the keys may be opened: an atom holds it, its keys are cells, its ties are above it, and there are few enough iterators
pub record IsUsable (guides : List Guide) (level : Level) (above : List ℕ) : Type 0 where
  pub held : 0 < length (atoms_at guides (length above))
  pub pins : AllByRecursion (λ pin. pin < 2 ^ 120) level.pins
  pub ties : AllByRecursion (λ m. m < length above) level.ties
  pub keys : AllByRecursion (λ k. k < 2 ^ 120) above
  pub few : length guides + (length level.pins + length level.ties) < 2 ^ 32

-- where rows of a relation are looked up: in its index with so many columns in their own order
pub record IsLookUpFor (state : State) (relation width : ℕ) (look_up : LookUpView) : Type 0 where
  pub columns : look_up.columns ≡ below width
  pub index : IsIndexOf state relation (below width) look_up.width look_up.rows

-- where a negated atom is looked up
abbrev pub IsLookUpOf : State → Atom → LookUpView → Type 0
IsLookUpOf state atom look_up = IsLookUpFor state atom.relation (length atom.terms) look_up

-- A body and a plan of it that can be walked for these terms: numbers of variables are below 16, constants are cells, and
-- an answer is no wider than a row.
pub record IsPrepared (body : Body) (plan : Plan) (terms : List Term) : Type 0 where
  pub runnable : IsRunnable body plan
  pub tests : AllByRecursion IsTest body.tests
  pub absents : AllByRecursion (λ (atom : Atom). AllByRecursion (IsTermOf most_variables) atom.terms) body.absents
  pub variables : AllByRecursion (λ (level : Level). IsTermOf most_variables level.term) plan.levels
  pub narrow : length terms ≤ most_columns
