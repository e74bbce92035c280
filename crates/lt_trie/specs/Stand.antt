-- Places among rows of a set that follow one another.
use Rattle.std.specs.Prelude.{◌≡◌, ◌≢◌, ◌<◌, ◌≤◌, ◌+◌, ℕ, Bool, true, List, [], ◌∷◌, ◌++◌, Some, None, is_some, length, slice_index, slice_index_or, ⊤}
use Rattle.std.specs.List.{AllByRecursion}
use Rattle.std.specs.declared.cmp.Ordering.TheVariants.{Less}
use Rattle.lt_face.specs.Rows.{row_cmp}
use Rattle.lt_face.specs.Keys.{end_key, least_from}
use Rattle.lt_trie.specs.Under.{next_cell, keys_under}

-- the cell of a row in a column
abbrev pub cell_at : List (List ℕ) → ℕ → ℕ → ℕ
cell_at run i column = slice_index (slice_index_or run i []) column

-- the row begins with the prefix, and goes on
abbrev pub IsUnder : List ℕ → List ℕ → Type 0
IsUnder prefix row = next_cell prefix row ≡ Some (slice_index row (length prefix))

-- the rows that begin with the prefix come first
abbrev pub ComeFirst : List ℕ → List (List ℕ) → Type 0
ComeFirst prefix run = (i j : ℕ) → i ≤ j → j < length run → is_some (next_cell prefix (slice_index_or run j [])) ≡ true → is_some (next_cell prefix (slice_index_or run i [])) ≡ true

-- the cells of a column ascend weakly
abbrev pub IsRising : List (List ℕ) → ℕ → Type 0
IsRising run column = (i j : ℕ) → i ≤ j → j < length run → cell_at run i column ≤ cell_at run j column

-- the cells of a column are below the bound before a place, and from there on they are not
pub record IsCut (run : List (List ℕ)) (column bound at : ℕ) : Type 0 where
  pub within : at ≤ length run
  pub low : (i : ℕ) → i < at → cell_at run i column < bound
  pub high : (i : ℕ) → at ≤ i → i < length run → bound ≤ cell_at run i column

-- the rows of the run follow one another in the set and begin with the prefix; the first is the set's first with the key behind the
-- prefix. The end is 0, or behind the last of them with the key. A run that is whole has no row with the prefix behind it
pub record IsStand (rows : List (List ℕ)) (prefix : List ℕ) (key : ℕ) (run : List (List ℕ)) (end : ℕ) (is_whole : Bool) : Type 0 where
  pub front : List (List ℕ)
  pub back : List (List ℕ)
  pub split : rows ≡ front ++ (run ++ back)
  pub some : 0 < length run
  pub at_key : cell_at run 0 (length prefix) ≡ key
  pub passed : AllByRecursion (λ r. row_cmp r (prefix ++ key ∷ []) ≡ Less) front
  pub under : AllByRecursion (IsUnder prefix) run
  pub ended : 0 < end → IsCut run (length prefix) (key + 1) end
  pub last : is_whole ≡ true → AllByRecursion (λ r. next_cell prefix r ≡ None) back

-- a move ended at the least key at or above the bound, and stands there where that is not the end
pub record IsLanded (rows : List (List ℕ)) (prefix : List ℕ) (bound key : ℕ) (run : List (List ℕ)) (end : ℕ) (is_whole : Bool) : Type 0 where
  pub least : key ≡ least_from (keys_under prefix rows) bound
  pub stand : key ≢ end_key → IsStand rows prefix key run end is_whole

-- each place stands so to its key and the keys above it
abbrev pub AreAlong : {X : Type 0} → (List ℕ → ℕ → X → Type 0) → List ℕ → List ℕ → List X → Type 0
AreAlong stands front [] xs = ⊤
AreAlong stands front (k ∷ ks) [] = ⊥
AreAlong stands front (k ∷ ks) (x ∷ xs) = stands front k x × AreAlong stands (front ++ k ∷ []) ks xs
