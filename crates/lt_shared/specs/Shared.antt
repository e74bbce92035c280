-- What a `SharedRows` is seen as.
use Rattle.std.specs.Prelude.{◌≡◌, ◌<◌, ◌≤◌, ◌==◌, ◌⊎◌, ℕ, suc, true, length, List, [], ◌∷◌}
use Rattle.std.specs.List.{list_any}
use Rattle.lt_shared.specs.Entries.{joined}

-- the one row of a row
abbrev pub row_rows : List ℕ → List (List ℕ)
row_rows r = r ∷ []

-- the rows of a page
abbrev pub page_rows : List (List ℕ) → List (List ℕ)
page_rows rows = joined row_rows rows

-- the rows of a node, a list of pages
abbrev pub node_rows : List (List (List ℕ)) → List (List ℕ)
node_rows pages = joined page_rows pages

-- the rows of a root, a list of nodes
abbrev pub root_rows : List (List (List (List ℕ))) → List (List ℕ)
root_rows nodes = joined node_rows nodes

-- the width that each row has, and the nodes
pub record SharedView : Type 0 where
  pub width : ℕ
  pub nodes : List (List (List (List ℕ)))

-- a root has at most one node more after a put, and that only where it had none or a node was full
pub record IsGrown (old new : List (List (List (List ℕ)))) : Type 0 where
  pub least : length old ≤ length new
  pub most : length new ≤ suc (length old)
  pub cause : length old < length new → (length old ≡ 0) ⊎ (list_any (λ pages. length pages == 64) old ≡ true)
