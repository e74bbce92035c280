-- A layer of edits, laid over a list of rows.
use Rattle.std.specs.Prelude.{◌≡◌, ℕ, List}
use Rattle.lt_face.specs.Rows.{IsRowSet}
use Rattle.lt_face.specs.State.{Row}
use Rattle.lt_over.specs.Overlaid.{overlaid}

-- what a layer is seen as: rows of one width that go, and rows that come
pub record Edits : Type 0 where
  pub width : ℕ
  pub gone : List Row
  pub come : List Row

-- both are sets of rows of this width
pub record IsLayer (width : ℕ) (layer : Edits) : Type 0 where
  pub wide : layer.width ≡ width
  pub gone : IsRowSet width layer.gone
  pub come : IsRowSet width layer.come

-- the rows with one layer laid over them
abbrev pub under : List Row → Edits → List Row
under rows layer = overlaid rows layer.gone layer.come
