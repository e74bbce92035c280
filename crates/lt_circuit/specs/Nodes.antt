-- The nodes' marks, and which nodes have the correction of the next.
use Rattle.std.specs.Prelude.{◌≡◌, ℕ, ◌+◌, Bool, true, false, List, length, slice_index_or}
use Rattle.lt_circuit.specs.declared.cells.Node.{Node}
use Rattle.lt_circuit.specs.Board.{bare_node}

-- the next node has the same correction
abbrev pub IsHanded : List Node → ℕ → Type 0
IsHanded nodes v = (slice_index_or nodes (v + 1) bare_node).correction ≡ (slice_index_or nodes v bare_node).correction

pub record AreNodes (nodes : List Node) (handed : List Bool) : Type 0 where
  pub long : length handed ≡ length nodes
  pub same : (v : ℕ) → slice_index_or handed v false ≡ true → IsHanded nodes v
