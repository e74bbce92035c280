-- Nets whose jobs are the same: each code has the same inputs, outputs and part at the opening, and gives the same to its outputs.
use Rattle.std.specs.Prelude.{◌≡◌, ℕ, true, List}
use Rattle.lt_model.specs.declared.mark.Mark.{Mark}
use Rattle.lt_net.specs.Net.{Cell, Net, has_cell}

pub record AreAlike (a b : Net) : Type 0 where
  pub inputs : (code : ℕ) → a.inputs code ≡ b.inputs code
  pub outputs : (code : ℕ) → a.outputs code ≡ b.outputs code
  pub gives : (code : ℕ) (inputs : List (List Mark)) (x : Cell) → has_cell x (b.outputs code) ≡ true → a.gives code inputs x ≡ b.gives code inputs x
  pub starts : (code : ℕ) → a.starts code ≡ b.starts code
  pub is_leaf : (code : ℕ) → a.is_leaf code ≡ b.is_leaf code
