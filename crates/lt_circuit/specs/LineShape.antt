-- What a line is over.
use Rattle.std.specs.Prelude.{ℕ, List}
use Rattle.lt_model.specs.declared.mark.Mark.{Mark}
use Rattle.lt_net.specs.Net.{Net}
use Rattle.lt_net.specs.Line.{line_net}
use Rattle.lt_circuit.specs.Line.{LineView}
use Rattle.lt_circuit.specs.Row.{sizes}

-- what a line is over: a work, what its leaves do, and how many each segment has
pub record LineShape (W : Type 0) : Type 0 where
  pub work : W
  pub effect : ℕ → List Mark → List Mark
  pub sizes : List ℕ

abbrev pub line_shape : {W T : Type 0} → (W → ℕ → List Mark → List Mark) → LineView W T → LineShape W
line_shape does l = record { work = l.work; effect = does l.work; sizes = sizes l.row }

abbrev pub line_shape_net : {W : Type 0} → LineShape W → Net
line_shape_net shape = line_net shape.effect shape.sizes
