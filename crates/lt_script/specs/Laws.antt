-- A law of readings, beside the one of `lt_model` that there is one at most.
use Rattle.std.specs.Prelude.{ℕ, List}
use Rattle.lt_model.specs.declared.syntax.Item.{Item}
use Rattle.lt_model.specs.Script.{Close, Script}

-- bytes have a reading: they are the items and the end of a script
abbrev pub SomeReading : Type 0
SomeReading = (bytes : List ℕ) → (items : List Item) × (close : Close) × Script bytes items close
