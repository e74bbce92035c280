-- What a call that writes a text has done.
use Rattle.std.specs.Prelude.{◌≡◌, ℕ, List, ◌++◌, Result, OnOk, OnErr}
use Rattle.std.specs.declared.option.Option.{Option}
use Rattle.std.specs.Io.KnownBytes.{Appends}
use Rattle.lt_edges.specs.Causes.{HasCause}

-- known bytes grew by a front of all
abbrev pub AppendsFront : Option (List ℕ) → Option (List ℕ) → List ℕ → Type 0
AppendsFront old new all = (front rest : List ℕ) × (all ≡ front ++ rest) × Appends old new front

-- The text was appended to what a sink holds, or a front of it, where a write failed. The sink's count of faults rose then.
pub record Puts {T E : Type 0} (result : Result T E) (old new : Option (List ℕ)) (before now : ℕ) (text : List ℕ) : Type 0 where
  pub ok : OnOk result (Appends old new text)
  pub err : OnErr result (AppendsFront old new text)
  pub cause : HasCause before now result
