use Rattle.std.proofs.Common.{◌≡◌, ◌++◌, List, ℕ, length}
use Rattle.std.specs.Io.KnownBytes.{Appends}
use Rattle.lt_telling.proofs.text.put_text.Given as goal

-- what was written, before what is left
abbrev pub invariant-rest : goal.invariant-rest
invariant-rest g l = record {
  front : List ℕ;
  parts : l.text ≡ front ++ l.rest;
  written : Appends (g.K.Sink.holds l.fn.sink) (g.K.Sink.holds l.sink) front;
}

abbrev pub decreases-rest : goal.decreases-rest
decreases-rest g l = length l.rest
