-- Ranges that are of one key, whatever the cells of their rows.
use Rattle.std.specs.Prelude.{ℕ, List}
use Rattle.lt_sense.specs.declared.spans.Spans.{Spans}

pub record KeyLists : Type 0 where
  pub key : ℕ
  pub lists : List Spans
