-- What a `Sense` is seen as.
use Rattle.std.specs.Prelude.{List}
use Rattle.lt_sense.specs.declared.covering.KeptGap.{KeptGap}
use Rattle.lt_sense.specs.declared.covering.Hit.{Hit}

-- the gaps that were kept, and the rows that were met
pub record Sense : Type 0 where
  pub gaps : List KeptGap
  pub hits : List Hit
