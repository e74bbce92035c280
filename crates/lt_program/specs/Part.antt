-- How a part is seen.
use Rattle.std.specs.Prelude.{Bool, true, false, List, []}
use Rattle.lt_sense.specs.Kept.{Sense}
use Rattle.lt_join.specs.Slices.{Slice}
use Rattle.lt_join.specs.Sliced.{united}
use Rattle.lt_program.specs.declared.part.Found.{Found}
use Rattle.lt_program.specs.declared.part.Certificate.{Certificate}
use Rattle.lt_program.specs.declared.part.Certificate.TheVariants.{Whole, ByKey}

-- the outcome of a statement, and what it was sensitive to: root gaps and slices where it is kept by slices, and else one sense and no
-- slices
pub record Part : Type 0 where
  pub outcome : Found
  pub sense : Sense
  pub slices : List Slice
  pub by_key : Bool

-- the one sense, or the root gaps
abbrev pub root_of : Certificate → Sense
root_of (Whole sense) = sense
root_of (ByKey found) = found.root

abbrev pub slices_of : Certificate → List Slice
slices_of (Whole sense) = []
slices_of (ByKey found) = found.slices

abbrev pub is_by_key : Certificate → Bool
is_by_key (Whole sense) = false
is_by_key (ByKey found) = true

-- all that it keeps
abbrev pub kept_by : Certificate → Sense
kept_by (Whole sense) = sense
kept_by (ByKey found) = united found.root found.slices

-- the part with this outcome and this certificate
abbrev pub part_of : Found → Certificate → Part
part_of outcome certificate = record { outcome = outcome; sense = root_of certificate; slices = slices_of certificate; by_key = is_by_key certificate }
