use Rattle.std.proofs.Common.{ap, ◌∙◌}
use Rattle.lt_program.specs.Part.{Part}
use Rattle.lt_program.specs.Tally.{sense_of}
use Rattle.lt_program.proofs.KeptSlices.{united_none}
use Rattle.lt_program.proofs.evaluation.part_whole.Goals as goal

pub returns-clause-sense : goal.returns-clause-sense
returns-clause-sense c = ap sense_of c.new.ensures ∙ united_none c.in_ok-sense.sense ∙ c.in_ok-sense.ensures

pub returns-clause-whole : goal.returns-clause-whole
returns-clause-whole c = record { by_key = ap (λ (p : Part). p.by_key) c.new.ensures; slices = ap (λ (p : Part). p.slices) c.new.ensures }
