use Rattle.std.proofs.Common.{◌∙◌}
use Rattle.std.specs.Arc.{arc_value}
use Rattle.lt_program.proofs.Keeps.{has_here}
use Rattle.lt_program.proofs.Sounds.{sound_fits}
use Rattle.lt_program.proofs.tally.Tally.has.Goals as goal

pub has_with-requires : goal.has_with-requires
has_with-requires c = sound_fits (arc_value c.self.inside.prog) c.self.inside.base c.self.inside.course c.self.invariant

pub returns : goal.returns
returns c = c.has_with.ensures ∙ has_here (arc_value c.self.inside.prog) c.self.inside.base c.self.inside.course c.args.self.now c.self.view_is c.self.invariant c.args.relation c.args.row.now
