use Rattle.std.proofs.Common.{map, sym, ap, ◌∙◌}
use Rattle.lt_model.specs.declared.syntax.Program.{Program}
use Rattle.lt_model.specs.Check.{checked}
use Rattle.lt_model.specs.Schema.{Schema}
use Rattle.lt_world.proofs.prepared.Prepared.retire.Goals as goal

pub invariant_of-self : goal.invariant_of-self
invariant_of-self c = c.retire.ensures c.self.inside.schema (c.requires ∙ ap (λ (h : Schema). map (λ (p : Program). checked p h) c.args.programs) (sym c.self.view_is)) c.self.invariant
