use Rattle.std.proofs.Common.{◌≡◌, map}
use Rattle.lt_model.specs.declared.syntax.Program.{Program}
use Rattle.lt_model.specs.Check.{checked}
use Rattle.lt_model.specs.Schema.{Schema}
use Rattle.lt_world.specs.Batches.{checked_of}
use Rattle.lt_world.specs.Prepared.{AreChecked}
use Rattle.lt_world.proofs.reusing.retire.Given as goal

-- those that are left go with what their checks gave
abbrev pub invariant-loop : goal.invariant-loop
invariant-loop l =
    (schema : Schema) → map checked_of l.fn.judgements.items ≡ map (λ (p : Program). checked p schema) l.fn.programs → AreChecked schema l.fn.table
    → (map checked_of l.checks.items ≡ map (λ (p : Program). checked p schema) l.left.items) × AreChecked schema l.table
