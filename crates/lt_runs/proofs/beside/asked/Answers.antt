use Rattle.std.proofs.Common.{◌∙◌, subst}
use Rattle.lt_check.specs.declared.check.CheckFault.{CheckFault}
use Rattle.lt_check.specs.Outcome.{IsFault}
use Rattle.lt_model.specs.Check.{checked}
use Rattle.lt_runs.proofs.Beginning.{asked_widths, never_bad}
use Rattle.lt_runs.proofs.beside.asked.Goals as goal

pub planned-requires : goal.planned-requires
planned-requires c = record { widths = asked_widths c.in-Ok.prog c.in_ok-program.program c.schema.result.now c.in_ok-program.ensures.query (c.schema.ensures ∙ c.requires) c.in-Ok.ensures.good }

pub unreachable-unreachable : goal.unreachable-unreachable
unreachable-unreachable c =
    let bad : IsFault (checked c.in_ok-program.program c.schema.result.now) c.in-Err-Bad.field-0 = c.in-Err-Bad.ensures.bad in
    never_bad c.in-Err-Bad.field-0-0 c.in-Err-Bad.field-0-1 c.in_ok-program.program c.schema.result.now c.in_ok-program.ensures.query (c.schema.ensures ∙ c.requires)
    (subst (λ (f : CheckFault). IsFault (checked c.in_ok-program.program c.schema.result.now) f) c.in-Err-Bad.field-0-is bad)
