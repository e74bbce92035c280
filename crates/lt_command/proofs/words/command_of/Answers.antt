use Rattle.std.proofs.Common.{◌∙◌, ap, map, string_bytes}
use Rattle.clap.specs.Words.{app_of, is_simple, is_simple_and_free, subcommand_rows_of}
use Rattle.lt_command.proofs.Commands.{refused, simple, simple_and_free, taken}
use Rattle.lt_command.proofs.words.command_of.Goals as goal

pub returns-in-Ok-clause-value : goal.returns-in-Ok-clause-value
returns-in-Ok-clause-value c =
    let is = c.in_ok-commands.ensures in
    c.command_met.ensures.value ∙ taken (app_of c.in_ok-commands.commands) (map string_bytes c.args.words.now) (subcommand_rows_of c.in-Ok.matches) is
    (c.in-Ok.ensures.kinds (ap is_simple_and_free is ∙ simple_and_free))
    (c.in-Ok.ensures.matches (ap is_simple is ∙ simple)).1

pub returns-clause-value : goal.returns-clause-value
returns-clause-value c =
    let is = c.in_ok-commands.ensures in
    refused (app_of c.in_ok-commands.commands) (map string_bytes c.args.words.now) c.in-Err.error is
    (c.in-Err.ensures.kinds (ap is_simple_and_free is ∙ simple_and_free))
    (λ h. c.in_default.not-OutOfMemory (c.kind.ensures ∙ h))
