-- What a parse by the commands' definition says of the words.
use Rattle.std.proofs.Common.{◌≡◌, ◌∙◌, true, false, refl, sym, ap, List, [], Option, None, ⊎_elim}
use Rattle.clap.specs.Kinds.{HasKind, IsAmong}
use Rattle.clap.specs.Values.{kind_of}
use Rattle.clap.specs.Walk.{is_empty}
use Rattle.clap.specs.Words.{App, Row, Text, fault_of, is_simple, is_simple_and_free, subcommand_of}
use Rattle.clap.specs.declared.error.Error.{Error}
use Rattle.clap.specs.declared.error.kind.ErrorKind.TheVariants.{OutOfMemory}
use Rattle.lt_command.specs.Command.{command, command_in}
use Rattle.lt_command.specs.Definition as definition
use Rattle.lt_command.proofs.Refusals.{some_kinds}

pub simple : is_simple definition.commands ≡ true
simple = refl

pub simple_and_free : is_simple_and_free definition.commands ≡ true
simple_and_free = refl

-- words without a fault are the command whose matches they have
pub taken : (app : App) (words : List Text) (rows : Option (Text × List Row)) → app ≡ definition.commands → fault_of app words ≡ [] → rows ≡ subcommand_of app words → command_in rows ≡ command words
unfolding command
taken app words rows is none same =
    let clear : is_empty (fault_of definition.commands words) ≡ true = ap is_empty (ap (λ (a : App). fault_of a words) (sym is) ∙ none) in
    rw clear (ap command_in (same ∙ ap (λ (a : App). subcommand_of a words) is))

-- words with a fault are no command
pub refused : (app : App) (words : List Text) (error : Error) → app ≡ definition.commands → HasKind (fault_of app words) error → (kind_of error ≡ OutOfMemory → ⊥) → None ≡ command words
unfolding command
refused app words error is kinds other =
    let among : IsAmong (kind_of error) (fault_of app words) = ⊎_elim (λ h. absurd (other h)) (λ h. h) kinds in
    let faulty : is_empty (fault_of definition.commands words) ≡ false = ap (λ (a : App). is_empty (fault_of a words)) (sym is) ∙ some_kinds (kind_of error) (fault_of app words) among in
    rw faulty refl
