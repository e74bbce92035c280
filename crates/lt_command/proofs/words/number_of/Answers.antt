use Rattle.std.proofs.Common.{◌≡◌, ◌∙◌, ℕ, Option, ap, max, min, unwrap_or}
use Rattle.std.specs.Prelude.{option_and_then}
use Rattle.std.specs.Str.Parse.{ParsesUnsigned, ExplainsUnsignedError, HasUnsignedDigitsIfOk}
use Rattle.clap.specs.Words.{found_of, one_text}
use Rattle.clap.proofs.WalkLemmas.{one_text-rows}
use Rattle.lt_command.specs.Command.{number_of}
use Rattle.lt_command.proofs.Numbers.{number_read, text_read}
use Rattle.lt_command.proofs.words.number_of.Goals as goal

pub returns-clause-value : goal.returns-clause-value
returns-clause-value c =
    let found = found_of c.args.matches.now in
    let read : c.get_one.result ≡ option_and_then (number_of 32) (one_text found c.args.id.now) =
    text_read (one_text found c.args.id.now) c.get_one.result (number_of 32) c.get_one.ensures.none
    (λ t is. number_read _ (λ bs r. ParsesUnsigned 32 10 bs r × ExplainsUnsignedError 10 bs r × HasUnsignedDigitsIfOk bs r) 32 t c.get_one.result (λ u x g. g.0) (c.get_one.ensures.value t is)) in
    c.clamp.ensures ∙ ap (λ (n : ℕ). max c.args.least (min n c.args.most)) (c.unwrap_or.ensures ∙ ap (λ (o : Option ℕ). unwrap_or o c.args.otherwise) (read ∙ ap (option_and_then (number_of 32)) (one_text-rows found c.args.id.now)))
