use Rattle.std.proofs.Common.{◌≡◌, ◌∙◌, ℕ, List, Option, ap, codes, unwrap_or}
use Rattle.std.specs.Prelude.{option_and_then}
use Rattle.std.specs.Str.Parse.{ParsesUnsigned, ExplainsUnsignedError, HasUnsignedDigitsIfOk}
use Rattle.clap.specs.Words.{found_of, one_text}
use Rattle.clap.proofs.WalkLemmas.{one_text-rows}
use Rattle.lt_command.specs.Command.{number_of}
use Rattle.lt_command.proofs.Numbers.{number_read, text_read}
use Rattle.lt_command.proofs.words.seed_of.Goals as goal

pub returns : goal.returns
returns c =
    let found = found_of c.args.matches.now in
    let id : List ℕ = codes "seed" in
    let read : c.get_one.result ≡ option_and_then (number_of 64) (one_text found id) =
    text_read (one_text found id) c.get_one.result (number_of 64) c.get_one.ensures.none
    (λ t is. number_read _ (λ bs r. ParsesUnsigned 64 10 bs r × ExplainsUnsignedError 10 bs r × HasUnsignedDigitsIfOk bs r) 64 t c.get_one.result (λ u x g. g.0) (c.get_one.ensures.value t is)) in
    c.unwrap_or.ensures ∙ ap (λ (o : Option ℕ). unwrap_or o 0) (read ∙ ap (option_and_then (number_of 64)) (one_text-rows found id))
