-- Command lines, by the commands' definition.
use Rattle.std.proofs.Common.{◌≡◌, false, true, refl, List, [], ◌∷◌, Option, Some, None, codes}
use Rattle.clap.specs.Words.{Text}
use Rattle.clap.proofs.OnLiterals.{clap_on_literals}
use Rattle.lt_command.specs.Command.{command}
use Rattle.lt_command.specs.declared.words.Command as declared
use Rattle.lt_command.specs.declared.words.Command.TheVariants.{Bench, Replay, Run}

abbrev asked : List Text → Option declared.Command
asked words = command (codes "lt_shell" ∷ words)

four_where_no_number : asked (codes "run" ∷ []) ≡ Some (Run 4 1 false false)
unfolding command clap_on_literals
four_where_no_number = refl

one : asked (codes "run" ∷ codes "--workers" ∷ codes "1" ∷ []) ≡ Some (Run 1 1 false false)
unfolding command clap_on_literals
one = refl

sixteen : asked (codes "run" ∷ codes "--workers=16" ∷ []) ≡ Some (Run 16 1 false false)
unfolding command clap_on_literals
sixteen = refl

leading_zero : asked (codes "run" ∷ codes "--workers" ∷ codes "04" ∷ []) ≡ Some (Run 4 1 false false)
unfolding command clap_on_literals
leading_zero = refl

plus : asked (codes "run" ∷ codes "--workers" ∷ codes "+4" ∷ []) ≡ Some (Run 4 1 false false)
unfolding command clap_on_literals
plus = refl

none_at_all : asked (codes "run" ∷ codes "--workers" ∷ codes "0" ∷ []) ≡ None
unfolding command clap_on_literals
none_at_all = refl

seventeen : asked (codes "run" ∷ codes "--workers" ∷ codes "17" ∷ []) ≡ None
unfolding command clap_on_literals
seventeen = refl

twice : asked (codes "run" ∷ codes "--workers" ∷ codes "4" ∷ codes "--workers" ∷ codes "4" ∷ []) ≡ None
unfolding command clap_on_literals
twice = refl

empty : asked (codes "run" ∷ codes "--workers=" ∷ []) ≡ None
unfolding command clap_on_literals
empty = refl

shortened : asked (codes "run" ∷ codes "--work" ∷ codes "4" ∷ []) ≡ None
unfolding command clap_on_literals
shortened = refl

help_of_run : asked (codes "run" ∷ codes "--help" ∷ []) ≡ None
unfolding command clap_on_literals
help_of_run = refl

help : asked (codes "help" ∷ []) ≡ None
unfolding command clap_on_literals
help = refl

end_of_options : asked (codes "run" ∷ codes "--" ∷ []) ≡ Some (Run 4 1 false false)
unfolding command clap_on_literals
end_of_options = refl

unknown : asked (codes "walk" ∷ []) ≡ None
unfolding command clap_on_literals
unknown = refl

one_word_more : asked (codes "run" ∷ codes "now" ∷ []) ≡ None
unfolding command clap_on_literals
one_word_more = refl

no_command : asked [] ≡ None
unfolding command clap_on_literals
no_command = refl

no_word : command [] ≡ None
unfolding command clap_on_literals
no_word = refl

with_marks : asked (codes "run" ∷ codes "--marks" ∷ codes "--workers" ∷ codes "2" ∷ []) ≡ Some (Run 2 1 true false)
unfolding command clap_on_literals
with_marks = refl

marks_with_a_value : asked (codes "run" ∷ codes "--marks=true" ∷ []) ≡ None
unfolding command clap_on_literals
marks_with_a_value = refl

bench : asked (codes "bench" ∷ codes "--seed" ∷ codes "1" ∷ codes "--items=64" ∷ codes "--programs" ∷ codes "32" ∷ []) ≡ Some (Bench 1 64 32 4 0)
unfolding command clap_on_literals
bench = refl

no_seed : asked (codes "bench" ∷ codes "--items" ∷ codes "1" ∷ codes "--programs" ∷ codes "1" ∷ []) ≡ None
unfolding command clap_on_literals
no_seed = refl

eight_readers : asked (codes "bench" ∷ codes "--seed" ∷ codes "1" ∷ codes "--items" ∷ codes "1" ∷ codes "--programs" ∷ codes "1" ∷ codes "--readers" ∷ codes "8" ∷ []) ≡ Some (Bench 1 1 1 4 8)
unfolding command clap_on_literals
eight_readers = refl

nine_readers : asked (codes "bench" ∷ codes "--seed" ∷ codes "1" ∷ codes "--items" ∷ codes "1" ∷ codes "--programs" ∷ codes "1" ∷ codes "--readers" ∷ codes "9" ∷ []) ≡ None
unfolding command clap_on_literals
nine_readers = refl

readers_of_a_run : asked (codes "run" ∷ codes "--readers" ∷ codes "1" ∷ []) ≡ None
unfolding command clap_on_literals
readers_of_a_run = refl

with_traces : asked (codes "run" ∷ codes "--trace" ∷ codes "--marks" ∷ []) ≡ Some (Run 4 1 true true)
unfolding command clap_on_literals
with_traces = refl

eight_in_line : asked (codes "run" ∷ codes "--pipeline" ∷ codes "8" ∷ codes "--workers" ∷ codes "2" ∷ []) ≡ Some (Run 2 8 false false)
unfolding command clap_on_literals
eight_in_line = refl

nine_in_line : asked (codes "run" ∷ codes "--pipeline" ∷ codes "9" ∷ []) ≡ None
unfolding command clap_on_literals
nine_in_line = refl

none_in_line : asked (codes "run" ∷ codes "--pipeline=0" ∷ []) ≡ None
unfolding command clap_on_literals
none_in_line = refl

lines_of_a_replay : asked (codes "replay" ∷ codes "--pipeline" ∷ codes "1" ∷ []) ≡ None
unfolding command clap_on_literals
lines_of_a_replay = refl

traces_of_a_bench : asked (codes "bench" ∷ codes "--seed" ∷ codes "1" ∷ codes "--items=64" ∷ codes "--programs" ∷ codes "32" ∷ codes "--trace" ∷ []) ≡ None
unfolding command clap_on_literals
traces_of_a_bench = refl

replay : asked (codes "replay" ∷ []) ≡ Some (Replay false)
unfolding command clap_on_literals
replay = refl

replay_with_marks : asked (codes "replay" ∷ codes "--marks" ∷ []) ≡ Some (Replay true)
unfolding command clap_on_literals
replay_with_marks = refl

workers_of_a_replay : asked (codes "replay" ∷ codes "--workers" ∷ codes "1" ∷ []) ≡ None
unfolding command clap_on_literals
workers_of_a_replay = refl

traces_of_a_replay : asked (codes "replay" ∷ codes "--trace" ∷ []) ≡ None
unfolding command clap_on_literals
traces_of_a_replay = refl
