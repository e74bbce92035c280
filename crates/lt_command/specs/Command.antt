-- What words ask for, by the commands' definition.
use Rattle.std.specs.Prelude.{◌≤◌, ◌^◌, ◌&&◌, ℕ, Bool, List, Option, Some, None, codes, false, is_some, if◌then◌else◌, max, min, nat_lt, option_and_then, unwrap_or}
use Rattle.std.specs.Option.{option_map_or}
use Rattle.std.specs.Str.{bytes_eq}
use Rattle.std.specs.Str.Parse.{digits_value, without_leading_plus}
use Rattle.lt_face.specs.Limits.{most_workers}
use Rattle.clap.specs.ValueTests.{is_numeral}
use Rattle.clap.specs.Walk.{is_empty}
use Rattle.clap.specs.Words.{Row, Text, fault_of, first_of, one_of, subcommand_of}
use Rattle.lt_command.specs.declared.words.Command as declared
use Rattle.lt_command.specs.declared.words.Command.TheVariants.{Bench, Replay, Run}
use Rattle.lt_command.specs.Definition as definition

-- the number that a text spells, where it is below 2^k
abbrev pub number_of : ℕ → Text → Option ℕ
number_of k text =
    let digits = without_leading_plus text in
    if is_numeral digits && nat_lt (digits_value 10 digits) (2 ^ k)
    then Some (digits_value 10 digits) else None

-- the number of an option, within its bounds, where another stands for one that isn't given
abbrev pub number_within : ℕ → ℕ → ℕ → Text → List Row → ℕ
number_within least most otherwise id rows =
    max least (min (unwrap_or (option_and_then (number_of 32) (one_of id rows)) otherwise) most)

-- how many workers a command's matches ask for: 4 where they don't say
abbrev pub workers_in : List Row → ℕ
workers_in = number_within 1 most_workers 4 (codes "workers")

-- how many batches run as one line: 1 where they don't say
abbrev pub pipeline_in : List Row → ℕ
pipeline_in = number_within 1 definition.most_in_line 1 (codes "pipeline")

-- whether an option without a value is given
abbrev pub is_given_in : Text → List Row → Bool
is_given_in id rows = option_map_or (λ text. bytes_eq text (codes "true")) (first_of id rows) false

-- whether they ask for the marks
abbrev pub marks_in : List Row → Bool
marks_in = is_given_in (codes "marks")

-- whether they ask for the traces
abbrev pub trace_in : List Row → Bool
trace_in = is_given_in (codes "trace")

abbrev pub seed_in : List Row → ℕ
seed_in rows = unwrap_or (option_and_then (number_of 64) (one_of (codes "seed") rows)) 0

abbrev pub items_in : List Row → ℕ
items_in = number_within 1 definition.most_items 1 (codes "items")

abbrev pub programs_in : List Row → ℕ
programs_in = number_within 1 definition.most_buyers 1 (codes "programs")

-- how many readers: none where they don't say
abbrev pub readers_in : List Row → ℕ
readers_in = number_within 0 definition.most_readers 0 (codes "readers")

-- it has from 1 to 16 workers, from 1 to 8 batches in a line, from 1 to 16384 items, from 1 to 65536 programs and at most 8 readers
abbrev pub IsWithin : declared.Command → Type 0
IsWithin (Run workers pipeline marks trace) = (1 ≤ workers) × (workers ≤ most_workers) × (1 ≤ pipeline) × (pipeline ≤ definition.most_in_line)
IsWithin (Bench seed items programs workers readers) =
    (1 ≤ items) × (items ≤ definition.most_items) × (1 ≤ programs) × (programs ≤ definition.most_buyers) × (1 ≤ workers) × (workers ≤ most_workers) × (readers ≤ definition.most_readers)
IsWithin (Replay marks) = Unit {0}

-- the command whose matches these are
abbrev pub command_in : Option (Text × List Row) → Option declared.Command
command_in None = None
command_in (Some p) =
    if bytes_eq p.0 (codes "run") then Some (Run (workers_in p.1) (pipeline_in p.1) (marks_in p.1) (trace_in p.1))
    else if bytes_eq p.0 (codes "bench") then Some (Bench (seed_in p.1) (items_in p.1) (programs_in p.1) (workers_in p.1) (readers_in p.1))
    else if bytes_eq p.0 (codes "replay") then Some (Replay (marks_in p.1))
    else None

-- the command that the words ask for; none where the definition doesn't take them
unfoldable pub command : List Text → Option declared.Command
command words =
    if is_empty (fault_of definition.commands words)
    then command_in (subcommand_of definition.commands words) else None

-- the definition takes the words
abbrev pub is_taken : List Text → Bool
is_taken words = is_some (command words)
