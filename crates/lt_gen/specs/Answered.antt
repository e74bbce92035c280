-- What the programs of a script answer, where they run one after another.
use Rattle.std.specs.Prelude.{ℕ, Bool, true, false, ◌&&◌, not, List, [], ◌∷◌, ◌++◌, map, length, filter, filter_map, sum_by, codes}
use Rattle.std.specs.Str.{bytes_eq}
use Rattle.lt_model.specs.declared.syntax.Program.{Program}
use Rattle.lt_model.specs.declared.syntax.Item.{Item}
use Rattle.lt_model.specs.declared.syntax.Item.TheVariants.{Relation, Batch, Show}
use Rattle.lt_model.specs.declared.reply.Printed.{Printed}
use Rattle.lt_model.specs.declared.reply.Reply.{Reply}
use Rattle.lt_model.specs.declared.reply.Reply.TheVariants.{Done, Refused}
use Rattle.lt_model.specs.Check.{Checked, Good, Bad, checked}
use Rattle.lt_model.specs.Marks.{Marks}
use Rattle.lt_model.specs.Serial.{serial}
use Rattle.lt_model.specs.Report.{Text, World, good_of, step}

-- a program's name, and what it answered
abbrev pub Answer : Type 0
Answer = Text × Reply

-- the programs without a code in batch order, each with its reply
abbrev pub answered : List (Text × Checked) → List (Reply × Marks) → List Answer
answered [] done = []
answered ((name, Bad code j) ∷ programs) done = answered programs done
answered ((name, Good program) ∷ programs) [] = []
answered ((name, Good program) ∷ programs) (reply ∷ done) = (name, reply.0) ∷ answered programs done

-- the programs of a batch, checked
abbrev pub checks : World → List Program → List (Text × Checked)
checks w programs = map (λ (p : Program). (p.name, checked p w.schema)) programs

-- what an item's programs answer on a world
abbrev pub answers_to : World → Item → List Answer
answers_to w (Batch programs) = answered (checks w programs) (serial (filter_map (λ check. good_of check.1) (checks w programs)) w.state).0
answers_to w (Relation name kinds keys) = []
answers_to w (Show name version) = []

-- and those of more items, each on what the items before it left
abbrev pub answers_from : World → List Item → List Answer
answers_from w [] = []
answers_from w (item ∷ items) = answers_to w item ++ answers_from (step false w item) items

-- ---- counts

abbrev pub is_done : Reply → Bool
is_done (Done prints) = true
is_done (Refused j) = false

-- a program that buys
abbrev pub is_buy : Answer → Bool
is_buy answer = bytes_eq answer.0 (codes "buy")

abbrev pub done_count : List Answer → ℕ
done_count answers = length (filter (λ (a : Answer). is_buy a && is_done a.1) answers)

abbrev pub refused_count : List Answer → ℕ
refused_count answers = length (filter (λ (a : Answer). is_buy a && not (is_done a.1)) answers)

-- how many rows a program has printed
abbrev pub rows_printed : Reply → ℕ
rows_printed (Done prints) = sum_by (λ (p : Printed). length p.rows) prints
rows_printed (Refused j) = 0

abbrev pub printed_count : List Answer → ℕ
printed_count answers = sum_by (λ (a : Answer). rows_printed a.1) answers
