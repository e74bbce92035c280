-- Summaries that count answers.
use Rattle.std.specs.Prelude.{◌≡◌, ◌*◌, ◌^◌, ◌≤◌, ◌<◌, List, length}
use Rattle.lt_face.specs.Limits.{most_statements}
use Rattle.lt_model.specs.declared.reply.Reply.{Reply}
use Rattle.lt_model.specs.declared.reply.Reply.TheVariants.{Done, Refused}
use Rattle.lt_gen.specs.declared.summary.Summary.{Summary}
use Rattle.lt_gen.specs.Answered.{Answer, done_count, refused_count, printed_count}

-- the summary's counts are those of these answers, each of which has printed at most 2^70 rows
pub record Counts (summary : Summary) (answers : List Answer) : Type 0 where
  pub done : summary.done ≡ done_count answers
  pub refused : summary.refused ≡ refused_count answers
  pub printed : summary.printed ≡ printed_count answers
  pub bound : summary.printed ≤ 2 ^ 70 * length answers

-- it counts fewer than 2^32 answers
pub record HasRoom (summary : Summary) : Type 0 where
  pub answers : List Answer
  pub counts : Counts summary answers
  pub few : length answers < 2 ^ 32

-- a reply has at most as many prints as a program has statements
abbrev pub HasFewPrints : Reply → Type 0
HasFewPrints (Done prints) = length prints ≤ most_statements
HasFewPrints (Refused j) = Unit {0}
