-- What the programs of a script answer, counted as they run.
use Rattle.std.specs.Prelude.{◌≤◌, ◌+◌, ◌^◌, ℕ, List, [], ◌∷◌, length}
use Rattle.lt_model.specs.declared.syntax.Program.{Program}
use Rattle.lt_model.specs.declared.reply.Reply.{Reply}
use Rattle.lt_model.specs.Check.{Checked}
use Rattle.lt_model.specs.Check as model
use Rattle.lt_gen.specs.declared.summary.Summary.{Summary}
use Rattle.lt_gen.specs.Answered.{Answer}
use Rattle.lt_gen.specs.Counted.{Counts}

-- the programs without a code in batch order, each with its reply from the list
abbrev pub answered_by : List Program → List Checked → List Reply → List Answer
answered_by [] checks replies = []
answered_by (p ∷ programs) [] replies = []
answered_by (p ∷ programs) (model.Bad code j ∷ checks) replies = answered_by programs checks replies
answered_by (p ∷ programs) (model.Good prog ∷ checks) [] = []
answered_by (p ∷ programs) (model.Good prog ∷ checks) (reply ∷ replies) = (p.name, reply) ∷ answered_by programs checks replies

-- some answers were counted, and so many more can be
pub record HasRoomFor (summary : Summary) (more : ℕ) : Type 0 where
  pub answers : List Answer
  pub counts : Counts summary answers
  pub few : length answers + more ≤ 2 ^ 32
