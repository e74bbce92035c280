-- The run of a program on lists of rows.
use Rattle.std.specs.Prelude.{◌≡◌, ℕ, ◌≤◌, List, [], map}
use Rattle.std.specs.List.{AllByRecursion}
use Rattle.lt_face.specs.Limits.{most_columns}
use Rattle.lt_face.specs.State.{Row, Relation, State}
use Rattle.lt_model.specs.declared.normal.Stmt.{Stmt}
use Rattle.lt_model.specs.declared.reply.Reply.{Reply}
use Rattle.lt_model.specs.declared.reply.Reply.TheVariants.{Refused}
use Rattle.lt_model.specs.State.{IsState}
use Rattle.lt_model.specs.Fits.{Fits}
use Rattle.lt_model.specs.Marks.{Marks, and_then, laid}
use Rattle.lt_model.specs.Run as model
use Rattle.lt_program.specs.declared.effect.Effect.{Effect}
use Rattle.lt_program.specs.declared.effect.Effect.TheVariants.{Writes, Requires, Prints, Clashes}
use Rattle.lt_program.specs.Effect.{view}
use Rattle.lt_reference.specs.declared.progress.Progress.{Progress}
use Rattle.lt_reference.specs.Walk.{bare}

-- the rows of each relation
abbrev pub lists : State → List (List Row)
lists state = map (λ (relation : Relation). relation.rows) state

-- there is a state with these rows that the program fits, and none of its relations is wider than 8
pub record IsFitting (rows : List (List Row)) (program : List Stmt) : Type 0 where
  pub state : State
  pub has : lists state ≡ rows
  pub is_state : IsState state
  pub narrow : AllByRecursion (λ (relation : Relation). relation.width ≤ most_columns) state
  pub fits : Fits state program

-- the marks and the prints so far
abbrev pub so_far : Progress → model.Progress
so_far p = record { marks = p.marks; prints = p.prints }

-- what an effect writes
abbrev pub written : Effect → Marks
written (Writes marks) = marks
written (Requires holds) = []
written (Prints kinds rows) = []
written Clashes = []

-- a statement's effect was taken in: the run goes on from there, and the relations have its marks laid on them
pub record Follows (number : ℕ) (effect : Effect) (before after : Progress) : Type 0 where
  pub goes_on : (rest : model.Progress → Reply × Marks) → model.run_on number (so_far before) (view effect) rest ≡ rest (so_far after)
  pub lays : bare after.relations.items ≡ laid (bare before.relations.items) (written effect)
  pub marks : after.marks ≡ and_then before.marks (written effect)

-- a statement's effect refuses the program
pub record Stops (number : ℕ) (effect : Effect) (before : Progress) : Type 0 where
  pub ends : (rest : model.Progress → Reply × Marks) → model.run_on number (so_far before) (view effect) rest ≡ (Refused number, [])
