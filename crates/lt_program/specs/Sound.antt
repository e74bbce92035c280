-- What is always so of a tally.
use Rattle.std.specs.Prelude.{List}
use Rattle.lt_model.specs.declared.normal.Stmt.{Stmt}
use Rattle.lt_model.specs.Fits.{Fits}
use Rattle.lt_model.specs.State.{IsState}
use Rattle.lt_base.specs.Tables.{Table, state_of}
use Rattle.lt_query.specs.Runnable.{AreWide}
use Rattle.lt_program.specs.declared.course.Course.{Course}
use Rattle.lt_program.specs.Tally.{TallyView, HasIndexes, IsRun, IsLaid}

abbrev pub tally_of : List Stmt → List Table → Course → TallyView
tally_of program base course = record { program = program; base = base; parts = course.parts; reply = course.reply; marks = course.marks }

-- a program that fits the database and has its indexes there, run so far
pub record IsSound (program : List Stmt) (base : List Table) (course : Course) : Type 0 where
  pub fits : Fits (state_of base) program
  pub indexes : HasIndexes base program
  pub is_state : IsState (state_of base)
  pub wide : AreWide (state_of base)
  pub laid : IsLaid base course.marks course.laid
  pub run : IsRun (tally_of program base course)
