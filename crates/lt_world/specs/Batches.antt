-- The programs of a batch, checked and answered.
use Rattle.std.specs.Prelude.{◌≡◌, ◌≤◌, Bool, true, List, [], ◌∷◌, ◌++◌, length, map, filter_map, ⊤}
use Rattle.std.specs.Arc.{arc_value}
use Rattle.std.specs.List.{AllByRecursion}
use Rattle.lt_face.specs.State.{State}
use Rattle.lt_model.specs.declared.syntax.Program.{Program}
use Rattle.lt_model.specs.declared.normal.Stmt.{Stmt}
use Rattle.lt_model.specs.declared.reply.Reply.{Reply}
use Rattle.lt_model.specs.Check.{Checked, checked}
use Rattle.lt_model.specs.Check as model
use Rattle.lt_model.specs.Fits.{Fits}
use Rattle.lt_model.specs.Marks.{Marks}
use Rattle.lt_model.specs.Report.{Text, bad_program_text, done_text, good_of}
use Rattle.lt_model.specs.Schema.{Schema}
use Rattle.lt_base.specs.Tables.{state_of}
use Rattle.lt_batch.specs.Batch.{serial_effects, serial_replies}
use Rattle.lt_program.specs.Run.{AreReplied}
use Rattle.lt_report.specs.Headed.{IsHeaded}
use Rattle.lt_world.specs.declared.batch.Judgement.{Judgement}
use Rattle.lt_world.specs.declared.batch.Judgement.TheVariants.{Good, Bad}
use Rattle.lt_world.specs.declared.batch.Ran.{Ran}
use Rattle.lt_world.specs.declared.world.World.{World}

-- what the check of a program gave, apart from where it lies in memory
abbrev pub checked_of : Judgement → Checked
checked_of (Good prog) = model.Good (arc_value prog)
checked_of (Bad code statement) = model.Bad code statement

-- a program without a code fits the state
abbrev pub FitsIfGood : State → Checked → Type 0
FitsIfGood state (model.Good prog) = Fits state prog
FitsIfGood state (model.Bad code statement) = ⊤

-- the lines of programs in batch order; those without a code take their replies and marks from the lists
abbrev pub told : Bool → Schema → List Program → List Checked → List Reply → List Marks → Text
told marks schema [] checks replies effects = []
told marks schema (p ∷ programs) [] replies effects = []
told marks schema (p ∷ programs) (model.Bad code j ∷ checks) replies effects = bad_program_text p.name code j ++ told marks schema programs checks replies effects
told marks schema (p ∷ programs) (model.Good prog ∷ checks) [] effects = []
told marks schema (p ∷ programs) (model.Good prog ∷ checks) (reply ∷ replies) [] = []
told marks schema (p ∷ programs) (model.Good prog ∷ checks) (reply ∷ replies) (effect ∷ effects) =
    done_text marks schema p.name (reply, effect) ++ told marks schema programs checks replies effects

-- the programs without a code
abbrev pub good_ones : List Judgement → List (List Stmt)
good_ones judgements = filter_map good_of (map checked_of judgements)

-- each program has a check, and each without a code a reply and marks that can be written
pub record HasAnswers (schema : Schema) (programs : List Program) (judgements : List Judgement) (replies : List Reply) (effects : List Marks) : Type 0 where
  pub checks : length judgements ≡ length programs
  pub some_replies : length (good_ones judgements) ≤ length replies
  pub some_effects : length (good_ones judgements) ≤ length effects
  pub replied : AllByRecursion AreReplied replies
  pub headed : AllByRecursion (λ (effect : Marks). AllByRecursion (IsHeaded schema) effect) effects

-- the programs were checked, and those without a code run one after another; what they wrote was kept, where the marks were asked for
pub record IsRun (w : World) (programs : List Program) (marks : Bool) (ran : Ran) : Type 0 where
  pub number_is : ran.number ≡ length w.versions
  pub checks : map checked_of ran.judgements.items ≡ map (λ (p : Program). checked p w.schema) programs
  pub replies_are : ran.replies ≡ serial_replies (good_ones ran.judgements.items) (state_of w.database)
  pub effects_are : marks ≡ true → ran.effects ≡ serial_effects (good_ones ran.judgements.items) (state_of w.database)
  pub answers : HasAnswers w.schema programs ran.judgements.items ran.replies ran.effects
