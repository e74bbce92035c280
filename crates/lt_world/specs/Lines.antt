-- Batches that follow each other, run as one line.
use Rattle.std.specs.Prelude.{◌≡◌, ◌<◌, ◌+◌, ◌^◌, ℕ, Bool, List, [], ◌∷◌, ◌++◌, length, map, fold, ⊤}
use Rattle.lt_model.specs.declared.syntax.Item.{Item}
use Rattle.lt_model.specs.declared.syntax.Item.TheVariants.{Batch}
use Rattle.lt_model.specs.declared.syntax.Program.{Program}
use Rattle.lt_model.specs.declared.normal.Stmt.{Stmt}
use Rattle.lt_model.specs.declared.reply.Reply.{Reply}
use Rattle.lt_model.specs.Check.{Checked, checked}
use Rattle.lt_model.specs.Marks.{Marks}
use Rattle.lt_model.specs.Report as model
use Rattle.lt_model.specs.Report.{Text, batch_text, step, version_text}
use Rattle.lt_model.specs.Schema.{Schema}
use Rattle.std.specs.Global.{Vec}
use Rattle.lt_base.specs.Tables.{state_of}
use Rattle.lt_batch.specs.Line.{line_effects, line_replies}
use Rattle.lt_world.specs.declared.batch.Judgement.{Judgement}
use Rattle.lt_world.specs.declared.line.LineRan.{LineRan}
use Rattle.lt_world.specs.declared.world.World.{World}
use Rattle.lt_world.specs.Batches.{checked_of, good_ones, told, HasAnswers}
use Rattle.lt_world.specs.World.{unwritten, Shows}

-- the batches as items of a script
abbrev pub items_of : List (List Program) → List Item
items_of batches = map (λ programs. Batch programs) batches

-- what the fold writes of the items
abbrev pub said_all : Bool → model.World → List Item → Text
said_all marks m items = (fold (step marks) (unwritten m) items).text

-- the session stands behind the items
abbrev pub TakesAll : World → List Item → World → Type 0
TakesAll old items new = (marks : Bool) (m : model.World) → Shows old m → Shows new (fold (step marks) m items)

-- what the check of each program gave, batch after batch
abbrev pub checks_of : List (Vec Judgement) → List (List Checked)
checks_of judgements = map (λ js. map checked_of js.items) judgements

abbrev pub all_checked : Schema → List (List Program) → List (List Checked)
all_checked schema batches = map (λ programs. map (λ (p : Program). checked p schema) programs) batches

-- the programs without a code, batch after batch
abbrev pub goods_of : List (Vec Judgement) → List (List (List Stmt))
goods_of judgements = map (λ js. good_ones js.items) judgements

-- the lines of batches, from this number on
abbrev pub line_text : Bool → Schema → ℕ → List (List Program) → List (List Checked) → List (List Reply) → List (List Marks) → Text
line_text marks schema number [] checks replies effects = []
line_text marks schema number (b ∷ batches) [] replies effects = []
line_text marks schema number (b ∷ batches) (c ∷ checks) [] effects = []
line_text marks schema number (b ∷ batches) (c ∷ checks) (r ∷ replies) [] = []
line_text marks schema number (b ∷ batches) (c ∷ checks) (r ∷ replies) (e ∷ effects) =
    (batch_text number ++ told marks schema b c r e ++ version_text number) ++ line_text marks schema (number + 1) batches checks replies effects

-- each batch has its checks, replies and marks, which can be written
abbrev pub HaveAnswers : Schema → List (List Program) → List (Vec Judgement) → List (List Reply) → List (List Marks) → Type 0
HaveAnswers schema [] judgements replies effects = ⊤
HaveAnswers schema (b ∷ batches) [] replies effects = ⊥
HaveAnswers schema (b ∷ batches) (j ∷ judgements) [] effects = ⊥
HaveAnswers schema (b ∷ batches) (j ∷ judgements) (r ∷ replies) [] = ⊥
HaveAnswers schema (b ∷ batches) (j ∷ judgements) (r ∷ replies) (e ∷ effects) = HasAnswers schema b j.items r e × HaveAnswers schema batches judgements replies effects

-- the programs of the batches were checked, and those without a code run one after another, batch after batch
pub record IsLineRun (w : World) (batches : List (List Program)) (ran : LineRan) : Type 0 where
  pub number_is : ran.number ≡ length w.versions
  pub few : ran.number + length batches < 2 ^ 64
  pub checks : checks_of ran.judgements.items ≡ all_checked w.schema batches
  pub replies_are : ran.replies ≡ line_replies (goods_of ran.judgements.items) (state_of w.database)
  pub effects_are : ran.effects ≡ line_effects (goods_of ran.judgements.items) (state_of w.database)
  pub answers : HaveAnswers w.schema batches ran.judgements.items ran.replies ran.effects
