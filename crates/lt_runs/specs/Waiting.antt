-- Batches that wait to be run as one line.
use Rattle.std.specs.Prelude.{◌≡◌, ◌<◌, ◌≤◌, ℕ, true, List, [], ◌++◌, length, fold, Result, OnOk, OnErr, IsErrOf}
use Rattle.std.specs.declared.option.Option.{Option}
use Rattle.std.specs.List.{AllByRecursion}
use Rattle.std.specs.Io.KnownBytes.{Appends}
use Rattle.lt_edges.specs.Causes.{Rose}
use Rattle.lt_model.specs.declared.syntax.Item.{Item}
use Rattle.lt_model.specs.Limits.{IsWithinLimits}
use Rattle.lt_model.specs.Report as model
use Rattle.lt_model.specs.Report.{step}
use Rattle.lt_report.specs.Puts.{AppendsFront}
use Rattle.lt_world.specs.declared.halt.Halt.{Halt}
use Rattle.lt_world.specs.declared.halt.Halt.TheVariants.{Failed}
use Rattle.lt_world.specs.declared.options.Options.{Options}
use Rattle.lt_runs.specs.declared.session.Session.{Session}
use Rattle.lt_world.specs.Lines.{items_of, said_all}
use Rattle.lt_world.specs.Traces.{KeepsBlocks}
use Rattle.lt_world.specs.World.{IsWorld, Shows}

-- the batches that wait, as items
abbrev pub held : Session → List Item
held s = items_of s.waiting.items

-- the session stands somewhere, and fewer batches wait than a line has; where traces are asked for none does
pub record IsReady (options : Options) (s : Session) : Type 0 where
  pub world : IsWorld s.made.world
  pub within : AllByRecursion IsWithinLimits (held s)
  pub few : length s.waiting.items < options.pipeline
  pub alone : options.trace ≡ true → s.waiting.items ≡ []

-- Of these items the first were answered: the session stands behind them, what they say was written, and their blocks were kept.
-- The others wait.
pub record Answers (options : Options) (m : model.World) (items : List Item) (old new : Session) (before now : Option (List ℕ)) : Type 0 where
  pub front : List Item
  pub parts : items ≡ front ++ held new
  pub shows : Shows new.made.world (fold (step options.marks) m front)
  pub written : Appends before now (said_all options.marks m front)
  pub kept : KeepsBlocks options.trace options.marks m front old.made.blocks.items new.made.blocks.items

-- What a call has done that answers some of these items. Where it didn't, a front of what all of them say was written.
pub record AnswersSome {T : Type 0} (result : Result T Halt) (options : Options) (m : model.World) (items : List Item) (old new : Session) (before now : Option (List ℕ)) (w x : ℕ) : Type 0 where
  pub ok : OnOk result (Answers options m items old new before now)
  pub err : OnErr result (AppendsFront before now (said_all options.marks m items))
  pub later : w ≤ x
  pub failed : IsErrOf result Failed → Rose w x
