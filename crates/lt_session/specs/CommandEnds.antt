-- What each way to end shows of the source and the sink, whatever the words ask for.
use Rattle.std.specs.Prelude.{ℕ, List, Some, None}
use Rattle.std.specs.declared.option.Option.{Option}
use Rattle.std.specs.Io.KnownBytes.{Appends, Keeps}
use Rattle.lt_command.specs.declared.words.Command.{Command}
use Rattle.lt_command.specs.declared.words.Command.TheVariants.{Bench, Replay, Run}
use Rattle.lt_edges.specs.Causes.{Rose}
use Rattle.lt_model.specs.Report.{usage_text}
use Rattle.lt_report.specs.Puts.{AppendsFront}
use Rattle.lt_runs.specs.declared.status.Status.{Status}
use Rattle.lt_runs.specs.declared.status.Status.TheVariants.{Done, NotTaken, Faulty, ReadFault, WriteFault, NoMemory, TooLong, BadTrace}
use Rattle.lt_runs.specs.Ends.{bench_text, BenchEndsAs}
use Rattle.lt_runs.specs.ReplayEnds.{ReplayEndsAs}
use Rattle.lt_runs.specs.TracedEnds.{RunEndsAs}

-- how a call ends whose words aren't taken
abbrev pub UsageEndsAs : Status → Option (List ℕ) → Option (List ℕ) → ℕ → ℕ → Type 0
UsageEndsAs Done h i w x = ⊥
UsageEndsAs NotTaken h i w x = Appends h i usage_text
UsageEndsAs Faulty h i w x = ⊥
UsageEndsAs ReadFault h i w x = ⊥
UsageEndsAs WriteFault h i w x = Rose w x × AppendsFront h i usage_text
UsageEndsAs NoMemory h i w x = Keeps h i
UsageEndsAs TooLong h i w x = ⊥
UsageEndsAs BadTrace h i w x = ⊥

-- how a call ends that was asked for this
abbrev pub CommandEndsAs : Option Command → Status → Option (List ℕ) → Option (List ℕ) → ℕ → ℕ → Option (List ℕ) → Option (List ℕ) → ℕ → ℕ → Type 0
CommandEndsAs (Some (Run workers pipeline marks trace)) status l m r s h i w x = RunEndsAs trace marks status l m r s h i w x
CommandEndsAs (Some (Replay marks)) status l m r s h i w x = ReplayEndsAs marks status l m r s h i w x
CommandEndsAs (Some (Bench seed items programs workers readers)) status l m r s h i w x = Keeps l m × BenchEndsAs (bench_text seed items programs readers) status h i w x
CommandEndsAs None status l m r s h i w x = UsageEndsAs status h i w x
