use Rattle.std.proofs.Common.{◌≡◌, take}
use Rattle.std.specs.List.{AllByRecursion}
use Rattle.lt_model.specs.Fits.{FitMarks}
use Rattle.lt_base.specs.Tables.{state_of}
use Rattle.lt_program.specs.Run.{AreReplied}
use Rattle.lt_batch.specs.Line.{line_effects, line_replies}
use Rattle.lt_batch.proofs.line_gathering.gathered_line.Given as goal

abbrev pub invariant-loop-s : goal.invariant-loop-s
invariant-loop-s l = record {
  replies : l.replies ≡ line_replies (take l.s l.line.work.batches) (state_of l.line.work.snapshot);
  effects : l.effects ≡ line_effects (take l.s l.line.work.batches) (state_of l.line.work.snapshot);
  fit : AllByRecursion (AllByRecursion (FitMarks (state_of l.line.work.snapshot))) l.effects;
  printed : AllByRecursion (AllByRecursion AreReplied) l.replies;
}
