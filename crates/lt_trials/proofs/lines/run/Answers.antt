use Rattle.lt_trials.proofs.InHand.{one_clear}
use Rattle.lt_trials.proofs.lines.run.Goals as goal

pub returns-then-began : goal.returns-then-began
returns-then-began c = record {
  free = one_clear c.args.line.now c.begin-began.new.line c.end-ended.new.line c.end-ended.new.hand c.requires.free c.begin-began.ensures.others c.end-ended.ensures.hand c.end-ended.ensures.empty c.end-ended.ensures.others;
}

pub returns-else-began : goal.returns-else-began
returns-else-began c = record {
  free = one_clear c.args.line.now c.begin-began.new.line c.end-ended.new.line c.end-ended.new.hand c.requires.free c.begin-began.ensures.others c.end-ended.ensures.hand c.end-ended.ensures.empty c.end-ended.ensures.others;
}
