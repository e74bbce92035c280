use Rattle.std.proofs.Common.{refl}
use Rattle.lt_runs.proofs.laws.traces_are_right.Goals as goal

pub returns : goal.returns
returns c = λ marks script items close blocks reads are within. record {
  blocks = blocks;
  script = script;
  trace = record { within = within; parts = refl };
  script_is = reads;
  right = c.blocks_are_right.ensures marks items blocks are;
}
