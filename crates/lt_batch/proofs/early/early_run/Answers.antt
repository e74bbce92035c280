use Rattle.std.proofs.Common.{refl, ap}
use Rattle.lt_base.specs.Tables.{state_of}
use Rattle.lt_batch.proofs.early.early_run.Goals as goal

pub returns : goal.returns
returns g c = record {
  run = record {
    program = c.in_ok-run.ensures.program;
    base = ap state_of c.in_ok-run.ensures.base;
    is_run = c.in_ok-run.ensures.parts;
    ended = c.in_ok-run.ensures.ended;
    reply = c.in_ok-run.ensures.reply;
    marks = c.in_ok-run.ensures.marks;
  };
  same_on = c.in_ok-on.ensures;
}
