use Rattle.std.proofs.Common.{map}
use Rattle.std.specs.Arc.{arc_value}
use Rattle.lt_base.specs.Tables.{state_of}
use Rattle.lt_run_trials.proofs.Fitting.{all_have_widths}
use Rattle.lt_run_trials.proofs.texts.all_routed.Goals as goal

pub plan_all-requires : goal.plan_all-requires
plan_all-requires c = record { widths = all_have_widths (state_of c.args.base.now) (map arc_value c.args.progs.now) c.plans_of_bodies.ensures.widths c.look_over.ensures.wide c.requires }
