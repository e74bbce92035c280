use Rattle.std.proofs.Common.{refl}
use Rattle.lt_reference.proofs.Ready.{rises}
use Rattle.lt_run_trials.proofs.Fitting.{can_run, rows_laid}
use Rattle.lt_run_trials.proofs.serial.one_run.Goals as goal

pub lay-requires : goal.lay-requires
lay-requires c = rises c.args.relations.now.items c.args.prog.now (can_run c.args.relations.now.items c.args.relations.now.items c.args.prog.now c.requires.rows c.requires.fits refl)

pub returns : goal.returns
returns c =
    rows_laid c.args.relations.now.items c.lay.new.relations.items c.in_ok-reply.marks c.requires.rows
    (c.in_ok-reply.ensures.fits (can_run c.args.relations.now.items c.deref.result.now c.args.prog.now c.requires.rows c.requires.fits c.deref.ensures.value))
    c.in_ok-lay.ensures
