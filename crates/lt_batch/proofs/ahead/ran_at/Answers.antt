use Rattle.std.proofs.Common.{List, [], sym, subst}
use Rattle.std.specs.Arc.{arc_value}
use Rattle.lt_model.specs.declared.normal.Stmt.{Stmt}
use Rattle.lt_model.specs.Fits.{Fits}
use Rattle.lt_base.specs.Tables.{state_of}
use Rattle.lt_program.specs.Tally.{HasIndexes}
use Rattle.lt_batch.specs.Folding.{IsEarly}
use Rattle.lt_batch.proofs.Indexed.{each_item}
use Rattle.lt_batch.proofs.Runs.{item_at}
use Rattle.lt_batch.proofs.ahead.ran_at.Goals as goal

pub run_early-requires-clause-fits : goal.run_early-requires-clause-fits
run_early-requires-clause-fits c =
    each_item (Fits (state_of c.args.db.now)) arc_value c.args.progs.now c.args.task.place c.index-progs-task.result c.requires.below c.index-progs-task.is c.requires.fit

pub run_early-requires-clause-indexes : goal.run_early-requires-clause-indexes
run_early-requires-clause-indexes c =
    each_item (HasIndexes c.args.db.now) arc_value c.args.progs.now c.args.task.place c.index-progs-task.result c.requires.below c.index-progs-task.is c.requires.indexes

pub returns : goal.returns
returns c =
    subst (λ (p : List Stmt). IsEarly p (state_of c.args.db.now) [] c.in_ok-early.early) (sym (item_at arc_value c.args.progs.now c.args.task.place c.index-progs-task.result c.requires.below c.index-progs-task.is))
    c.in_ok-early.ensures
