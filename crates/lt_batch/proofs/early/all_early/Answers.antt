use Rattle.std.proofs.Common.{◌≡◌, length, map, rules, ap, subst, sym}
use Rattle.std.specs.Arc.{arc_value}
use Rattle.lt_model.specs.Fits.{Fits}
use Rattle.lt_base.specs.Tables.{state_of}
use Rattle.lt_program.specs.Tally.{HasIndexes}
use Rattle.lt_batch.specs.Batch.{program_at}
use Rattle.lt_batch.specs.Early.{AreEarly}
use Rattle.lt_batch.proofs.EarlyRuns.{early_more, none_early}
use Rattle.lt_batch.proofs.Indexed.{each_item}
use Rattle.lt_batch.proofs.Runs.{item_at}
use Rattle.lt_batch.proofs.early.all_early.Goals as goal

pub loop-prog-init : goal.loop-prog-init
loop-prog-init g c = record {
  are = subst (AreEarly (state_of c.args.snapshot.now) (map arc_value c.args.progs.now)) (sym c.new-all.ensures.items) (none_early (state_of c.args.snapshot.now) (map arc_value c.args.progs.now));
  long = ap length c.new-all.ensures.items;
}

pub early_run-requires-clause-fits : goal.early_run-requires-clause-fits
early_run-requires-clause-fits g c = λ lifetimes outlive. each_item (Fits (state_of c.args.snapshot.now)) arc_value c.args.progs.now c.loop-prog.prog-index c.prog-item.result c.loop-prog-test.true c.prog-item.is c.requires.runnable.fit

pub early_run-requires-clause-indexes : goal.early_run-requires-clause-indexes
early_run-requires-clause-indexes g c = λ lifetimes outlive. each_item (HasIndexes c.args.snapshot.now) arc_value c.args.progs.now c.loop-prog.prog-index c.prog-item.result c.loop-prog-test.true c.prog-item.is c.requires.indexed

pub loop-prog-preserved : goal.loop-prog-preserved
loop-prog-preserved g c =
    let own : program_at (map arc_value c.args.progs.now) c.loop-prog.prog-index ≡ arc_value c.prog-item.result = item_at arc_value c.args.progs.now c.loop-prog.prog-index c.prog-item.result c.loop-prog-test.true c.prog-item.is in
    record {
      are = subst (AreEarly (state_of c.args.snapshot.now) (map arc_value c.args.progs.now)) (sym c.in_ok-push.ensures.items)
          (early_more (state_of c.args.snapshot.now) (map arc_value c.args.progs.now) c.loop-prog.all.items c.in_ok-tally.tally c.loop-prog.prog-index (arc_value c.prog-item.result) c.loop-prog.invariant.are c.loop-prog.invariant.long own c.in_ok-tally.ensures);
      long = search rules;
    }
