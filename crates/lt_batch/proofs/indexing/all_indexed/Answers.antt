use Rattle.std.proofs.Common.{◌∙◌, map, take, subst}
use Rattle.std.specs.Arc.{arc_value}
use Rattle.lt_model.specs.Fits.{Fits}
use Rattle.lt_base.specs.Tables.{state_of}
use Rattle.lt_program.specs.Tally.{HasIndexes}
use Rattle.lt_batch.proofs.Indexed.{each_item, each_more, all_stay}
use Rattle.lt_batch.proofs.indexing.all_indexed.Goals as goal

pub indexed-requires-clause-fits : goal.indexed-requires-clause-fits
indexed-requires-clause-fits g c = λ lifetimes outlive.
    rw (c.deref.ensures, c.loop-prog.invariant.state)
    (each_item (Fits (state_of c.args.db.now)) arc_value c.args.progs.now c.loop-prog.prog-index c.prog-item.result c.loop-prog-test.true c.prog-item.is c.requires.fits)

pub loop-prog-preserved : goal.loop-prog-preserved
loop-prog-preserved g c =
    let kept = all_stay c.loop-prog.with c.in_ok-with-2.with (map arc_value (take c.loop-prog.prog-index c.args.progs.now)) c.in_ok-with-2.ensures.kept c.loop-prog.invariant.indexes in
    record {
      state = c.in_ok-with-2.ensures.state ∙ c.loop-prog.invariant.state;
      indexes =
          each_more (HasIndexes c.in_ok-with-2.with) arc_value c.args.progs.now c.loop-prog.prog-index c.prog-item.result c.loop-prog-test.true c.prog-item.is kept
          (subst (HasIndexes c.in_ok-with-2.with) c.deref.ensures c.in_ok-with-2.ensures.indexes);
    }
