use Rattle.std.proofs.Common.{rules, map, take, subst}
use Rattle.std.specs.Arc.{arc_value}
use Rattle.lt_model.specs.Fits.{Fits}
use Rattle.lt_base.specs.Tables.{state_of}
use Rattle.lt_program.specs.Tally.{HasIndexes}
use Rattle.lt_batch.proofs.Gone.{alike_more}
use Rattle.lt_batch.proofs.Indexed.{all_stay, each_item, each_more}
use Rattle.lt_batch.proofs.fold.Fold.index_all.Goals as goal

pub index-requires : goal.index-requires
index-requires g c = (
  search rules,
  rw (c.deref.ensures, c.loop-prog.invariant.alike.state)
      (each_item (Fits (state_of c.args.self.now.db)) arc_value c.args.progs.now c.loop-prog.prog-index c.prog-item.result c.loop-prog-test.true c.prog-item.is c.requires),
)

pub loop-prog-preserved : goal.loop-prog-preserved
loop-prog-preserved g c = record {
  indexes =
      each_more (HasIndexes c.index.new.self.db) arc_value c.args.progs.now c.loop-prog.prog-index c.prog-item.result c.loop-prog-test.true c.prog-item.is
      (all_stay c.loop-prog.self.db c.index.new.self.db (map arc_value (take c.loop-prog.prog-index c.args.progs.now)) c.in_ok-index.ensures.alike.indexes c.loop-prog.invariant.indexes)
      (subst (HasIndexes c.index.new.self.db) c.deref.ensures c.in_ok-index.ensures.indexes);
  alike = alike_more c.args.self.now c.loop-prog.self c.index.new.self c.loop-prog.invariant.alike c.in_ok-index.ensures.alike;
}
