use Rattle.std.proofs.Common.{◌∙◌, sym, subst}
use Rattle.lt_model.specs.Laws.{Rises}
use Rattle.lt_reference.specs.Walk.{bare}
use Rattle.lt_reference.proofs.LaidRows.{Rises-lay, laid_step}
use Rattle.lt_reference.proofs.laying.lay.Goals as goal

pub loop-i-preserved : goal.loop-i-preserved
loop-i-preserved c = record {
  so_far = laid_step (bare c.loop-i.relations.items) c.args.marks.now c.loop-i.i c.mark-mark.result.now (bare c.lay_one.new.relations.items) c.mark-mark.ensures c.in_ok-lay_one.ensures ∙ c.loop-i.invariant.so_far;
  rises = subst Rises (sym c.in_ok-lay_one.ensures) (Rises-lay (bare c.loop-i.relations.items) c.mark-mark.result.now c.loop-i.invariant.rises);
}
