use Rattle.std.proofs.Common.{arith, sym, subst, ◌∙◌}
use Rattle.std.specs.Prelude.{◌<◌, length}
use Rattle.lt_join.specs.Narrowed.{Agrees}
use Rattle.lt_join.specs.Values.{values_in}
use Rattle.lt_join.proofs.Bounding.{none_agrees, term_got, value_agrees}
use Rattle.lt_join.proofs.narrowing.values_above.Goals as goal
use Rattle.lt_join.proofs.narrowing.values_above.Goals.{in-Var, in_default}

pub loop-l-init : goal.loop-l-init
loop-l-init c = λ a agree. subst (λ values. Agrees values a) (sym c.none-above.ensures) (none_agrees a)

pub loop-l-preserved : goal.loop-l-preserved
loop-l-preserved c = λ a agree. elim c.match-levels-l.branch [
  | in-Var w ↦
      let above : c.loop-l.l < length c.args.keys.now = omega (arith, c.loop-l-test.true, c.len-l-end.ensures) in
      let there : c.loop-l.l < length c.args.levels.now = omega (arith, above, c.requires.within) in
      let term = term_got c.args.levels.now c.loop-l.l _ there ∙ w.in-Var.is in
      let more = value_agrees c.args.levels.now c.args.keys.now (values_in c.args.values.now.cells) (values_in c.loop-l.above.cells) a c.loop-l.l w.in-Var.v c.requires.known agree above term (c.loop-l.invariant a agree) in
      rw w.above-is (subst (λ values. Agrees values a) (sym w.set.ensures) (rw w.cell.ensures more))
  | in_default w ↦ rw w.above-is (c.loop-l.invariant a agree)
]
