use Rattle.std.proofs.Common.{None, sym, subst}
use Rattle.std.specs.List.{AllByRecursion}
use Rattle.lt_world.specs.Prepared.{IsKnown}
use Rattle.lt_world.proofs.Columns.{AllByRecursion-push}
use Rattle.lt_world.proofs.checks.make_room.Goals as goal

pub loop-preserved : goal.loop-preserved
loop-preserved c = λ schema all. subst (AllByRecursion (IsKnown schema)) (sym c.in_ok-push.ensures.items) (AllByRecursion-push (IsKnown schema) c.loop.forms.items None (c.loop.invariant schema all) tt)

pub returns-in_ok-push : goal.returns-in_ok-push
returns-in_ok-push c = λ schema all. subst (AllByRecursion (IsKnown schema)) (sym c.in_ok-push.ensures.items) (AllByRecursion-push (IsKnown schema) c.loop.forms.items None (c.loop.invariant schema all) tt)

pub returns-in_err-push : goal.returns-in_err-push
returns-in_err-push c = λ schema all. subst (AllByRecursion (IsKnown schema)) (sym c.in_err-push.ensures.items) (c.loop.invariant schema all)
