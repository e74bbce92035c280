use Rattle.std.proofs.Common.{◌+◌, ◌∙◌, sym, subst, arith}
use Rattle.lt_restate.proofs.First.{IsFirstOf, first_begun, first_changes, first_stays, first_whole}
use Rattle.lt_restate.proofs.touched.first_place.Goals as goal
use Rattle.lt_restate.proofs.touched.first_place.Goals.{then-is_before, else-is_before}

pub loop-i-init : goal.loop-i-init
loop-i-init c = first_begun c.args.changes.now c.requires

pub loop-i-preserved : goal.loop-i-preserved
loop-i-preserved c =
    elim c.if-is_before.branch [
      | then-is_before w ↦
          subst (IsFirstOf c.args.changes.now (c.loop-i.i + 1)) (sym w.place-is)
          (first_changes c.args.changes.now c.loop-i.i c.loop-i.place c.loop-i.invariant c.index-changes-i.result (omega arith) c.index-changes-i.is c.index-changes-place.result c.index-changes-place.is (sym c.is_before.ensures ∙ w.if-is_before.true))
      | else-is_before w ↦
          subst (IsFirstOf c.args.changes.now (c.loop-i.i + 1)) (sym w.place-is)
          (first_stays c.args.changes.now c.loop-i.i c.loop-i.place c.loop-i.invariant c.index-changes-i.result (omega arith) c.index-changes-i.is c.index-changes-place.result c.index-changes-place.is (sym c.is_before.ensures ∙ w.if-is_before.false))
    ]

pub returns-clause-within : goal.returns-clause-within
returns-clause-within c = (let w = c.loop-i.invariant.within in let s = c.loop-i.invariant.short in omega arith)

pub returns-clause-first : goal.returns-clause-first
returns-clause-first c = first_whole c.args.changes.now c.loop-i.i c.loop-i.place (omega arith) c.loop-i.invariant
