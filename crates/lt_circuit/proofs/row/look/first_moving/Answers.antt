use Rattle.std.proofs.Common.{inl, inr, sym, subst, arith}
use Rattle.std.proofs.lemmas.Bool.Decides.{eqb_tells}
use Rattle.lt_circuit.specs.Row.{IsPassable}
use Rattle.lt_circuit.proofs.row.look.first_moving.Goals as goal

pub loop-s-preserved : goal.loop-s-preserved
loop-s-preserved c = λ r lt. elim (eqb_tells r c.loop-s.s) [
  | inl e ↦ subst (IsPassable c.args.segments.now) (sym e.1) (c.is_passable.ensures.0 c.if-not-is_passable.false)
  | inr e ↦ c.loop-s.invariant r (omega (arith, lt, e.1))
]
