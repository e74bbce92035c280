use Rattle.std.proofs.Common.{◌≡◌, true, false, inl, inr, get_or, sym, ap, ◌∙◌, arith}
use Rattle.std.proofs.lemmas.Bool.Decides.{eqb_tells}
use Rattle.lt_net.specs.declared.job.JobState.TheVariants.{Clean}
use Rattle.lt_circuit.proofs.jobs.next_place.Goals as goal

pub loop-place-preserved : goal.loop-place-preserved
loop-place-preserved c = λ p from lt pending. elim (eqb_tells p c.loop-place.place) [
  | inl e ↦ absurd (let f : false ≡ true = sym c.if-is_pending_at.false ∙ c.is_pending_at.ensures.1 (ap (λ k. get_or c.args.states.now (get_or c.args.order.now k 0) Clean) (sym e.1) ∙ pending) in cc)
  | inr e ↦ c.loop-place.invariant p from (omega (arith, lt, e.1)) pending
]

pub returns-then-is_pending_at-clause-here : goal.returns-then-is_pending_at-clause-here
returns-then-is_pending_at-clause-here c = λ lt. c.is_pending_at.ensures.0 c.if-is_pending_at.true
