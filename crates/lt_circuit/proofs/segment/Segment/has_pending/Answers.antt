use Rattle.std.proofs.Common.{◌≡◌, ◌∙◌, inl, inr, ap, sym, arith}
use Rattle.std.specs.Prelude.{if◌then◌else◌}
use Rattle.lt_net.proofs.Shape.{eq_false, lt_tells}
use Rattle.lt_net.specs.declared.job.JobState.TheVariants.{Clean, Pending}
use Rattle.lt_circuit.specs.Board.{state_of}
use Rattle.lt_circuit.proofs.segment.Segment.has_pending.Goals as goal

pub returns-in-None-clause-some : goal.returns-in-None-clause-some
returns-in-None-clause-some c = rw (← c.self.view_is) (λ t.
    let g = c.self.inside in
    let p = c.has_pending.ensures.some t in
    elim (lt_tells p.0 2047) [
      | inl h ↦ (p.0, omega (arith, h.1), ap (λ b. if b then g.pass else (state_of g.board).status p.0) (eq_false p.0 2047 (λ e. omega (arith, e, h.1))) ∙ p.1)
      | inr h ↦ absurd (let f : Clean ≡ Pending = sym (c.has_pending.ensures.high p.0 h.1) ∙ p.1 in cc)
    ])
