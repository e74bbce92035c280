use Rattle.std.proofs.Common.{◌∙◌, ap, sym}
use Rattle.lt_circuit.specs.Segment.{after_change}
use Rattle.lt_circuit.specs.Board.{state_of}
use Rattle.lt_circuit.proofs.Segments.{stored_by}
use Rattle.lt_circuit.proofs.segment.Segment.pass_stored.Goals as goal

pub returns : goal.returns
returns c =
    let g = c.self.inside in
    rw (← c.self.view_is) (c.after_change.ensures ∙ ap (λ b. after_change g.pass b c.is_change-changed.result) c.is_read-here.ensures ∙ stored_by (state_of g.board) g.pass c.args.effect.now g.on c.args.node c.is_change-changed.result
    (λ e h. c.is_change-changed.ensures.changed e (c.effect.ensures ∙ h))
    (λ e. sym c.effect.ensures ∙ c.is_change-changed.ensures.same e))
