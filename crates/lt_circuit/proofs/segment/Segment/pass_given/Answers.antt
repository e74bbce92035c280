use Rattle.std.proofs.Common.{◌∙◌, sym}
use Rattle.lt_circuit.specs.Board.{state_of}
use Rattle.lt_circuit.proofs.Segments.{given_by}
use Rattle.lt_circuit.proofs.segment.Segment.pass_given.Goals as goal

pub returns : goal.returns
returns c =
    let g = c.self.inside in
    rw (← c.self.view_is) (c.after_change.ensures ∙ given_by (state_of g.board) g.pass c.args.correction.now g.on c.is_change-changed.result
    (λ e h. c.is_change-changed.ensures.changed e (c.correction.ensures ∙ h))
    (λ e. sym c.correction.ensures ∙ c.is_change-changed.ensures.same e))
