use Rattle.std.proofs.Common.{◌∙◌}
use Rattle.lt_circuit.specs.Segment.{passing}
use Rattle.lt_circuit.proofs.Segments.{passing_opening}
use Rattle.lt_circuit.proofs.segment.Segment.opening.Goals as goal

pub returns-clause-state : goal.returns-clause-state
returns-clause-state c = λ effect.
    (λ i. passing (c.in_ok-board.ensures.state effect i) (c.first_pass-pass.ensures i)) ∙ passing_opening effect c.args.leaves c.args.on
