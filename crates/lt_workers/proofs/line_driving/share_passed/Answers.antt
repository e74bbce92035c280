use Rattle.std.proofs.Common.{◌≡◌, ◌+◌, ◌≤◌, arith, length, ◌∙◌}
use Rattle.std.proofs.lemmas.List.{length-map}
use Rattle.lt_circuit.specs.Line.{line_state}
use Rattle.lt_circuit.specs.Row.{sizes}
use Rattle.lt_workers.proofs.Finals.{past_below}
use Rattle.lt_workers.proofs.line_driving.share_passed.Goals as goal

pub returns-then-front-segment-clause-ahead : goal.returns-then-front-segment-clause-ahead
returns-then-front-segment-clause-ahead g c = λ less past.
    let le : c.args.segment + 1 ≤ c.front-front.result = c.front-front.ensures.greatest (c.args.segment + 1) (omega (arith, less)) past in
    omega (arith, le, c.if-front-segment.true)

pub root_effect-requires : goal.root_effect-requires
root_effect-requires g c =
    let same : length (sizes c.args.line.now.row) ≡ length c.args.line.now.row = length-map c.args.line.now.row _ in
    omega (arith, same, c.front-front.ensures.within, c.if-front-segment.false)

pub returns-clause-passed : goal.returns-clause-passed
returns-clause-passed g c =
    let below : c.args.segment + 1 ≤ c.front-front.result = omega (arith, c.if-front-segment.false) in
    record {
      within = omega (arith, below, c.front-front.ensures.within);
      past = past_below (line_state c.args.line.now) (c.args.segment + 1) c.front-front.result below c.front-front.ensures.past;
      value = c.in_ok-effect.ensures ∙ c.root_effect.ensures.value;
    }
