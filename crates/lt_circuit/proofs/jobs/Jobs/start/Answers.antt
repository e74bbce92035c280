use Rattle.std.proofs.Common.{◌≡◌, ◌∙◌, length, ap, sym, subst, arith}
use Rattle.lt_circuit.specs.Board.{first_state}
use Rattle.lt_circuit.specs.Jobs.{ArePlaced}
use Rattle.lt_circuit.proofs.Opening.{length-table}
use Rattle.lt_circuit.proofs.jobs.Jobs.start.Goals as goal

pub invariant_of-result : goal.invariant_of-result
invariant_of-result c =
    let long : length c.in_ok-states.states.items ≡ c.codes_over-jobs.result = ap length c.in_ok-states.ensures ∙ length-table (first_state c.args.leaves) c.codes_over-jobs.result in
    record {
      few = omega (arith, long, c.codes_over-jobs.ensures, c.requires);
      places_long = c.in_ok-places.ensures.long ∙ sym long;
      placed = subst (ArePlaced c.place_codes.new.order.items c.in_ok-places.places.items) (sym long) c.in_ok-places.ensures.placed;
      within = omega arith;
      above = λ code e. omega arith;
    }
