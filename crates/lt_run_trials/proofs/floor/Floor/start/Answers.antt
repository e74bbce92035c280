use Rattle.lt_run_trials.proofs.floor.Floor.start.Goals as goal

pub invariant_of-result : goal.invariant_of-result
invariant_of-result g c = record {
  of_first = c.in_ok-circuit.ensures.free 0;
  of_second = c.in_ok-circuit.ensures.free 1;
  others = λ v above. c.in_ok-circuit.ensures.free v;
}
