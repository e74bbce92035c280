use Rattle.lt_circuit.proofs.RowOpening.{opening_free, opening_row, opening_sizes}
use Rattle.lt_circuit.proofs.row.Row.opening.Goals as goal

pub returns-clause-sizes : goal.returns-clause-sizes
returns-clause-sizes c = opening_sizes c.in_ok-segments.segments.items c.args.leaves.now c.in_ok-segments.ensures

pub returns-clause-free : goal.returns-clause-free
returns-clause-free c = opening_free c.in_ok-segments.segments.items c.args.leaves.now c.in_ok-segments.ensures

pub returns-clause-state : goal.returns-clause-state
returns-clause-state c = opening_row c.in_ok-segments.segments.items c.args.leaves.now c.in_ok-segments.ensures c.requires.few
