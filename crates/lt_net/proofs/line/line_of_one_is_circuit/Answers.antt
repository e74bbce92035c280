use Rattle.std.proofs.Common.{[], ◌∷◌}
use Rattle.lt_net.specs.Line.{line_net}
use Rattle.lt_net.specs.Tree.{circuit_net, tree_of}
use Rattle.lt_net.proofs.Alike.{opening_alike, replay_alike}
use Rattle.lt_net.proofs.OneSegment.{below_of, one_alike, serial_of}
use Rattle.lt_net.proofs.line.line_of_one_is_circuit.Goals as goal

pub returns-clause-jobs : goal.returns-clause-jobs
returns-clause-jobs c = λ effect n few. one_alike effect n few

pub returns-clause-opening : goal.returns-clause-opening
returns-clause-opening c = λ effect n few. opening_alike (line_net effect (n ∷ [])) (circuit_net effect (tree_of n)) (one_alike effect n few)

pub returns-clause-replay : goal.returns-clause-replay
returns-clause-replay c = λ effect n events s few. replay_alike (line_net effect (n ∷ [])) (circuit_net effect (tree_of n)) (one_alike effect n few) events s

pub returns-clause-serial : goal.returns-clause-serial
returns-clause-serial c = λ effect n s h. serial_of effect n s h

pub returns-clause-below : goal.returns-clause-below
returns-clause-below c = λ effect n s h. below_of effect n s h
