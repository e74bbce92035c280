use Rattle.std.proofs.Common.{rules, arith, ap}
use Rattle.lt_circuit.specs.Job.{task_name}
use Rattle.lt_circuit.proofs.task.give_back.Goals as goal

pub index_mut-requires : goal.index_mut-requires
index_mut-requires g c = omega (arith, c.requires c.in-Leaf.leaf (ap task_name c.in-Leaf.is))

pub returns-in-Leaf : goal.returns-in-Leaf
returns-in-Leaf g c = search rules
