use denote.RattleType.{RattleType}
use denote.Exit.{no}
use denote.Param.{param}
use denote.Param.Send.{IsSend, sendable, param_send, arg_send}
use Rattle.std.proofs.Common.{◌+◌, ◌-◌, ◌/◌, arith}
use Rattle.lt_join.specs.Cost.{bound}
use Rattle.lt_join.specs.contracts.parts.Part as Part
use Rattle.lt_join.proofs.PartCosts.{halves_cost}
use Rattle.lt_join.proofs.parts.+halves.Goals as goal

-- a part may cross to another thread where what it found may
part_send : (F L : RattleType) → IsSend (param 4 F) → IsSend (param 1 L) → IsSend (Part.the_row (param 4 F) (param 1 L))
part_send F L f s = search sendable depth 20

pub join-one-requires-send-A : goal.join-one-requires-send-A
join-one-requires-send-A g t c κs within = param_send 3 _ (arg_send _ no (Part.the_row (param 4 g.row.F) (param 1 g.row.L)) (part_send g.row.F g.row.L (search sendable) (search sendable)))

pub returns-clause-cost : goal.returns-clause-cost
returns-clause-cost g t c =
    let middle = c.args.first + (c.args.end - c.args.first) / 2 in
    halves_cost c.args.first middle c.args.end (bound c.args.body.now c.args.plan.now (g.I.Indexes.state c.args.indexes.now)) c.join-one.result.0.moves c.join-one.result.1.moves c.united.result.moves (omega arith) (omega arith) c.united.ensures.moves c.join-one.ensures.first.2 c.join-one.ensures.second.2
