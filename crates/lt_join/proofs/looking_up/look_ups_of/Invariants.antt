use Rattle.std.proofs.Common.{take}
use Rattle.std.specs.List.{AllZip}
use Rattle.lt_join.specs.Holders.{IsLookUpOf}
use Rattle.lt_join.proofs.looking_up.look_ups_of.Given as goal

abbrev pub invariant-loop-atom : goal.invariant-loop-atom
invariant-loop-atom g l = AllZip (IsLookUpOf (g.I.Indexes.state l.tables)) (take l.atom-index l.body.absents) l.look_ups.items
