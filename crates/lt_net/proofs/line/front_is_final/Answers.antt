use Rattle.lt_net.proofs.Lines.{front_serial, front_past, front_same}
use Rattle.lt_net.proofs.line.front_is_final.Goals as goal

pub returns-clause-serial : goal.returns-clause-serial
returns-clause-serial c = λ effect sizes events f s small give h inside past. front_serial effect sizes small events s h give f inside past

pub returns-clause-past : goal.returns-clause-past
returns-clause-past c = λ effect sizes events later f s t small h inside past g. front_past effect sizes small events s h later f t past g

pub returns-clause-same : goal.returns-clause-same
returns-clause-same c = λ effect sizes events later f s t small h inside past g. front_same effect sizes small events s h later f t past g
