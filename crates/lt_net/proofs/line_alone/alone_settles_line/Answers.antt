use Rattle.std.proofs.Common.{length}
use Rattle.lt_net.proofs.LineSettles.{line_few, line_legal, line_settled, reached_line}
use Rattle.lt_net.proofs.line_alone.alone_settles_line.Goals as goal

pub returns-clause-legal : goal.returns-clause-legal
returns-clause-legal c = λ effect sizes events s small h free. line_legal effect sizes small s (reached_line effect sizes small events s h free)

pub returns-clause-settled : goal.returns-clause-settled
returns-clause-settled c = λ effect sizes events s small h free. line_settled effect sizes small s (reached_line effect sizes small events s h free)

pub returns-clause-few : goal.returns-clause-few
returns-clause-few c = λ effect sizes events s small h free. line_few effect sizes small s (reached_line effect sizes small events s h free) (length sizes)
