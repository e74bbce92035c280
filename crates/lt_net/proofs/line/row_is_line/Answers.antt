use Rattle.lt_net.proofs.Rows.{row_opening, row_claimed, row_abandoned, row_finished, row_passed}
use Rattle.std.proofs.Common.{arith}
use Rattle.lt_net.proofs.line.row_is_line.Goals as goal

pub returns-clause-opening : goal.returns-clause-opening
returns-clause-opening c = λ effect sizes count small. row_opening effect sizes small count

pub returns-clause-claimed : goal.returns-clause-claimed
returns-clause-claimed c = λ effect sizes count parts s w place small lt h free. row_claimed effect sizes small count parts s lt w place h free

pub returns-clause-abandoned : goal.returns-clause-abandoned
returns-clause-abandoned c = λ effect sizes count parts s w claim small lt h alone. row_abandoned effect sizes small count parts s lt w claim h alone

pub returns-clause-finished : goal.returns-clause-finished
returns-clause-finished c = λ effect sizes count parts s w claim small lt h alone. row_finished effect sizes small count parts s lt w claim h alone

pub returns-clause-passed : goal.returns-clause-passed
returns-clause-passed c = λ effect sizes count parts s w claim small next on passing alone. row_passed effect sizes small count parts s (omega (arith, next)) w next on claim passing alone
