use Rattle.lt_program.proofs.LaterMarks.{laid_followed}
use Rattle.lt_program.proofs.course.followed.Goals as goal

pub returns-in-Ok : goal.returns-in-Ok
returns-in-Ok c = λ base before is. laid_followed base before c.args.laid is c.in-Ok.all c.args.marks.now c.in-Ok.ensures
