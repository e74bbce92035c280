use Rattle.lt_program.proofs.ReadingMarked.{tells_marked}
use Rattle.lt_program.proofs.reading.has_mark_on.Goals as goal

pub returns : goal.returns
returns c = tells_marked c.is_on.result c.args.marks.now c.args.relation c.is_on.ensures.on c.is_on.ensures.off
