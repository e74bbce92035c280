use Rattle.lt_script.proofs.Behind.{stood_first}
use Rattle.lt_script.proofs.cursor.Cursor.over.Goals as goal

pub invariant_of-result : goal.invariant_of-result
invariant_of-result c = stood_first c.args.start c.next-next.result c.next-next.new.self c.next-next.ensures.next c.requires c.next-next.ensures.fits c.next-next.ensures.opened
