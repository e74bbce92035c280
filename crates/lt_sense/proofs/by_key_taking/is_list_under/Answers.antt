use Rattle.lt_sense.proofs.ByKeyTaken.{list_begins}
use Rattle.lt_sense.proofs.by_key_taking.is_list_under.Goals as goal

pub returns : goal.returns
returns c under =
    list_begins c.args.key c.args.list.now c.cells.result.now c.cells.ensures.cells (c.are_stills_under.ensures c.if-not-are_stills_under.false) (c.are_above_under.ensures c.if-not-are_above_under.false) (c.is_under.ensures under)
