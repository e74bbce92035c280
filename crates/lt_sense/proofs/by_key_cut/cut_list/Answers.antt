use Rattle.std.proofs.Common.{◌∙◌}
use Rattle.lt_sense.proofs.ByKeyCut.{cut_tells}
use Rattle.lt_sense.proofs.by_key_cut.cut_list.Goals as goal

pub returns-clause-left : goal.returns-clause-left
returns-clause-left c =
    cut_tells c.args.keys.now c.args.list.now c.new-left.result c.take_all_but.new.list c.requires.done c.new-left.ensures.none (c.new-left.ensures.columns ∙ c.in_ok-columns.ensures) c.in_ok-take_all_but.ensures.same c.in_ok-take_all_but.ensures.added
