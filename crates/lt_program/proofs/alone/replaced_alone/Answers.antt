use Rattle.lt_base.specs.Tables.{state_of}
use Rattle.lt_program.proofs.Parts.{head_wide}
use Rattle.lt_program.proofs.Picked.{answers_rise}
use Rattle.lt_program.proofs.alone.replaced_alone.Goals as goal

pub keyed_alone-requires-clause-ascend : goal.keyed_alone-requires-clause-ascend
keyed_alone-requires-clause-ascend g c = answers_rise c.args.come.now.terms c.args.body.now (state_of c.args.tables.now) c.in_ok-both.both.1 c.in_ok-both.ensures.come

pub keyed_alone-requires-clause-rows : goal.keyed_alone-requires-clause-rows
keyed_alone-requires-clause-rows g c = head_wide (state_of c.args.tables.now) c.args.come.now c.args.body.now c.in_ok-both.both.1 c.look_over.ensures.state c.requires.can_follow.fits c.requires.come c.in_ok-both.ensures.come
