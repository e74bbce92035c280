use Rattle.std.proofs.Common.{◌∙◌, sym}
use Rattle.lt_base.specs.Tables.{state_of}
use Rattle.lt_program.proofs.KeptSlices.{joins_by, picked_answerable}
use Rattle.lt_program.proofs.NothingAsked.{nothing_asked}
use Rattle.lt_program.proofs.joining.answered_alone.Goals as goal

pub answers_alone-requires-clause-can_join : goal.answers_alone-requires-clause-can_join
answers_alone-requires-clause-can_join g c = joins_by c.args.tables.now c.args.body.now c.args.plan.now c.requires.can_follow

pub answers_alone-requires-clause-answerable : goal.answers_alone-requires-clause-answerable
answers_alone-requires-clause-answerable g c = picked_answerable c.args.body.now c.args.terms.now c.requires.terms

pub returns-then-asks_nothing-clause-rows : goal.returns-then-asks_nothing-clause-rows
returns-then-asks_nothing-clause-rows g c = c.in_ok-rows.ensures ∙ sym (nothing_asked c.args.terms.now c.args.body.now (state_of c.args.tables.now) (c.asks_nothing.ensures c.if-asks_nothing.true))
