use Rattle.std.proofs.Common.{◌∙◌, sym}
use Rattle.lt_base.specs.Tables.{state_of}
use Rattle.lt_program.proofs.KeptSlices.{joins_by, picked_answerable}
use Rattle.lt_program.proofs.NothingAsked.{nothing_asked, nothing_needed, nothing_tight}
use Rattle.lt_program.proofs.joining.found_whole.Goals as goal

pub answers-requires-clause-can_join : goal.answers-requires-clause-can_join
answers-requires-clause-can_join g c = joins_by c.args.tables.now c.args.body.now c.args.plan.now c.requires.can_follow

pub answers-requires-clause-answerable : goal.answers-requires-clause-answerable
answers-requires-clause-answerable g c = picked_answerable c.args.body.now c.args.terms.now c.requires.terms

pub returns-then-asks_nothing-clause-rows : goal.returns-then-asks_nothing-clause-rows
returns-then-asks_nothing-clause-rows g c = c.in_ok-rows.ensures ∙ sym (nothing_asked c.args.terms.now c.args.body.now (state_of c.args.tables.now) (c.asks_nothing.ensures c.if-asks_nothing.true))

pub returns-then-asks_nothing-clause-certified : goal.returns-then-asks_nothing-clause-certified
returns-then-asks_nothing-clause-certified g c = nothing_needed c.new.result c.args.body.now (state_of c.args.tables.now) (c.asks_nothing.ensures c.if-asks_nothing.true)

pub returns-then-asks_nothing-clause-tight : goal.returns-then-asks_nothing-clause-tight
returns-then-asks_nothing-clause-tight g c = nothing_tight c.new.result (state_of c.args.tables.now) c.new.ensures
