use Rattle.lt_check.proofs.Heads.{Takes_insert, Takes_delete, Takes_replace, Takes_print, front_replace}
use Rattle.lt_check.proofs.taken.take_front.Goals as goal

pub returns-in_ok-head-in-Insert-clause-takes : goal.returns-in_ok-head-in-Insert-clause-takes
returns-in_ok-head-in-Insert-clause-takes c = Takes_insert c.args.schema.now c.args.statement.now c.in-Insert.head c.in-Insert.body c.args.notes.now c.atom.new.notes c.in-Insert.is c.in_ok-head-in-Insert.ensures.takes

pub returns-in_ok-head-in-Delete-clause-takes : goal.returns-in_ok-head-in-Delete-clause-takes
returns-in_ok-head-in-Delete-clause-takes c = Takes_delete c.args.schema.now c.args.statement.now c.in-Delete.head c.in-Delete.body c.args.notes.now c.atom-in-Delete.new.notes c.in-Delete.is c.in_ok-head-in-Delete.ensures.takes

pub returns-in_ok-come-in-Replace-clause-takes : goal.returns-in_ok-come-in-Replace-clause-takes
returns-in_ok-come-in-Replace-clause-takes c = Takes_replace c.args.schema.now c.args.statement.now c.in-Replace.gone c.in-Replace.come c.in-Replace.body c.args.notes.now c.atom-in-Replace.new.notes c.atom-in-Replace-2.new.notes c.in-Replace.is c.in_ok-gone-in-Replace.ensures.takes c.in_ok-come-in-Replace.ensures.takes

pub returns-in_ok-come-in-Replace-clause-front : goal.returns-in_ok-come-in-Replace-clause-front
returns-in_ok-come-in-Replace-clause-front c = front_replace c.args.schema.now c.args.statement.now c.in-Replace.gone c.in-Replace.come c.in-Replace.body c.in_ok-gone-in-Replace.gone c.in_ok-come-in-Replace.come c.keys-keys-in-Replace.result c.atom-in-Replace.new.notes c.atom-in-Replace-2.new.notes c.in-Replace.is c.in_ok-gone-in-Replace.ensures.atom c.in_ok-come-in-Replace.ensures.takes c.in_ok-come-in-Replace.ensures.atom c.keys-keys-in-Replace.ensures

pub returns-in_ok-terms-in-Print-clause-takes : goal.returns-in_ok-terms-in-Print-clause-takes
returns-in_ok-terms-in-Print-clause-takes c = Takes_print c.args.schema.now c.args.statement.now c.in-Print.terms c.as_slice.result.now c.in-Print.body c.args.notes.now c.terms.new.self c.in-Print.is c.as_slice.ensures c.in_ok-terms-in-Print.ensures.takes
