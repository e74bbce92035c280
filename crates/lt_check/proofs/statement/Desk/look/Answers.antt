use Rattle.lt_check.proofs.Formed.{looked_well, kinds_well}
use Rattle.lt_check.proofs.statement.Desk.look.Goals as goal

pub returns-then-is_clear-clause-formed : goal.returns-then-is_clear-clause-formed
returns-then-is_clear-clause-formed c = looked_well c.args.schema.now c.args.statement.now c.args.self.now.notes c.requires.within c.requires.taken (c.is_clear.ensures.calm c.if-is_clear.true) (c.is_clear.ensures.shut c.if-is_clear.true)

pub returns-then-is_clear-clause-kinds : goal.returns-then-is_clear-clause-kinds
returns-then-is_clear-clause-kinds c = kinds_well c.args.schema.now c.args.statement.now c.args.self.now.notes c.requires.names c.requires.taken (c.is_clear.ensures.calm c.if-is_clear.true) (c.is_clear.ensures.shut c.if-is_clear.true)
