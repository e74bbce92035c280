use Rattle.lt_script.specs.Ahead.{source_of}
use Rattle.lt_script.proofs.Behind.{stood_next}
use Rattle.lt_script.proofs.Places.{goes_on, stays}
use Rattle.lt_script.proofs.cursor.Cursor.advance.Goals as goal

pub invariant_of-self : goal.invariant_of-self
invariant_of-self c = stood_next (source_of c.self.inside.start) c.self.inside.since c.self.inside.next c.self.inside.lexer c.args.self.now c.self.invariant c.self.view_is c.in-Token.field-0 c.in-Token.is c.next-self-inside.result c.next-self-inside.new.self c.next-self-inside.ensures.fits c.next-self-inside.ensures.next c.next-self-inside.ensures.opened

pub returns-in-Token-clause-place : goal.returns-in-Token-clause-place
returns-in-Token-clause-place c = goes_on (source_of c.self.inside.start) c.self.inside.next c.self.inside.lexer c.args.self.now c.self.invariant.at c.self.view_is c.in-Token.field-0 c.in-Token.is c.next-self-inside.result c.next-self-inside.new.self c.next-self-inside.ensures.next

pub returns-in_default-clause-place : goal.returns-in_default-clause-place
returns-in_default-clause-place c = stays (source_of c.self.inside.start) c.self.inside.next c.self.inside.lexer c.args.self.now c.self.invariant.at c.self.view_is c.in_default.not-Token
