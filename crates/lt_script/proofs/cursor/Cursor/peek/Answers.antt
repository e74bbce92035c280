use Rattle.lt_script.specs.Ahead.{source_of}
use Rattle.lt_script.proofs.Places.{sees_token, sees_none}
use Rattle.lt_script.proofs.cursor.Cursor.peek.Goals as goal

pub returns-in-Token : goal.returns-in-Token
returns-in-Token c = sees_token (source_of c.self.inside.start) c.self.inside.next c.self.inside.lexer c.args.self.now c.self.invariant.at c.self.view_is c.in-Token.token c.in-Token.is

pub returns-in_default : goal.returns-in_default
returns-in_default c = sees_none (source_of c.self.inside.start) c.self.inside.next c.self.inside.lexer c.args.self.now c.self.invariant.at c.self.view_is c.in_default.not-Token
