use Rattle.lt_script.specs.Ahead.{source_of}
use Rattle.lt_script.proofs.Places.{stands_on, stands_at_end, stands_broken}
use Rattle.lt_script.proofs.cursor.Cursor.standing.Goals as goal

pub returns-in-Token : goal.returns-in-Token
returns-in-Token c = stands_on (source_of c.self.inside.start) c.self.inside.next c.self.inside.lexer c.args.self.now c.self.invariant.at c.self.view_is c.in-Token.token c.in-Token.is

pub returns-in-End : goal.returns-in-End
returns-in-End c = stands_at_end (source_of c.self.inside.start) c.self.inside.next c.self.inside.lexer c.args.self.now c.self.invariant.at c.self.view_is c.in-End.is

pub returns-in-Broken : goal.returns-in-Broken
returns-in-Broken c = stands_broken (source_of c.self.inside.start) c.self.inside.next c.self.inside.lexer c.args.self.now c.self.invariant.at c.self.view_is c.in-Broken.code c.in-Broken.is
