use Rattle.std.proofs.Common.{sym}
use Rattle.lt_script.proofs.Tails.{may_change}
use Rattle.lt_script.proofs.cursor.Cursor.may_change.Goals as goal

pub returns : goal.returns
returns c = may_change c.args.self.now c.rest-lexer.result.line c.skip_gap.new.self.line c.rest-lexer.result.rest.now c.skip_gap.new.self.rest.now c.goes_on.result (sym c.goes_on.ensures) c.rest-lexer.ensures.place c.skip_gap.ensures.skipped c.skip_gap.ensures.gapless
