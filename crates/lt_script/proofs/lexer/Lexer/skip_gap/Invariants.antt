use Rattle.std.proofs.Common.{◌≡◌, ◌+◌, ◌<◌, ◌≤◌, ◌^◌, length}
use Rattle.lt_model.specs.Tokens.{tokens_at}
use Rattle.lt_script.specs.Pieces.{Skipped}
use Rattle.lt_script.proofs.lexer.Lexer.skip_gap.Given as goal

abbrev pub invariant-bytes : goal.invariant-bytes
invariant-bytes l = record {
  same : tokens_at l.self.line l.self.rest.now ≡ tokens_at l.fn.self.line l.fn.self.rest.now;
  skipped : Skipped l.fn.self.line l.fn.self.rest.now l.self.line l.self.rest.now;
  down : l.fn.self.line ≤ l.self.line;
  fits : l.self.line + length l.self.rest.now < 2 ^ 64;
}

abbrev pub decreases-bytes : goal.decreases-bytes
decreases-bytes l = length l.self.rest.now
