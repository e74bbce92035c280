use Rattle.std.proofs.Common.{◌+◌, ◌<◌, ◌^◌, length}
use Rattle.lt_model.specs.Tokens.{tokens_at}
use Rattle.lt_script.specs.Placed.{before_of}
use Rattle.lt_script.proofs.Placing.{IsAt}
use Rattle.lt_script.proofs.slots.slots_of.Given as goal

abbrev pub invariant-tokens : goal.invariant-tokens
invariant-tokens l = record {
  at : IsAt l.fn.text l.slots.items l.from (before_of l.before) l.lexer.rest.now;
  fits : l.lexer.line + length l.lexer.rest.now < 2 ^ 64;
}

abbrev pub decreases-tokens : goal.decreases-tokens
decreases-tokens l = length (tokens_at l.lexer.line l.lexer.rest.now).0
