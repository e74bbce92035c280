use Rattle.std.proofs.Common.{arith}
use Rattle.lt_grammar.specs.Grammar.{past}
use Rattle.lt_script.proofs.Excess.{past_digits, past_most}
use Rattle.lt_script.proofs.range.read_number.Goals as goal

pub returns-then-value-ge-PAST_TENTH : goal.returns-then-value-ge-PAST_TENTH
returns-then-value-ge-PAST_TENTH c =
    past_digits (past c.args.minus) c.digits.value c.digits.digit-index c.args.digits.now c.digits-test.true (omega (arith, past_most c.args.minus, c.if-value-ge-PAST_TENTH.true)) c.digits.invariant
