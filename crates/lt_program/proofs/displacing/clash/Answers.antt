use Rattle.std.proofs.Common.{sym, ◌∙◌, arith}
use Rattle.lt_program.proofs.Clashes.{clash_at, clash_not}
use Rattle.lt_program.proofs.displacing.clash.Goals as goal

pub returns-then-has_key : goal.returns-then-has_key
returns-then-has_key c =
    clash_at c.args.keys c.args.rows.now c.as_slice-all.result.now c.loop-i.i c.index-all-i-then-keys-width.result c.index-all-i-then-keys-width-2.result c.as_slice-all.ensures c.requires.ascend (omega (arith, c.loop-i.auto.i)) c.loop-i-test.true
    c.index-all-i-then-keys-width.is c.index-all-i-then-keys-width-2.is (sym c.has_key.ensures ∙ c.if-has_key.true)

pub returns : goal.returns
returns c = clash_not c.args.keys c.args.rows.now c.as_slice-all.result.now c.loop-i.i c.as_slice-all.ensures c.requires.ascend c.requires.wide (omega (arith, c.loop-i-test.false)) c.loop-i.invariant
