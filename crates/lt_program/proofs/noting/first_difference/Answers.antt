use Rattle.std.proofs.Common.{◌∙◌, sym, arith}
use Rattle.lt_program.proofs.Noted.{rises_here, rises_nowhere}
use Rattle.lt_program.proofs.noting.first_difference.Goals as goal

pub returns-then-cell-clause-rise : goal.returns-then-cell-clause-rise
returns-then-cell-clause-rise c =
    rises_here c.loop-column.column c.args.low.now c.args.high.now c.requires.wide (omega (arith, c.loop-column-test.true, c.width-width.ensures.value)) c.loop-column.invariant c.requires.rise
    (λ same. c.if-cell.true (c.cell.ensures ∙ (same ∙ sym c.cell-in-loop-column.ensures)))

pub returns-clause-within : goal.returns-clause-within
returns-clause-within c =
    absurd (rises_nowhere c.loop-column.column c.args.low.now c.args.high.now c.requires.wide (omega (arith, c.loop-column-test.false, c.width-width.ensures.value)) c.loop-column.invariant c.requires.rise)

pub returns-clause-rise : goal.returns-clause-rise
returns-clause-rise c =
    absurd (rises_nowhere c.loop-column.column c.args.low.now c.args.high.now c.requires.wide (omega (arith, c.loop-column-test.false, c.width-width.ensures.value)) c.loop-column.invariant c.requires.rise)
