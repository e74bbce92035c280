use Rattle.std.proofs.lemmas.Grind.{common_steps}
use Rattle.std.proofs.Common.{arith, ◌≡◌, ◌∙◌, false, sym, ap}
use Rattle.std.proofs.lemmas.List.{take_all}
use Rattle.std.specs.List.{list_any}
use Rattle.lt_program.specs.Run.{reads_rows}
use Rattle.lt_program.proofs.ReadingNone.{run-none}
use Rattle.lt_program.proofs.reading.reads.Goals as goal

pub returns-clause-same : goal.returns-clause-same
returns-clause-same c = λ is_false s t.
    let none : list_any reads_rows c.args.prog.now ≡ false =
    ap (list_any reads_rows) (sym (take_all c.loop-stmt.stmt-index c.args.prog.now c.loop-stmt-test.false)) ∙ c.loop-stmt.invariant in
    run-none c.args.prog.now s t none

pub loop-stmt-preserved : goal.loop-stmt-preserved
loop-stmt-preserved c = grind (arith, common_steps)
