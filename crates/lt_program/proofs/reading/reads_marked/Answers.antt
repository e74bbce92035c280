use Rattle.std.proofs.lemmas.Grind.{common_steps}
use Rattle.std.proofs.Common.{arith, ◌≡◌, ◌∙◌, false, sym, ap}
use Rattle.std.proofs.lemmas.List.{take_all}
use Rattle.std.specs.List.{list_any}
use Rattle.lt_program.specs.Run.{reads_marked_in}
use Rattle.lt_program.proofs.ReadingMarked.{run-unmarked}
use Rattle.lt_program.proofs.reading.reads_marked.Goals as goal

pub returns-clause-same : goal.returns-clause-same
returns-clause-same c = λ is_false s.
    let none : list_any (reads_marked_in c.args.marks.now) c.args.prog.now ≡ false =
    ap (list_any (reads_marked_in c.args.marks.now)) (sym (take_all c.loop-stmt.stmt-index c.args.prog.now c.loop-stmt-test.false)) ∙ c.loop-stmt.invariant in
    run-unmarked s c.args.marks.now c.args.prog.now none

pub loop-stmt-preserved : goal.loop-stmt-preserved
loop-stmt-preserved c = grind (arith, common_steps)
