use Rattle.std.proofs.Common.{◌+◌, ◌≤◌, length, sym, ap, ◌∙◌, subst, arith}
use Rattle.std.specs.Arc.{arc_value}
use Rattle.lt_base.specs.Tables.{state_of}
use Rattle.lt_program.specs.Split.{cost_of_first_by}
use Rattle.lt_program.proofs.TallyCosts.{cost_begun, cost_more, ends_here, one_longer}
use Rattle.lt_program.proofs.tally.run_kept_by.Goals as goal

pub statements-preserved : goal.statements-preserved
statements-preserved g c = record {
  program = c.in_ok-evaluate_by.ensures.one.program ∙ c.statements.invariant.program;
  base = c.in_ok-evaluate_by.ensures.one.base ∙ c.statements.invariant.base;
  moves = cost_more (g.J.Joiner.most c.args.by.now) c.args.moves.now c.statements.moves c.evaluate_by.new.moves (length c.statements.tally.parts) (length c.evaluate_by.new.self.parts) (arc_value c.args.prog.now) c.statements.tally.program (state_of c.args.base.now) (state_of c.statements.tally.base)
      c.statements.invariant.program (ap state_of c.statements.invariant.base) c.statements.invariant.moves c.evaluate_by.ensures.moves (one_longer c.statements.tally c.evaluate_by.new.self c.in_ok-evaluate_by.ensures.one);
  rises = omega (arith, c.statements.invariant.rises, c.evaluate_by.ensures.rises);
}

pub returns-clause-evaluated : goal.returns-clause-evaluated
returns-clause-evaluated g c =
    ends_here c.statements.tally c.statements-test.ensures.run (sym c.statements-test.ensures.value) (arc_value c.args.prog.now) c.args.base.now c.statements.invariant.program c.statements.invariant.base

pub returns-clause-moves : goal.returns-clause-moves
returns-clause-moves g c =
    subst (λ n. c.statements.moves ≤ c.args.moves.now + cost_of_first_by (g.J.Joiner.most c.args.by.now) n (arc_value c.args.prog.now) (state_of c.args.base.now))
    (ends_here c.statements.tally c.statements-test.ensures.run (sym c.statements-test.ensures.value) (arc_value c.args.prog.now) c.args.base.now c.statements.invariant.program c.statements.invariant.base) c.statements.invariant.moves

pub returns-in_err-evaluate_by-clause-moves : goal.returns-in_err-evaluate_by-clause-moves
returns-in_err-evaluate_by-clause-moves g c =
    cost_begun (g.J.Joiner.most c.args.by.now) c.statements.tally c.args.moves.now c.statements.moves c.evaluate_by.new.moves (arc_value c.args.prog.now) c.args.base.now c.statements-test.ensures.run (sym c.statements-test.ensures.value) c.statements.invariant.program c.statements.invariant.base c.statements.invariant.moves c.evaluate_by.ensures.moves
