use Rattle.std.proofs.Common.{◌≡◌, ◌+◌, ◌≤◌, suc, true, false, length, refl, sym, ap, ◌∙◌, subst, arith}
use Rattle.std.specs.Prelude.{◌||◌, ◌==◌, slice_get}
use Rattle.lt_base.specs.Tables.{state_of}
use Rattle.lt_model.specs.Marks.{laid}
use Rattle.lt_program.specs.Alone.{kept_if}
use Rattle.lt_program.specs.Split.{cost_of_first_by}
use Rattle.lt_program.specs.Tally.{is_refused}
use Rattle.lt_program.proofs.Firsts.{first_none, way_fits, way_replied, first_whole, first_ends, first_goes, first_more_left, first_begun, step_cost}
use Rattle.lt_program.proofs.SplitCosts.{cost_more}
use Rattle.lt_program.proofs.going.run_by.Goals as goal

pub steps-init : goal.steps-init
steps-init g c = record {
  way = record {
    fits = c.requires.fits;
    indexes = c.requires.indexes;
    is_state = c.look_over.ensures.state;
    wide = c.look_over.ensures.wide;
    last = λ j stmt there refuses. c.last_refusing-refusing.ensures j stmt (ap (λ xs. slice_get xs j) c.statements-stmts.ensures ∙ there) refuses;
    first = first_none c.args.prog.now c.args.db.now c.args.keeps c.last_refusing-refusing.result c.in_ok-going.going c.in_ok-going.ensures.reply c.in_ok-going.ensures.marks c.in_ok-going.ensures.undo;
  };
  moves = omega arith;
  rises = omega arith;
}

pub go_on-requires-clause-more : goal.go_on-requires-clause-more
go_on-requires-clause-more g c =
    let counted : length c.statements-stmts.result.now ≡ length c.args.prog.now = ap length c.statements-stmts.ensures in
    let on : (is_refused c.steps.going.reply || c.steps.number == length c.args.prog.now) ≡ false = ap (λ n. is_refused c.steps.going.reply || c.steps.number == n) (sym counted) ∙ sym c.steps-test.ensures in
    first_more_left c.args.prog.now c.args.db.now c.args.keeps c.last_refusing-refusing.result c.steps.number c.steps.going c.steps.db c.steps.invariant.way on

pub go_on-requires-clause-going : goal.go_on-requires-clause-going
go_on-requires-clause-going g c =
    let counted : length c.statements-stmts.result.now ≡ length c.args.prog.now = ap length c.statements-stmts.ensures in
    let on : (is_refused c.steps.going.reply || c.steps.number == length c.args.prog.now) ≡ false = ap (λ n. is_refused c.steps.going.reply || c.steps.number == n) (sym counted) ∙ sym c.steps-test.ensures in
    first_goes c.args.prog.now c.args.db.now c.args.keeps c.last_refusing-refusing.result c.steps.number c.steps.going c.steps.db c.steps.invariant.way on

pub go_on-requires-clause-under_way : goal.go_on-requires-clause-under_way
go_on-requires-clause-under_way g c = (c.args.db.now, c.last_refusing-refusing.result, c.steps.invariant.way)

pub steps-preserved : goal.steps-preserved
steps-preserved g c =
    let one : c.steps.number + 1 ≡ suc c.steps.number = omega arith in
    let taken = step_cost c.args.prog.now c.args.db.now c.args.keeps c.last_refusing-refusing.result c.steps.number c.steps.going c.steps.db c.steps.invariant.way (g.J.Joiner.most c.args.by.now) c.steps.moves c.go_on.new.moves c.go_on.ensures.cost in
    record {
      way = c.in_ok-go_on.ensures.under_way c.args.db.now c.last_refusing-refusing.result refl c.steps.invariant.way;
      moves = subst (λ n. c.go_on.new.moves ≤ c.args.moves.now + cost_of_first_by (g.J.Joiner.most c.args.by.now) n c.args.prog.now (state_of c.args.db.now)) (sym one)
          (cost_more (g.J.Joiner.most c.args.by.now) c.args.prog.now (state_of c.args.db.now) c.args.moves.now c.steps.moves c.go_on.new.moves c.steps.number c.steps.invariant.moves taken);
      rises = omega (arith, c.steps.invariant.rises, c.go_on.ensures.rises);
    }

pub returns-clause-reply : goal.returns-clause-reply
returns-clause-reply g c =
    let counted : length c.statements-stmts.result.now ≡ length c.args.prog.now = ap length c.statements-stmts.ensures in
    let over : (is_refused c.steps.going.reply || c.steps.number == length c.args.prog.now) ≡ true = ap (λ n. is_refused c.steps.going.reply || c.steps.number == n) (sym counted) ∙ sym c.steps-test.ensures in
    c.steps.invariant.way.first.reply ∙ ap (λ out. out.0) (first_whole c.args.prog.now c.args.db.now c.args.keeps c.last_refusing-refusing.result c.steps.number c.steps.going c.steps.db c.steps.invariant.way over)

pub returns-clause-marks : goal.returns-clause-marks
returns-clause-marks g c =
    let counted : length c.statements-stmts.result.now ≡ length c.args.prog.now = ap length c.statements-stmts.ensures in
    let over : (is_refused c.steps.going.reply || c.steps.number == length c.args.prog.now) ≡ true = ap (λ n. is_refused c.steps.going.reply || c.steps.number == n) (sym counted) ∙ sym c.steps-test.ensures in
    c.steps.invariant.way.first.marks ∙ ap (λ out. kept_if c.args.keeps out.1) (first_whole c.args.prog.now c.args.db.now c.args.keeps c.last_refusing-refusing.result c.steps.number c.steps.going c.steps.db c.steps.invariant.way over)

pub returns-clause-state : goal.returns-clause-state
returns-clause-state g c =
    let counted : length c.statements-stmts.result.now ≡ length c.args.prog.now = ap length c.statements-stmts.ensures in
    let over : (is_refused c.steps.going.reply || c.steps.number == length c.args.prog.now) ≡ true = ap (λ n. is_refused c.steps.going.reply || c.steps.number == n) (sym counted) ∙ sym c.steps-test.ensures in
    c.steps.invariant.way.first.state ∙ ap (λ out. laid (state_of c.args.db.now) out.1) (first_whole c.args.prog.now c.args.db.now c.args.keeps c.last_refusing-refusing.result c.steps.number c.steps.going c.steps.db c.steps.invariant.way over)

pub returns-clause-indexes : goal.returns-clause-indexes
returns-clause-indexes g c = c.steps.invariant.way.first.indexes

pub returns-clause-fits : goal.returns-clause-fits
returns-clause-fits g c =
    let counted : length c.statements-stmts.result.now ≡ length c.args.prog.now = ap length c.statements-stmts.ensures in
    let over : (is_refused c.steps.going.reply || c.steps.number == length c.args.prog.now) ≡ true = ap (λ n. is_refused c.steps.going.reply || c.steps.number == n) (sym counted) ∙ sym c.steps-test.ensures in
    way_fits c.args.prog.now c.args.db.now c.args.keeps c.last_refusing-refusing.result c.steps.number c.steps.going c.steps.db c.steps.invariant.way over

pub returns-clause-printed : goal.returns-clause-printed
returns-clause-printed g c = way_replied c.args.prog.now c.args.db.now c.args.keeps c.last_refusing-refusing.result c.steps.number c.steps.going c.steps.db c.steps.invariant.way

pub returns-clause-moves : goal.returns-clause-moves
returns-clause-moves g c =
    let counted : length c.statements-stmts.result.now ≡ length c.args.prog.now = ap length c.statements-stmts.ensures in
    let over : (is_refused c.steps.going.reply || c.steps.number == length c.args.prog.now) ≡ true = ap (λ n. is_refused c.steps.going.reply || c.steps.number == n) (sym counted) ∙ sym c.steps-test.ensures in
    subst (λ n. c.steps.moves ≤ c.args.moves.now + cost_of_first_by (g.J.Joiner.most c.args.by.now) n c.args.prog.now (state_of c.args.db.now)) (first_ends c.args.prog.now c.args.db.now c.args.keeps c.last_refusing-refusing.result c.steps.number c.steps.going c.steps.db c.steps.invariant.way over) c.steps.invariant.moves

pub returns-in_err-go_on-clause-moves : goal.returns-in_err-go_on-clause-moves
returns-in_err-go_on-clause-moves g c =
    let counted : length c.statements-stmts.result.now ≡ length c.args.prog.now = ap length c.statements-stmts.ensures in
    let on : (is_refused c.steps.going.reply || c.steps.number == length c.args.prog.now) ≡ false = ap (λ n. is_refused c.steps.going.reply || c.steps.number == n) (sym counted) ∙ sym c.steps-test.ensures in
    first_begun c.args.prog.now c.args.db.now c.args.keeps c.last_refusing-refusing.result c.steps.number c.steps.going c.steps.db c.steps.invariant.way (g.J.Joiner.most c.args.by.now) on c.args.moves.now c.steps.moves c.go_on.new.moves c.steps.invariant.moves c.go_on.ensures.cost
