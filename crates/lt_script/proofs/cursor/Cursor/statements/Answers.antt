use Rattle.std.proofs.Common.{refl, sym, arith}
use Rattle.std.proofs.lemmas.Result.{err_from_is_err_and}
use Rattle.lt_script.proofs.Known.{reading_next, reading_ends, reading_fails}
use Rattle.lt_script.proofs.cursor.Cursor.statements.Goals as goal

pub statements-init : goal.statements-init
statements-init c = record { so_far = refl; few = c.requires; source = refl }

pub statements-preserved : goal.statements-preserved
statements-preserved c =
    reading_next c.args.statements.now.items c.args.self.now c.statements.statements.items c.statements.self c.statements.invariant c.in_ok-statement.statement c.push.new.self.items c.known.new.statements.items c.strange.new.self c.known.new.self (sym c.statements-test.ensures) (omega arith)
    c.in_ok-statement.ensures c.in_ok-push.ensures.items c.in_ok-known.ensures.known c.in_ok-known.ensures.few c.known.ensures.source

pub returns : goal.returns
returns c = reading_ends c.args.statements.now.items c.args.self.now c.statements.statements.items c.statements.self c.statements.invariant (sym c.statements-test.ensures)

pub returns-in_err-statement : goal.returns-in_err-statement
returns-in_err-statement c =
    let p = err_from_is_err_and c.from_residual.result c.from_residual.ensures.1 in
    rw (p.1, p.2) (reading_fails c.args.statements.now.items c.args.self.now c.statements.statements.items c.statements.self c.statements.invariant c.in_err-statement.field-0.0 c.strange.new.self (sym c.statements-test.ensures) (omega arith) c.in_err-statement.ensures)
