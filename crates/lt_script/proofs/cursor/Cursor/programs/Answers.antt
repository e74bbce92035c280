use Rattle.std.proofs.Common.{sym, arith}
use Rattle.std.proofs.lemmas.List.{map-id}
use Rattle.std.proofs.lemmas.Result.{err_from_is_err_and}
use Rattle.lt_reading.specs.Reading.{at_once}
use Rattle.lt_grammar.specs.Productions.{is_program}
use Rattle.lt_script.specs.Valued.{valued_program_at}
use Rattle.lt_script.proofs.Listing.{pushing_begins, pushing_next, pushing_ends, pushing_fails}
use Rattle.lt_script.proofs.Bridges.{programs_shrink}
use Rattle.lt_script.proofs.cursor.Cursor.programs.Goals as goal

pub programs-init : goal.programs-init
programs-init c = pushing_begins (λ x. x) is_program valued_program_at at_once 256 c.args.self.now c.new-programs.result.items c.new-programs.ensures.items

pub programs-preserved : goal.programs-preserved
programs-preserved c =
    pushing_next (λ x. x) is_program valued_program_at at_once 256 c.args.self.now programs_shrink c.programs.programs.items c.push.new.self.items c.programs.self c.program.new.self c.in_ok-program.program (sym c.programs-test.ensures) c.in_ok-program.ensures c.in_ok-push.ensures.items (omega arith) c.programs.invariant

pub returns : goal.returns
returns c = let e = pushing_ends (λ x. x) is_program valued_program_at at_once 256 c.args.self.now c.programs.programs.items c.programs.self (sym c.programs-test.ensures) c.programs.invariant in
    rw (map-id c.programs.programs.items) at e

pub returns-in_err-program : goal.returns-in_err-program
returns-in_err-program c =
    let p = err_from_is_err_and c.from_residual.result c.from_residual.ensures.1 in
    rw (p.1, p.2) (pushing_fails (λ x. x) is_program valued_program_at at_once 256 c.args.self.now c.in_err-program.field-0.0 c.programs.programs.items c.programs.self c.program.new.self (sym c.programs-test.ensures) c.in_err-program.ensures (omega arith) c.programs.invariant)
