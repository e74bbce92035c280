use Rattle.std.proofs.Common.{map, take, drop, refl}
use Rattle.lt_base.specs.Tables.{state_of}
use Rattle.lt_program.proofs.TwoHeads.{first_answers, second_answers}
use Rattle.lt_program.proofs.heads.found_both.Goals as goal

pub returns-then-have_room-clause-first : goal.returns-then-have_room-clause-first
returns-then-have_room-clause-first g c =
    first_answers c.args.first.now c.args.second.now c.in_ok-terms.terms c.args.body.now (state_of c.args.tables.now) c.in_ok-rows.rows (map (take c.len.result) c.in_ok-rows.rows) c.in_ok-first.first c.len.result
    c.in_ok-terms.ensures c.len.ensures c.in_ok-rows.ensures.rows refl c.in_ok-first.ensures.first

pub returns-then-have_room-clause-second : goal.returns-then-have_room-clause-second
returns-then-have_room-clause-second g c =
    second_answers c.args.first.now c.args.second.now c.in_ok-terms.terms c.args.body.now (state_of c.args.tables.now) c.in_ok-rows.rows (map (drop c.len.result) c.in_ok-rows.rows) c.in_ok-first.second c.len.result
    c.in_ok-terms.ensures c.len.ensures c.in_ok-rows.ensures.rows refl c.in_ok-first.ensures.second
