use Rattle.std.proofs.Common.{map, take, drop, refl}
use Rattle.lt_base.specs.Tables.{state_of}
use Rattle.lt_program.proofs.TwoHeads.{first_answers, second_answers}
use Rattle.lt_program.proofs.alone.both_alone.Goals as goal

pub returns-then-have_room-clause-gone : goal.returns-then-have_room-clause-gone
returns-then-have_room-clause-gone g c =
    first_answers c.args.gone.now c.args.come.now c.in_ok-terms.terms c.args.body.now (state_of c.args.tables.now) c.in_ok-rows.rows (map (take c.len.result) c.in_ok-rows.rows) c.in_ok-both.both.0 c.len.result
    c.in_ok-terms.ensures c.len.ensures c.in_ok-rows.ensures.rows refl c.in_ok-both.ensures.first

pub returns-then-have_room-clause-come : goal.returns-then-have_room-clause-come
returns-then-have_room-clause-come g c =
    second_answers c.args.gone.now c.args.come.now c.in_ok-terms.terms c.args.body.now (state_of c.args.tables.now) c.in_ok-rows.rows (map (drop c.len.result) c.in_ok-rows.rows) c.in_ok-both.both.1 c.len.result
    c.in_ok-terms.ensures c.len.ensures c.in_ok-rows.ensures.rows refl c.in_ok-both.ensures.second
