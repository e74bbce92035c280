use Rattle.std.proofs.Common.{sym, subst, arith}
use Rattle.lt_base.specs.Tables.{state_of}
use Rattle.lt_face.specs.Rows.{IsRow}
use Rattle.lt_model.specs.Fits.{IsWide}
use Rattle.lt_program.proofs.KeysAll.{own_all, looked_next, looked_err, row_there}
use Rattle.lt_program.proofs.displacing.displaced_by_all.Goals as goal

pub add_displaced-requires-clause-own : goal.add_displaced-requires-clause-own
add_displaced-requires-clause-own g c = (own_all (state_of c.args.tables.now) c.args.relation c.args.width c.in_ok-columns.columns c.look_over.ensures.wide c.requires.wide c.in_ok-columns.ensures).0

pub add_displaced-requires-clause-wide : goal.add_displaced-requires-clause-wide
add_displaced-requires-clause-wide g c =
    subst (IsWide (state_of c.args.tables.now) c.args.relation) (sym (own_all (state_of c.args.tables.now) c.args.relation c.args.width c.in_ok-columns.columns c.look_over.ensures.wide c.requires.wide c.in_ok-columns.ensures).1) c.requires.wide

pub add_displaced-requires-clause-row : goal.add_displaced-requires-clause-row
add_displaced-requires-clause-row g c =
    let long = (own_all (state_of c.args.tables.now) c.args.relation c.args.width c.in_ok-columns.columns c.look_over.ensures.wide c.requires.wide c.in_ok-columns.ensures).1 in
    subst (λ n. IsRow n c.row-item.result) (sym long) (row_there (IsRow c.args.width) c.args.come.now c.as_slice-row-items.result.now c.loop-row.row-index c.row-item.result c.as_slice-row-items.ensures c.loop-row-test.true c.row-item.is c.requires.rows).0

pub add_displaced-requires-clause-within : goal.add_displaced-requires-clause-within
add_displaced-requires-clause-within g c =
    let long = (own_all (state_of c.args.tables.now) c.args.relation c.args.width c.in_ok-columns.columns c.look_over.ensures.wide c.requires.wide c.in_ok-columns.ensures).1 in omega (arith, long, c.requires.within)

pub returns-in_err-add_displaced-clause-cost : goal.returns-in_err-add_displaced-clause-cost
returns-in_err-add_displaced-clause-cost g c =
    let there = row_there (IsRow c.args.width) c.args.come.now c.as_slice-row-items.result.now c.loop-row.row-index c.row-item.result c.as_slice-row-items.ensures c.loop-row-test.true c.row-item.is c.requires.rows in
    looked_err (state_of c.args.tables.now) c.args.relation c.args.keys c.args.come.now c.loop-row.row-index c.row-item.result c.args.sense.now c.loop-row.sense c.loop-row.displaced.items c.args.moves.now c.loop-row.moves c.add_displaced.new.moves there.1 there.2
    c.loop-row.invariant c.add_displaced.ensures.cost

pub loop-row-preserved : goal.loop-row-preserved
loop-row-preserved g c =
    let there = row_there (IsRow c.args.width) c.args.come.now c.as_slice-row-items.result.now c.loop-row.row-index c.row-item.result c.as_slice-row-items.ensures c.loop-row-test.true c.row-item.is c.requires.rows in
    looked_next (state_of c.args.tables.now) c.args.relation c.args.keys c.args.come.now c.loop-row.row-index c.row-item.result there.1 there.2 c.args.sense.now c.loop-row.sense c.add_displaced.new.sense c.loop-row.displaced.items c.args.moves.now c.loop-row.moves c.loop-row.invariant
    c.add_displaced.new.displaced.items c.add_displaced.new.moves c.in_ok-add_displaced.ensures.rows c.in_ok-add_displaced.ensures.grows c.in_ok-add_displaced.ensures.certified c.in_ok-add_displaced.ensures.tight c.add_displaced.ensures.cost c.add_displaced.ensures.moves
