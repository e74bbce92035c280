use Rattle.std.proofs.Common.{length, refl, arith}
use Rattle.lt_program.proofs.Noted.{around_first, around_next, around_last, rise_at}
use Rattle.lt_program.proofs.noting.note_around.Goals as goal

pub loop-i-init : goal.loop-i-init
loop-i-init c =
    around_first c.args.keys c.args.place.now.relation (length c.args.place.now.columns) c.args._row.now c.args.alike.now c.requires.ascend c.requires.key c.requires.wide c.index-alike-0.result c.args.sense.now c.note_below.new.sense c.requires.some c.index-alike-0.is c.in_ok-note_below.ensures

pub note_between-requires-clause-rise : goal.note_between-requires-clause-rise
note_between-requires-clause-rise c =
    rise_at c.args.keys c.args.place.now.relation (length c.args.place.now.columns) c.args._row.now c.args.alike.now c.requires.ascend c.requires.key c.requires.wide c.loop-i.i c.index-alike-i.result c.index-alike-i-in-loop-i.result c.loop-i.invariant.some c.loop-i-test.true c.index-alike-i.is c.index-alike-i-in-loop-i.is

pub loop-i-preserved : goal.loop-i-preserved
loop-i-preserved c =
    around_next c.args.keys c.args.place.now.relation (length c.args.place.now.columns) c.args._row.now c.args.alike.now c.requires.ascend c.requires.key c.requires.wide c.loop-i.i c.index-alike-i.result c.index-alike-i-in-loop-i.result c.args.sense.now c.loop-i.sense c.note_between.new.sense
    c.loop-i-test.true c.index-alike-i.is c.index-alike-i-in-loop-i.is c.loop-i.invariant c.in_ok-note_between.ensures

pub returns : goal.returns
returns c =
    around_last c.args.keys c.args.place.now.relation (length c.args.place.now.columns) c.args._row.now c.args.alike.now c.requires.ascend c.requires.key c.requires.wide c.loop-i.i _ c.index-alike-alike.result c.args.sense.now c.loop-i.sense c.note_above.new.sense
    (omega (arith, c.loop-i-test.false)) refl c.index-alike-alike.is c.loop-i.invariant c.in_ok-note_above.ensures
