use Rattle.lt_program.proofs.Noted.{noted_gap}
use Rattle.lt_program.proofs.noting.note_gap.Goals as goal

pub returns : goal.returns
returns c =
    noted_gap c.args.place.now.relation c.args.lo c.args.hi c.args.place.now.columns c.args.prefix.now c.args.sense.now c.add_gap.new.self c.requires.own c.in_ok-add_gap.ensures.kept c.in_ok-add_gap.ensures.empty c.in_ok-add_gap.ensures.hits
