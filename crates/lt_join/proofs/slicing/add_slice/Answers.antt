use Rattle.std.proofs.Common.{◌∙◌}
use Rattle.lt_sense.specs.ByKey.{KeySense}
use Rattle.lt_join.proofs.JoinedIn.{put_last}
use Rattle.lt_join.proofs.Keyed.{keyed_more, slices_more}
use Rattle.lt_join.proofs.slicing.add_slice.Goals as goal

pub returns-clause-keyed : goal.returns-clause-keyed
returns-clause-keyed c =
    let one : KeySense = record { key = c.args.key; sense = c.args.part } in
    keyed_more c.args.sense.now.slices c.args.rows.now.items c.requires.keyed c.args.key c.args.found c.args.part c.requires.above c.add_slice.new.self.slices c.add_key.new.all.items (c.in_ok-add_slice.ensures.slices ∙ put_last one c.args.sense.now.slices c.requires.above) c.in_ok-add_key.ensures

pub returns-clause-slices : goal.returns-clause-slices
returns-clause-slices c =
    let one : KeySense = record { key = c.args.key; sense = c.args.part } in
    slices_more c.args.sense.now.slices c.args.rows.now.items c.requires.keyed c.args.key c.args.found c.args.part c.requires.above c.add_slice.new.self.slices c.add_key.new.all.items (c.in_ok-add_slice.ensures.slices ∙ put_last one c.args.sense.now.slices c.requires.above) c.in_ok-add_key.ensures
