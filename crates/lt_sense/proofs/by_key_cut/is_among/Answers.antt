use Rattle.lt_sense.proofs.ByKeyPlaces.{among_none, among_there}
use Rattle.lt_sense.proofs.by_key_cut.is_among.Goals as goal

pub returns-then-at-keys : goal.returns-then-at-keys
returns-then-at-keys c = among_none c.args.keys.now c.args.key c.place_in-at.result c.place_in-at.ensures c.if-at-keys.true

pub returns : goal.returns
returns c = among_there c.args.keys.now c.args.key c.place_in-at.result c.requires c.place_in-at.ensures c.if-at-keys.false
