use Rattle.lt_sense.proofs.ByKeyPlaces.{next_none, next_far, next_there}
use Rattle.lt_sense.proofs.by_key_cut.next_of.Goals as goal

pub returns-then-at-keys : goal.returns-then-at-keys
returns-then-at-keys c = next_none c.args.keys.now c.args.lo c.args.hi c.place_in-at.result c.requires.some c.place_in-at.ensures c.if-at-keys.true

pub returns-then-key-hi : goal.returns-then-key-hi
returns-then-key-hi c = next_there c.args.keys.now c.args.lo c.args.hi c.place_in-at.result c.requires.ascending c.place_in-at.ensures c.if-at-keys.false c.if-key-hi.true

pub returns : goal.returns
returns c = next_far c.args.keys.now c.args.lo c.args.hi c.place_in-at.result c.requires.ascending c.requires.some c.place_in-at.ensures c.if-key-hi.false
