use Rattle.lt_reference.proofs.Displaced.{other_key, same_key}
use Rattle.lt_reference.proofs.rivals.contend.Goals as goal

pub returns-then-ne : goal.returns-then-ne
returns-then-ne c = other_key c.args.keys c.args.a.now c.args.b.now c.key_of.result.now c.key_of-2.result.now c.ne.result c.key_of.ensures c.key_of-2.ensures c.ne.ensures c.if-ne.true

pub returns : goal.returns
returns c = same_key c.args.keys c.args.a.now c.args.b.now c.key_of.result.now c.key_of-2.result.now c.ne.result c.key_of.ensures c.key_of-2.ensures c.ne.ensures c.ne-2.result c.if-ne.false c.ne-2.ensures
