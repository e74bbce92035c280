use Rattle.std.proofs.Common.{◌≡◌, ◌<◌, arith}
use Rattle.lt_join.proofs.PutRows.{IsShared-at, IsShared-past}
use Rattle.lt_join.proofs.key_rows.share_below.Goals as goal

pub returns-then-other-key-clause-below : goal.returns-then-other-key-clause-below
returns-then-other-key-clause-below c =
    let at : c.index-old-i.result.key ≡ c.args.key = omega (arith, c.key-other.ensures, c.if-other-key.true) in
    (IsShared-at c.args.key c.args.old.now c.args.out.now.items c.loop-i.out.items c.args.from c.loop-i.i c.index-old-i.result c.requires.ascending c.loop-i-test.true c.index-old-i.is at c.loop-i.invariant).0

pub returns-then-other-key-clause-above : goal.returns-then-other-key-clause-above
returns-then-other-key-clause-above c =
    let at : c.index-old-i.result.key ≡ c.args.key = omega (arith, c.key-other.ensures, c.if-other-key.true) in
    (IsShared-at c.args.key c.args.old.now c.args.out.now.items c.loop-i.out.items c.args.from c.loop-i.i c.index-old-i.result c.requires.ascending c.loop-i-test.true c.index-old-i.is at c.loop-i.invariant).1

pub returns-then-key-other-clause-below : goal.returns-then-key-other-clause-below
returns-then-key-other-clause-below c =
    let past : c.args.key < c.index-old-i.result.key = omega (arith, c.key-other.ensures, c.if-key-other.true) in
    (IsShared-past c.args.key c.args.old.now c.args.out.now.items c.loop-i.out.items c.args.from c.loop-i.i c.index-old-i.result c.requires.ascending c.loop-i-test.true c.index-old-i.is past c.loop-i.invariant).0

pub returns-then-key-other-clause-above : goal.returns-then-key-other-clause-above
returns-then-key-other-clause-above c =
    let past : c.args.key < c.index-old-i.result.key = omega (arith, c.key-other.ensures, c.if-key-other.true) in
    (IsShared-past c.args.key c.args.old.now c.args.out.now.items c.loop-i.out.items c.args.from c.loop-i.i c.index-old-i.result c.requires.ascending c.loop-i-test.true c.index-old-i.is past c.loop-i.invariant).1
