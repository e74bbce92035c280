use Rattle.std.proofs.Common.{length, arith}
use Rattle.lt_join.proofs.Opened.{place_within, still_deep, close_step, close_end}
use Rattle.lt_join.proofs.level.close.Goals as goal

pub up-requires : goal.up-requires
up-requires g c =
    let places = c.args.places.now in
    let i = c.loop-place.place-index in
    let above = c.requires.opened.0 in
    let opened = c.loop-place.invariant above c.requires.opened.1 in
    let first = c.requires.opened.1.as_long in
    let long = opened.as_long in
    let within = place_within places (length c.args.iters.now) i c.requires.places.within (omega arith) in
    still_deep places i above c.loop-place.iters c.index-iters-place.result opened (omega arith) (omega (arith, first, long, within))

pub loop-place-preserved : goal.loop-place-preserved
loop-place-preserved g c = λ above was.
    let places = c.args.places.now in
    let i = c.loop-place.place-index in
    let opened = c.loop-place.invariant above was in
    let first = was.as_long in
    let long = opened.as_long in
    let within = place_within places (length c.args.iters.now) i c.requires.places.within (omega arith) in
    close_step places (length c.args.iters.now) i above c.loop-place.iters c.index-iters-place.result c.up.new.self c.requires.places opened (omega arith) (omega (arith, first, long, within)) c.up.ensures

pub returns : goal.returns
returns g c = λ above was. close_end c.args.places.now c.loop-place.place-index above c.loop-place.iters (omega arith) (c.loop-place.invariant above was)
