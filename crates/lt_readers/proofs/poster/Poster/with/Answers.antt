use Rattle.std.proofs.Common.{rules, arith}
use Rattle.std.specs.Arc.{arc_value}
use Rattle.lt_readers.proofs.Adding.{posts_below}
use Rattle.lt_readers.proofs.poster.Poster.with.Goals as goal

pub extended-requires-clause-room : goal.extended-requires-clause-room
extended-requires-clause-room g c =
    let few = posts_below c.args.self.front.seen.log (arc_value c.args.version) c.args.self.posts c.args.self.front.legal c.requires.follows c.args.self.counted in
    omega (arith, few, c.requires.number, c.ranges.number.fits)

pub show-desk-requires-clause-last : goal.show-desk-requires-clause-last
show-desk-requires-clause-last g c = (_, _, c.append.ensures.pending, search rules)

pub overflow_add-poster : goal.overflow_add-poster
overflow_add-poster g c =
    let few = posts_below c.args.self.front.seen.log (arc_value c.args.version) c.args.self.posts c.args.self.front.legal c.requires.follows c.args.self.counted in
    grind (arith, few, c.requires.number, c.ranges.number.fits)
