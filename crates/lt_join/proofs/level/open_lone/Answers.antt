use Rattle.std.proofs.Common.{◌≡◌, ◌≤◌, ◌+◌, sym, ◌∙◌, subst, arith}
use Rattle.lt_face.proofs.KeyLemmas.{least_above}
use Rattle.lt_face.specs.Lists.{IsIn}
use Rattle.lt_join.specs.AtomIter.{atom_keys}
use Rattle.lt_join.specs.Level.{AreSensed}
use Rattle.lt_join.proofs.Opened.{holder_above_last}
use Rattle.lt_join.proofs.Rising.{least_there, lone_opened, lone_sought}
use Rattle.lt_join.proofs.level.open_lone.Goals as goal

pub open_at-gap-requires-clause-above_last : goal.open_at-gap-requires-clause-above_last
open_at-gap-requires-clause-above_last g c = holder_above_last c.args._way.now.plan c.args._way.now.state c.args._keys.now c.args.iter.now c.requires.holds

pub returns-then-gap-key-clause-sensed : goal.returns-then-gap-key-clause-sensed
returns-then-gap-key-clause-sensed g c =
    let e = c.open_at-gap.ensures in
    subst (λ now. AreSensed c.args._way.now.plan c.args._way.now.state c.args._keys.now c.args.sense.now c.pass.new.self c.args.key c.open_at-gap.result.hi c.args.moves.now now) (sym e.moves)
    (lone_opened c.args._way.now.plan c.args._way.now.state c.args._keys.now c.args.iter.now c.open_at-gap.new.self c.open_at-gap.result c.args.place c.args.key c.opens_at.result c.args.sense.now c.pass.new.self c.args.moves.now
    c.requires.holds e.opened e.here e.lo e.hi c.opens_at.ensures c.in_ok-pass.ensures c.requires.tight)

pub returns-clause-reaches : goal.returns-clause-reaches
returns-clause-reaches g c =
    let s = c.seek-gap.ensures in
    subst (λ k. c.args.key ≤ k) (sym (s.hi ∙ s.here)) (least_above (atom_keys c.open_at-gap.new.self) c.args.key (omega (arith, c.requires.bound)))

pub returns-clause-sensed : goal.returns-clause-sensed
returns-clause-sensed g c =
    let e = c.open_at-gap.ensures in
    let s = c.seek-gap.ensures in
    let moves : c.args.moves.now + 2 ≡ c.seek-gap.new.moves = omega (arith, e.moves, s.moves) in
    subst (λ now. AreSensed c.args._way.now.plan c.args._way.now.state c.args._keys.now c.args.sense.now c.pass-2.new.self c.args.key c.seek-gap.result.hi c.args.moves.now now) moves
    (lone_sought c.args._way.now.plan c.args._way.now.state c.args._keys.now c.args.iter.now c.open_at-gap.new.self c.seek-gap.new.self c.open_at-gap.result c.seek-gap.result c.args.place c.args.key c.opens_at.result c.args.sense.now c.pass.new.self c.pass-2.new.self c.args.moves.now
    c.requires.holds e.opened e.here e.lo e.hi c.opens_at.ensures c.in_ok-pass.ensures c.requires.tight s.still s.keys s.here s.lo s.hi c.in_ok-pass-2.ensures)

pub returns-then-gap-key-clause-there : goal.returns-then-gap-key-clause-there
returns-then-gap-key-clause-there g c =
    let e = c.open_at-gap.ensures in
    λ same. least_there (atom_keys c.open_at-gap.new.self) c.opens_at.result c.args.key (sym e.here ∙ sym e.hi ∙ same) c.requires.bound

pub returns-clause-there : goal.returns-clause-there
returns-clause-there g c =
    let s = c.seek-gap.ensures in
    λ same. subst (λ ks. IsIn c.args.key ks) (sym s.keys) (least_there (atom_keys c.open_at-gap.new.self) c.args.key c.args.key (sym s.here ∙ sym s.hi ∙ same) c.requires.bound)
