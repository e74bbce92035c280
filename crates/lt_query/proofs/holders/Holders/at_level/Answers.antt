use Rattle.std.proofs.Common.{◌≡◌, ◌∙◌, ap, ◌<◌, ◌≤◌, length, subst, arith}
use Rattle.std.specs.Prelude.{[]}
use Rattle.lt_query.specs.Holding.{atoms_at_level}
use Rattle.lt_query.proofs.LevelParts.{none_beyond, part_within, part_holds}
use Rattle.lt_query.proofs.holders.Holders.at_level.Goals as goal

pub returns-then-level-len : goal.returns-then-level-len
returns-then-level-len c =
    let beyond : length c.self.inside.parts.items ≤ c.args.level = omega (arith, c.len.ensures, c.if-level-len.true) in
    subst (λ guides. [] ≡ atoms_at_level guides c.args.level) c.self.view_is (none_beyond c.self.inside.guides (length c.self.inside.parts.items) c.args.level beyond c.self.invariant.all)

pub part_in-requires : goal.part_in-requires
part_in-requires c =
    let s = c.self.inside in
    let lt : c.args.level < length s.parts.items = omega (arith, c.len.ensures, c.if-level-len.false) in
    rw c.deref.ensures.value (part_within s.guides s.parts.items s.places.items c.args.level c.index-part.result.now c.self.invariant.parts_are c.self.invariant.places_are lt c.index-part.ensures)

pub returns : goal.returns
returns c =
    let s = c.self.inside in
    let lt : c.args.level < length s.parts.items = omega (arith, c.len.ensures, c.if-level-len.false) in
    c.part_in.ensures
    ∙ (rw c.deref.ensures.value (part_holds s.guides s.parts.items s.places.items c.args.level c.index-part.result.now c.self.invariant.parts_are c.self.invariant.places_are lt c.index-part.ensures)
    ∙ ap (λ guides. atoms_at_level guides c.args.level) c.self.view_is)
