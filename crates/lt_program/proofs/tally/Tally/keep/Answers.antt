use Rattle.std.proofs.Common.{◌+◌, ◌∙◌}
use Rattle.std.specs.Arc.{arc_value}
use Rattle.lt_program.proofs.Keeps.{kept_part, kept_same}
use Rattle.lt_program.proofs.Sounds.{next_is, sound_next, one_more}
use Rattle.lt_program.proofs.tally.Tally.keep.Goals as goal

pub keep-requires-clause-part : goal.keep-requires-clause-part
keep-requires-clause-part c =
    kept_part (arc_value c.self.inside.prog) c.self.inside.base c.self.inside.course c.args.self.now c.self.view_is c.self.invariant
    c.args.old.now c.len-number.result c.index-statements-number.result c.index-parts-number.result c.parts.result.now c.parts.ensures.run c.requires.program c.requires.evaluated c.requires.agree c.parts.ensures.parts c.len-number.ensures c.index-parts-number.is
    (next_is (arc_value c.self.inside.prog) c.statements.result.now c.self.inside.base c.self.inside.course c.args.self.now c.len-number.result c.index-statements-number.result c.self.view_is c.self.invariant c.requires.going (c.statements.ensures ∙ c.deref.ensures) c.len-number.ensures c.index-statements-number.is)

pub invariant_of-self-2 : goal.invariant_of-self-2
invariant_of-self-2 c =
    let there = next_is (arc_value c.self.inside.prog) c.statements.result.now c.self.inside.base c.self.inside.course c.args.self.now c.len-number.result c.index-statements-number.result c.self.view_is c.self.invariant c.requires.going (c.statements.ensures ∙ c.deref.ensures) c.len-number.ensures c.index-statements-number.is in
    sound_next (arc_value c.self.inside.prog) c.self.inside.base c.self.inside.course c.keep.new.self c.args.self.now c.len-number.result c.index-statements-number.result c.self.view_is c.self.invariant c.requires.going c.len-number.ensures there
    c.in_ok-keep.ensures.ok c.in_ok-keep.ensures.laid

pub returns-clause-one : goal.returns-clause-one
returns-clause-one c =
    let there = next_is (arc_value c.self.inside.prog) c.statements.result.now c.self.inside.base c.self.inside.course c.args.self.now c.len-number.result c.index-statements-number.result c.self.view_is c.self.invariant c.requires.going (c.statements.ensures ∙ c.deref.ensures) c.len-number.ensures c.index-statements-number.is in
    let sound = sound_next (arc_value c.self.inside.prog) c.self.inside.base c.self.inside.course c.keep.new.self c.args.self.now c.len-number.result c.index-statements-number.result c.self.view_is c.self.invariant c.requires.going c.len-number.ensures there
    c.in_ok-keep.ensures.ok c.in_ok-keep.ensures.laid in
    one_more (arc_value c.self.inside.prog) c.self.inside.base c.self.inside.course c.keep.new.self c.args.self.now (c.len-number.result + 1) c.index-statements-number.result c.self.view_is c.in_ok-keep.ensures.ok sound

pub returns-clause-kept : goal.returns-clause-kept
returns-clause-kept c =
    kept_same (arc_value c.self.inside.prog) c.self.inside.base c.self.inside.course c.args.self.now c.self.view_is c.self.invariant
    c.args.old.now c.len-number.result c.index-parts-number.result c.parts.result.now c.keep.new.self.parts c.requires.evaluated c.parts.ensures.parts c.len-number.ensures c.index-parts-number.is c.in_ok-keep.ensures.kept
