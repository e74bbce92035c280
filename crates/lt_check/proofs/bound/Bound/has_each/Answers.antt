use Rattle.std.proofs.Common.{◌&&◌, ◌+◌, drop, ap, sym, ◌∙◌}
use Rattle.std.specs.List.{list_all}
use Rattle.lt_model.specs.Variables.{place_of}
use Rattle.lt_check.specs.Binding.{has}
use Rattle.lt_check.specs.Seen.{seen}
use Rattle.lt_check.proofs.Binding.{bound_more}
use Rattle.lt_check.proofs.bound.Bound.has_each.Goals as goal

pub returns-then-not-has : goal.returns-then-not-has
returns-then-not-has c =
    let others = list_all (λ name. has c.args.self.now (place_of c.args.names.now name)) (seen (drop (c.loop-name.name-index + 1) c.args.each.now)) in
    sym (sym c.loop-name.invariant
    ∙ bound_more (has c.args.self.now) c.args.names.now c.args.each.now c.loop-name.name-index _ _ _ c.loop-name-test.true c.place_of.ensures c.has.ensures
    ∙ ap (λ b. b && others) c.if-not-has.true)

pub loop-name-preserved : goal.loop-name-preserved
loop-name-preserved c =
    let others = list_all (λ name. has c.args.self.now (place_of c.args.names.now name)) (seen (drop (c.loop-name.name-index + 1) c.args.each.now)) in
    sym (bound_more (has c.args.self.now) c.args.names.now c.args.each.now c.loop-name.name-index _ _ _ c.loop-name-test.true c.place_of.ensures c.has.ensures
    ∙ ap (λ b. b && others) c.if-not-has.false)
    ∙ c.loop-name.invariant
