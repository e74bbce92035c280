use Rattle.std.proofs.Common.{◌≡◌, ◌≤◌, List, length, sym, subst}
use Rattle.std.specs.List.{AllByRecursion}
use Rattle.lt_model.specs.declared.syntax.Item.{Item}
use Rattle.lt_model.specs.Limits.{IsWithinLimits}
use Rattle.lt_gen.specs.Script.{bench_items}
use Rattle.lt_gen.proofs.Parts.{parts_make}
use Rattle.lt_gen.proofs.Within.{bench_count, bench_within}
use Rattle.lt_gen.proofs.script.bench_script.Goals as goal

pub returns-clause-script : goal.returns-clause-script
returns-clause-script c =
    parts_make c.args.seed c.args.items c.args.programs _ _ _ _ _ _ c.from_seed-draws.ensures.seed c.in_ok-programs_that_load.ensures.seed
    c.in_ok-script.ensures c.in_ok-programs_that_load.ensures.programs c.in_ok-push.ensures.ok c.in_ok-push_buys.ensures

pub returns-clause-within : goal.returns-clause-within
returns-clause-within c =
    let is : c.push_buys.new.script ≡ bench_items c.args.seed c.args.items c.args.programs =
    parts_make c.args.seed c.args.items c.args.programs _ _ _ _ _ _ c.from_seed-draws.ensures.seed c.in_ok-programs_that_load.ensures.seed
    c.in_ok-script.ensures c.in_ok-programs_that_load.ensures.programs c.in_ok-push.ensures.ok c.in_ok-push_buys.ensures in
    subst (λ (items : List Item). AllByRecursion IsWithinLimits items) (sym is) (bench_within c.args.seed c.args.items c.args.programs c.requires.items.0 c.requires.items.1 c.requires.programs.1)

pub returns-clause-few : goal.returns-clause-few
returns-clause-few c =
    let is : c.push_buys.new.script ≡ bench_items c.args.seed c.args.items c.args.programs =
    parts_make c.args.seed c.args.items c.args.programs _ _ _ _ _ _ c.from_seed-draws.ensures.seed c.in_ok-programs_that_load.ensures.seed
    c.in_ok-script.ensures c.in_ok-programs_that_load.ensures.programs c.in_ok-push.ensures.ok c.in_ok-push_buys.ensures in
    subst (λ (items : List Item). length items ≤ 1027) (sym is) (bench_count c.args.seed c.args.items c.args.programs c.requires.programs.1)
