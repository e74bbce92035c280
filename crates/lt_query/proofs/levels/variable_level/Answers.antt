use Rattle.std.proofs.Common.{◌≡◌, subst}
use Rattle.std.specs.Option.{option_to_list}
use Rattle.lt_query.specs.LevelsOf.{first_place, level_terms}
use Rattle.lt_query.proofs.LevelSteps.{first_of_variable, later_of_variable}
use Rattle.lt_query.proofs.levels.variable_level.Goals as goal

pub returns-in_ok-ties-in-Some : goal.returns-in_ok-ties-in-Some
returns-in_ok-ties-in-Some c =
    let seen = level_terms c.args.seen.now in
    let found = subst (λ r. option_to_list r ≡ first_place 0 seen c.args.v) c.in-Some.is c.first_level.ensures in
    rw (c.in_ok-ties-in-Some.ensures, c.new-pins.ensures) (later_of_variable c.args.tests.now seen c.args.v c.in-Some.first found)

pub returns-in_ok-pins-in-None : goal.returns-in_ok-pins-in-None
returns-in_ok-pins-in-None c =
    let seen = level_terms c.args.seen.now in
    let none = subst (λ r. option_to_list r ≡ first_place 0 seen c.args.v) c.in-None.is c.first_level.ensures in
    rw (c.in_ok-pins-in-None.ensures, c.new-ties.ensures) (first_of_variable c.args.tests.now seen c.args.v none)
