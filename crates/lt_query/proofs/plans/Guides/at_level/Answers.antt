use Rattle.std.proofs.Common.{◌∙◌, ◌<◌, ap, length, subst, sym}
use Rattle.std.specs.List.{AllByRecursion}
use Rattle.lt_query.specs.Holding.{atoms_at_level}
use Rattle.lt_query.specs.Lists.{IsRising}
use Rattle.lt_query.proofs.LevelParts.{atoms_within, atoms_rising}
use Rattle.lt_query.proofs.plans.Guides.at_level.Goals as goal

pub returns-clause-value : goal.returns-clause-value
returns-clause-value c = c.at_level.ensures ∙ ap (λ guides. atoms_at_level guides c.args.level) (c.deref.ensures ∙ c.self.view_is)

pub returns-clause-within : goal.returns-clause-within
returns-clause-within c =
    let same = c.at_level.ensures ∙ ap (λ guides. atoms_at_level guides c.args.level) (c.deref.ensures ∙ c.self.view_is) in
    subst (AllByRecursion (λ i. i < length c.args.self.now)) (sym same) (atoms_within c.args.self.now c.args.level)

pub returns-clause-rising : goal.returns-clause-rising
returns-clause-rising c =
    let same = c.at_level.ensures ∙ ap (λ guides. atoms_at_level guides c.args.level) (c.deref.ensures ∙ c.self.view_is) in
    subst IsRising (sym same) (atoms_rising c.args.self.now c.args.level)
