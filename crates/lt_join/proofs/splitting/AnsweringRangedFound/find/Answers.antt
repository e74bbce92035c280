use Rattle.std.proofs.Common.{◌∙◌, ap}
use Rattle.lt_model.specs.Answers.{ascending}
use Rattle.lt_query.specs.Plan.{term_at}
use Rattle.lt_join.proofs.PartLaws.{part_sorted}
use Rattle.lt_join.proofs.splitting.AnsweringRangedFound.find.Goals as goal

pub returns-clause-found : goal.returns-clause-found
returns-clause-found g c =
    part_sorted c.args.terms.now c.args.body.now (g.I.Indexes.state c.args.indexes.now) (term_at c.args.plan.now.levels 0) c.args.lo c.args.hi c.in_ok-found.found.rows c.in_ok-rows.rows c.in_ok-found.found.sense
    (c.in_ok-rows.ensures ∙ ap ascending c.into_vec.ensures) c.in_ok-found.ensures.part
