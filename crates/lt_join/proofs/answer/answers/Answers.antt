use Rattle.lt_join.proofs.Prepared.{IsPrepared-from}
use Rattle.lt_join.proofs.answer.answers.Goals as goal

pub answers_prepared-requires-clause-prepared : goal.answers_prepared-requires-clause-prepared
answers_prepared-requires-clause-prepared g c = IsPrepared-from (g.I.Indexes.state c.args.indexes.now) c.args.body.now c.args.plan.now c.args.terms.now c.requires.can_join.fits c.requires.can_join.runnable c.requires.answerable.narrow

pub answers_prepared-requires-clause-tests : goal.answers_prepared-requires-clause-tests
answers_prepared-requires-clause-tests g c = (c.requires.can_join.fits.is_bound, c.requires.can_join.fits.are_absents_bound)
