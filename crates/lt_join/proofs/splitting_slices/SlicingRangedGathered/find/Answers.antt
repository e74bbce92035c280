use Rattle.lt_join.proofs.splitting_slices.SlicingRangedGathered.find.Goals as goal

pub returns-clause-found : goal.returns-clause-found
returns-clause-found g c = (c.in_ok-found.ensures.slices, c.in_ok-found.ensures.keyed)
