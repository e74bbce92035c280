use Rattle.lt_join.proofs.path.ToldKeys.with.Given as goal

abbrev pub ghost-of : goal.ghost-of
ghost-of g a = g.all
