use Rattle.lt_sense.proofs.no_sense.NoSense.with_all.Given as goal

abbrev pub ghost-of : goal.ghost-of
ghost-of g a = g.all
