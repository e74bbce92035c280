use Rattle.lt_sense.proofs.by_key_seen.SeenByKey.without.Given as goal

abbrev pub ghost-of : goal.ghost-of
ghost-of g a = g.all
