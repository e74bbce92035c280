use Rattle.lt_world.proofs.judging.all_judged.Goals as goal

pub judged_by-requires-clause-table : goal.judged_by-requires-clause-table
judged_by-requires-clause-table c = c.new-table.ensures c.args.schema.now
