use Rattle.lt_program.proofs.SplitCosts.{split_least}
use Rattle.lt_program.proofs.splitting.run_split.Goals as goal

pub run_kept_by-requires-clause-least : goal.run_kept_by-requires-clause-least
run_kept_by-requires-clause-least g c = split_least c.args.parts c.requires.parts.0
