use Rattle.lt_base.specs.Tables.{state_of}
use Rattle.lt_readers.specs.Boards.{posted}
use Rattle.lt_run_trials.proofs.Opening.{keeps_both, posted_begins}
use Rattle.lt_run_trials.proofs.boards.is_posted.Goals as goal

pub post-requires-clause-relations : goal.post-requires-clause-relations
post-requires-clause-relations g c = keeps_both (posted c.args.poster.now) c.requires.opening (state_of c.args.db.now) c.requires.both

pub returns-clause-begins : goal.returns-clause-begins
returns-clause-begins g c = posted_begins (posted c.args.poster.now) (posted c.post.new.self) c.in_ok-at.at c.args.db.now c.requires.opening c.in_ok-at.ensures.ok
