use Rattle.lt_net.proofs.Reached.{reached_legal, reached_settled, reached_few}
use Rattle.lt_net.proofs.alone.alone_settles.Goals as goal

pub returns-clause-legal : goal.returns-clause-legal
returns-clause-legal c = reached_legal

pub returns-clause-settled : goal.returns-clause-settled
returns-clause-settled c = reached_settled

pub returns-clause-few : goal.returns-clause-few
returns-clause-few c = reached_few
