use denote.Param.Send.{param_send, given_send}
use Rattle.lt_program.proofs.KeptSlices.{joins_by, picked_answerable}
use Rattle.lt_program.proofs.splitting.ByPartsJoiner.found.Goals as goal

pub answers_split-requires-sync-R : goal.answers_split-requires-sync-R
answers_split-requires-sync-R g c = λ lifetimes outlive. c.requires.ready.0

pub answers_split-requires-send-L : goal.answers_split-requires-send-L
answers_split-requires-send-L g c = λ lifetimes outlive. param_send 3 _ (given_send 1 _ g.row.L c.requires.ready.1)

pub answers_split-requires-clause-can_join : goal.answers_split-requires-clause-can_join
answers_split-requires-clause-can_join g c = λ lifetimes outlive. joins_by c.args.tables.now c.args.body.now c.args.plan.now c.requires.can_follow

pub answers_split-requires-clause-answerable : goal.answers_split-requires-clause-answerable
answers_split-requires-clause-answerable g c = λ lifetimes outlive. picked_answerable c.args.body.now c.args.terms.now c.requires.terms
