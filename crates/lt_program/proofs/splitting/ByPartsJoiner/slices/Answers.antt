use denote.Param.Send.{param_send, given_send}
use Rattle.lt_base.specs.Tables.{state_of}
use Rattle.lt_program.proofs.KeptSlices.{joins_by, picked_answerable, found_are}
use Rattle.lt_program.proofs.splitting.ByPartsJoiner.slices.Goals as goal

pub slices_split-requires-sync-R : goal.slices_split-requires-sync-R
slices_split-requires-sync-R g c = λ lifetimes outlive. c.requires.ready.0

pub slices_split-requires-send-L : goal.slices_split-requires-send-L
slices_split-requires-send-L g c = λ lifetimes outlive. param_send 3 _ (given_send 1 _ g.row.L c.requires.ready.1)

pub slices_split-requires-clause-can_join : goal.slices_split-requires-clause-can_join
slices_split-requires-clause-can_join g c = λ lifetimes outlive. joins_by c.args.tables.now c.args.body.now c.args.plan.now c.requires.can_follow

pub slices_split-requires-clause-answerable : goal.slices_split-requires-clause-answerable
slices_split-requires-clause-answerable g c = λ lifetimes outlive. picked_answerable c.args.body.now c.args.terms.now c.requires.terms

pub returns-then-is_worth-clause-slices : goal.returns-then-is_worth-clause-slices
returns-then-is_worth-clause-slices g c =
    found_are c.args.terms.now c.args.body.now c.args.plan.now (state_of c.args.tables.now) c.in_ok-found.found.root c.in_ok-found.found.slices
    c.in_ok-found.ensures.ascending c.in_ok-found.ensures.slices c.in_ok-found.ensures.rooted c.in_ok-found.ensures.tight c.in_ok-found.ensures.root_hits c.in_ok-found.ensures.root_gaps
