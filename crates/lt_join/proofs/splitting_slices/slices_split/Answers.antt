use denote.Exit.{no}
use denote.Param.Send.{param_send, arg_send}
use Rattle.std.proofs.Common.{◌-◌, sym, arith}
use Rattle.lt_join.specs.contracts.sliced.Gathered as Gathered
use Rattle.lt_join.proofs.Crossing.{gathered_send}
use Rattle.lt_join.proofs.MendLaws.{certified_of, tight_of, answers_of}
use Rattle.lt_join.proofs.Prepared.{IsJoinable-from}
use Rattle.lt_join.proofs.splitting_slices.slices_split.Goals as goal

pub find_whole-requires-clause-ready : goal.find_whole-requires-clause-ready
find_whole-requires-clause-ready g c κs within =
    IsJoinable-from (g.I.Indexes.state c.args.indexes.now) (g.I.Indexes.has_index c.args.indexes.now) c.args.body.now c.args.plan.now c.args.terms.now c.requires.can_join c.requires.answerable c.requires.has_levels

pub returns-clause-ascending : goal.returns-clause-ascending
returns-clause-ascending g c = (c.in_ok-whole.ensures.slices c.args.terms.now c.args.body.now c.args.plan.now (g.I.Indexes.state c.args.indexes.now) c.in_ok-found.ensures.found.0).0.ascending

pub returns-clause-slices : goal.returns-clause-slices
returns-clause-slices g c = (c.in_ok-whole.ensures.slices c.args.terms.now c.args.body.now c.args.plan.now (g.I.Indexes.state c.args.indexes.now) c.in_ok-found.ensures.found.0).0.each

pub returns-clause-found : goal.returns-clause-found
returns-clause-found g c = (c.in_ok-whole.ensures.slices c.args.terms.now c.args.body.now c.args.plan.now (g.I.Indexes.state c.args.indexes.now) c.in_ok-found.ensures.found.0).1

pub returns-clause-rooted : goal.returns-clause-rooted
returns-clause-rooted g c = (c.in_ok-whole.ensures.slices c.args.terms.now c.args.body.now c.args.plan.now (g.I.Indexes.state c.args.indexes.now) c.in_ok-found.ensures.found.0).0.rooted

pub returns-clause-root_gaps : goal.returns-clause-root_gaps
returns-clause-root_gaps g c = (c.in_ok-whole.ensures.slices c.args.terms.now c.args.body.now c.args.plan.now (g.I.Indexes.state c.args.indexes.now) c.in_ok-found.ensures.found.0).0.root_gaps

pub returns-clause-root_hits : goal.returns-clause-root_hits
returns-clause-root_hits g c = (c.in_ok-whole.ensures.slices c.args.terms.now c.args.body.now c.args.plan.now (g.I.Indexes.state c.args.indexes.now) c.in_ok-found.ensures.found.0).0.root_hits

pub returns-clause-rows : goal.returns-clause-rows
returns-clause-rows g c =
    let state = g.I.Indexes.state c.args.indexes.now in
    sym (answers_of c.args.terms.now c.args.body.now c.args.plan.now state c.in_ok-whole.whole.root c.in_ok-whole.whole.slices c.requires.can_join.of_body c.requires.has_levels (c.requires.can_join.fits.is_bound, c.requires.can_join.fits.are_absents_bound) c.requires.answerable.are_bound
    (c.in_ok-whole.ensures.slices c.args.terms.now c.args.body.now c.args.plan.now state c.in_ok-found.ensures.found.0).0)

pub returns-clause-certified : goal.returns-clause-certified
returns-clause-certified g c =
    let state = g.I.Indexes.state c.args.indexes.now in
    certified_of c.args.terms.now c.args.body.now c.args.plan.now state c.in_ok-whole.whole.root c.in_ok-whole.whole.slices c.requires.can_join.of_body c.requires.has_levels (c.in_ok-whole.ensures.slices c.args.terms.now c.args.body.now c.args.plan.now state c.in_ok-found.ensures.found.0).0

pub returns-clause-tight : goal.returns-clause-tight
returns-clause-tight g c =
    let state = g.I.Indexes.state c.args.indexes.now in
    tight_of c.args.terms.now c.args.body.now c.args.plan.now state c.in_ok-whole.whole.root c.in_ok-whole.whole.slices (c.in_ok-whole.ensures.slices c.args.terms.now c.args.body.now c.args.plan.now state c.in_ok-found.ensures.found.0).0

pub returns-clause-gaps : goal.returns-clause-gaps
returns-clause-gaps g c =
    let most = (c.in_ok-whole.ensures.few (c.find_whole.new.moves - c.args.moves.now) c.in_ok-found.ensures.paid).gaps in
    omega arith

pub returns-clause-hits : goal.returns-clause-hits
returns-clause-hits g c =
    let most = (c.in_ok-whole.ensures.few (c.find_whole.new.moves - c.args.moves.now) c.in_ok-found.ensures.paid).hits in
    omega arith

pub whole_of-requires-clause-root_gaps : goal.whole_of-requires-clause-root_gaps
whole_of-requires-clause-root_gaps g c = c.in_ok-found.ensures.found.0.root_gaps

pub find_whole-requires-send-F : goal.find_whole-requires-send-F
find_whole-requires-send-F g c κs within = param_send 4 _ (arg_send _ no Gathered.the_row gathered_send)
