use Rattle.std.proofs.Common.{false}
use Rattle.std.specs.Prelude.{fold}
use Rattle.lt_model.specs.Report.{opening, step}
use Rattle.lt_obeying.proofs.Dumping.{stands_first, stands_in, stands_more}
use Rattle.lt_obeying.proofs.dump_check.world_of.Goals as goal

pub steps-init : goal.steps-init
steps-init g c = stands_first c.args.text.now c.in_ok-feed.feed c.in_ok-world.world c.in_ok-feed.ensures.fed c.in_ok-feed.ensures.ended c.in_ok-world.ensures

pub take-requires-clause-world : goal.take-requires-clause-world
take-requires-clause-world g c κs within = stands_in c.args.text.now c.steps.feed c.steps.world c.steps.invariant

pub take-requires-clause-within : goal.take-requires-clause-within
take-requires-clause-within g c κs within = (c.in-Item.ensures.step c.args.text.now c.steps.invariant.items c.steps.invariant.fed).within

pub steps-preserved : goal.steps-preserved
steps-preserved g c =
    let s = c.steps.invariant in
    let gives = c.in-Item.ensures.step c.args.text.now s.items s.fed in
    stands_more c.args.text.now c.steps.feed c.next_step.new.self c.steps.world c.take.new.self c.in-Item.item s gives.fed c.in-Item.ensures.ended (c.in_ok-take-in-Item.ensures.world false (fold (step false) opening s.items) s.shows)

pub returns-in-End : goal.returns-in-End
returns-in-End g c =
    let s = c.steps.invariant in
    record { items = s.items; script = (c.in-End.ensures.step c.args.text.now s.items s.fed).1; shows = s.shows }
