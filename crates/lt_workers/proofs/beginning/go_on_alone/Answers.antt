use Rattle.std.proofs.Common.{◌∙◌}
use Rattle.lt_workers.proofs.WentAlone.{went_nowhere, went_to_end, went_from_claim, still_unclaimed}
use Rattle.lt_workers.proofs.beginning.go_on_alone.Goals as goal

pub work_alone-requires-clause-others : goal.work_alone-requires-clause-others
work_alone-requires-clause-others g c = λ lifetimes outlive. λ v other. c.ask.ensures.moved.others v other ∙ c.requires.free v

pub returns-in-Settled : goal.returns-in-Settled
returns-in-Settled g c =
    let given = c.in-Settled.ensures.given in
    record { went = went_nowhere g.M.Machine.net (g.M.Machine.stand c.args.machine.now) (g.M.Machine.stand c.ask.new.self) c.ask.ensures.moved given.1 }

pub returns-in-Busy : goal.returns-in-Busy
returns-in-Busy g c =
    let given = c.in-Busy.ensures.given in
    record { went = went_nowhere g.M.Machine.net (g.M.Machine.stand c.args.machine.now) (g.M.Machine.stand c.ask.new.self) c.ask.ensures.moved (still_unclaimed g.M.Machine.net (g.M.Machine.stand c.args.machine.now) (g.M.Machine.stand c.ask.new.self) c.ask.ensures.moved given c.requires.free) }

pub returns-in-NoMemory : goal.returns-in-NoMemory
returns-in-NoMemory g c =
    let given = c.in-NoMemory.ensures.given in
    record { went = went_nowhere g.M.Machine.net (g.M.Machine.stand c.args.machine.now) (g.M.Machine.stand c.ask.new.self) c.ask.ensures.moved (still_unclaimed g.M.Machine.net (g.M.Machine.stand c.args.machine.now) (g.M.Machine.stand c.ask.new.self) c.ask.ensures.moved given c.requires.free) }

pub returns-then-eq : goal.returns-then-eq
returns-then-eq g c = record { went = went_from_claim g.M.Machine.net (g.M.Machine.stand c.args.machine.now) (g.M.Machine.stand c.ask.new.self) (g.M.Machine.stand c.work_alone.new.machine) c.ask.ensures.moved c.work_alone.ensures.went }

pub returns-else-eq : goal.returns-else-eq
returns-else-eq g c =
    let new = g.M.Machine.stand c.give_up.new.self in
    record {
      went = went_from_claim g.M.Machine.net (g.M.Machine.stand c.args.machine.now) (g.M.Machine.stand c.ask.new.self) new c.ask.ensures.moved
          (went_to_end g.M.Machine.net (g.M.Machine.stand c.ask.new.self) new c.give_up.ensures.moved c.give_up.ensures.free (λ v other. c.ask.ensures.moved.others v other ∙ c.requires.free v));
    }
