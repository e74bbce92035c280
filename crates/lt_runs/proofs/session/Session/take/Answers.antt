use Rattle.lt_runs.proofs.Held.{answered_alone, none_waits, ready_taken}
use Rattle.lt_runs.proofs.session.Session.take.Goals as goal

pub returns-then-not-waits-clause-ready : goal.returns-then-not-waits-clause-ready
returns-then-not-waits-clause-ready g c =
    let none = none_waits c.args.options c.args.self.now c.requires.ready (c.waits.ensures.none c.if-not-waits.true) in
    ready_taken c.take.result c.args.options c.args.self.now.made.world c.args.item _ c.requires.pipeline.0 c.requires.ready.world c.take.ensures.world none

pub returns-then-not-waits-clause-answers : goal.returns-then-not-waits-clause-answers
returns-then-not-waits-clause-answers g c = λ m s.
    let none = none_waits c.args.options c.args.self.now c.requires.ready (c.waits.ensures.none c.if-not-waits.true) in
    answered_alone c.take.result c.args.options m c.args.item _ _ _ _ _ _ none none s (c.take.ensures.text m s) c.take.ensures.world c.take.ensures.block

pub returns-in-Batch-clause-answers : goal.returns-in-Batch-clause-answers
returns-in-Batch-clause-answers g c = λ m s. rw c.in-Batch.is (c.hold.ensures.answers m s)
