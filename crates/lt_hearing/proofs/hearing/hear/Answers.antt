use Rattle.std.proofs.Common.{◌++◌, ◌∷◌, [], false, subst, sym}
use Rattle.lt_script.specs.declared.feed.Feed.{Feed}
use Rattle.lt_script.specs.Feed.{HasFed}
use Rattle.lt_hearing.proofs.Heard.{heard_more, heard_still, taken}
use Rattle.lt_hearing.proofs.hearing.hear.Goals as goal

pub returns-in-Fault-clause-heard : goal.returns-in-Fault-clause-heard
returns-in-Fault-clause-heard g c = λ talks timed bytes items m fed shows.
    let h = c.steps.invariant.1 talks timed bytes items m fed shows in
    let s = c.in-Fault.ensures.step bytes (items ++ h.more) h.fed in
    heard_still m bytes items c.steps.world c.steps.script.fed c.next_step.new.self (g.K.Sink.holds c.args.sink.now) (g.K.Sink.holds c.steps.sink) h s.1

pub returns-in-End-clause-heard : goal.returns-in-End-clause-heard
returns-in-End-clause-heard g c = λ talks timed bytes items m fed shows.
    let h = c.steps.invariant.1 talks timed bytes items m fed shows in
    let s = c.in-End.ensures.step bytes (items ++ h.more) h.fed in
    heard_still m bytes items c.steps.world c.steps.script.fed c.next_step.new.self (g.K.Sink.holds c.args.sink.now) (g.K.Sink.holds c.steps.sink) h (subst (λ (x : Feed). HasFed x bytes (items ++ h.more)) (sym s.2) h.fed)

pub returns-in-More-clause-heard : goal.returns-in-More-clause-heard
returns-in-More-clause-heard g c = λ talks timed bytes items m fed shows.
    let h = c.steps.invariant.1 talks timed bytes items m fed shows in
    let s = c.in-More.ensures.step bytes (items ++ h.more) h.fed in
    heard_still m bytes items c.steps.world c.steps.script.fed c.next_step.new.self (g.K.Sink.holds c.args.sink.now) (g.K.Sink.holds c.steps.sink) h (subst (λ (x : Feed). HasFed x bytes (items ++ h.more)) (sym s.2) h.fed)

pub steps-preserved : goal.steps-preserved
steps-preserved g c =
    let took = c.in_ok-answer_timed-in-Item.ensures in (
      taken c.steps.world c.answer_timed.new.world c.in-Item.item c.steps.invariant.0 took.world,
      λ talks timed bytes items m fed shows.
          let h = c.steps.invariant.1 talks timed bytes items m fed shows in
          let gives = c.in-Item.ensures.step bytes (items ++ h.more) h.fed in
          heard_more m bytes items c.steps.world c.answer_timed.new.world c.steps.script.fed c.go_on.new.self.fed (g.K.Sink.holds c.args.sink.now) (g.K.Sink.holds c.steps.sink) (g.K.Sink.holds c.answer_timed.new.sink) c.in-Item.item h
          (subst (λ (x : Feed). HasFed x bytes ((items ++ h.more) ++ c.in-Item.item ∷ [])) (sym c.go_on.ensures) gives.fed) (took.world false _ h.shows) (took.text talks timed _ h.shows),
    )
