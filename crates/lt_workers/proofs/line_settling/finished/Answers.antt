use Rattle.std.proofs.Common.{◌≡◌, ◌∙◌, arith, length, ap, sym, subst}
use Rattle.lt_circuit.specs.Line.{line_state}
use Rattle.lt_circuit.specs.Row.{sizes}
use Rattle.lt_workers.specs.Given.{HasGiven}
use Rattle.lt_workers.proofs.Finals.{gave_some, gave_some_later, gave_all, settled_past}
use Rattle.lt_workers.proofs.line_settling.finished.Goals as goal

pub give_up_to-requires-clause-past : goal.give_up_to-requires-clause-past
give_up_to-requires-clause-past g c = λ lifetimes outlive. settled_past (line_state c.in_ok-line.line) _ c.in_ok-line.ensures.settled

pub give_up_to-requires-clause-base : goal.give_up_to-requires-clause-base
give_up_to-requires-clause-base g c = λ lifetimes outlive. λ m fits. c.requires.base m (subst (λ w. g.W.LeafWork.fits w m) c.in_ok-line.ensures.work fits)

pub returns-in_err-line-clause-some : goal.returns-in_err-line-clause-some
returns-in_err-line-clause-some g c = λ before h. gave_some g.W.LeafWork.does c.args.line before _ _ c.journal-before.ensures.replay h

pub returns-in_err-give_up_to-clause-some : goal.returns-in_err-give_up_to-clause-some
returns-in_err-give_up_to-clause-some g c = λ before h.
    let same = c.in_ok-line.ensures.sizes in
    let there = c.in_ok-line.ensures.given (g.O.OnFinal.given c.args.on.now) c.args.count before h in
    let gave = c.give_up_to.ensures.given before (subst (λ n. HasGiven n before (g.O.OnFinal.given c.args.on.now) c.args.count (line_state c.in_ok-line.line)) (sym same) there) in
    gave_some_later g.W.LeafWork.does c.args.line c.in_ok-line.line c.in_ok-line.ensures.work same before (g.O.OnFinal.given c.give_up_to.new.on) c.give_up_to.new.count c.journal-after.ensures.replay (subst (λ n. HasGiven n before (g.O.OnFinal.given c.give_up_to.new.on) c.give_up_to.new.count (line_state c.in_ok-line.line)) same gave)

pub returns-clause-some : goal.returns-clause-some
returns-clause-some g c = λ before h.
    let same = c.in_ok-line.ensures.sizes in
    let there = c.in_ok-line.ensures.given (g.O.OnFinal.given c.args.on.now) c.args.count before h in
    let gave = c.give_up_to.ensures.given before (subst (λ n. HasGiven n before (g.O.OnFinal.given c.args.on.now) c.args.count (line_state c.in_ok-line.line)) (sym same) there) in
    gave_some_later g.W.LeafWork.does c.args.line c.in_ok-line.line c.in_ok-line.ensures.work same before (g.O.OnFinal.given c.give_up_to.new.on) c.give_up_to.new.count c.journal-after.ensures.replay (subst (λ n. HasGiven n before (g.O.OnFinal.given c.give_up_to.new.on) c.give_up_to.new.count (line_state c.in_ok-line.line)) same gave)

pub returns-clause-given : goal.returns-clause-given
returns-clause-given g c = λ before h.
    let same = c.in_ok-line.ensures.sizes in
    let there = c.in_ok-line.ensures.given (g.O.OnFinal.given c.args.on.now) c.args.count before h in
    let gave = c.give_up_to.ensures.given before (subst (λ n. HasGiven n before (g.O.OnFinal.given c.args.on.now) c.args.count (line_state c.in_ok-line.line)) (sym same) there) in
    let long : c.segment_count-segments.result ≡ length (sizes c.args.line.row) = c.segment_count-segments.ensures.value ∙ ap length same in
    let all : c.give_up_to.new.count ≡ length (sizes c.args.line.row) = c.in_ok-give_up_to.ensures.all (let within = there.within in omega (arith, within, long)) ∙ long in
    gave_all (sizes c.args.line.row) before (g.O.OnFinal.given c.give_up_to.new.on) c.give_up_to.new.count (line_state c.in_ok-line.line) all (subst (λ n. HasGiven n before (g.O.OnFinal.given c.give_up_to.new.on) c.give_up_to.new.count (line_state c.in_ok-line.line)) same gave)
