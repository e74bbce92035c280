use Rattle.std.proofs.Common.{◌∙◌, ◌∷◌, ◌++◌, [], Err, ap, refl, sym, subst, arith}
use Rattle.std.specs.Prelude.{fold, length}
use Rattle.std.proofs.lemmas.Result.{err_from_is_err_and}
use Rattle.lt_model.specs.Report.{opening, step}
use Rattle.lt_script.specs.declared.feed.Feed.{Feed}
use Rattle.lt_script.specs.Feed.{HasFed, kept_of}
use Rattle.lt_world.specs.Lines.{items_of}
use Rattle.lt_runs.specs.Waiting.{held}
use Rattle.lt_runs.proofs.Ends.{by_halt, none_taken, stopped}
use Rattle.lt_runs.proofs.Held.{ready_first, ready_none}
use Rattle.lt_runs.proofs.Standing.{fed_more, less_more, part_here, part_next, ran_fault_written, ran_part_fault, ran_written, stands_first, stands_more, stands_none, stands_on, stands_run, stops_going}
use Rattle.lt_runs.proofs.Steps.{less_kept}
use Rattle.lt_runs.proofs.script.write_report.Goals as goal

pub returns-in_err-session-clause-err : goal.returns-in_err-session-clause-err
returns-in_err-session-clause-err g c =
    let r = c.from_residual in
    let p = err_from_is_err_and r.result r.ensures.1 in
    stopped r.result p.0 _ p.1 p.2 _ _ _ _ _ _ _ _ _
    (none_taken c.args.options.marks _ _)

pub steps-init : goal.steps-init
steps-init g c = (
  stands_none (held c.in_ok-session.session) (ap items_of c.in_ok-session.ensures.waiting)
      (stands_first c.args.options.trace _ c.in_ok-session.ensures.none c.args.options.marks c.new-feed.result c.in_ok-session.session.made.world _ _ _ _ _ c.new-feed.ensures.fed c.new-feed.ensures.«open» c.in_ok-session.ensures.shows refl refl),
  ready_first c.args.options c.in_ok-session.session c.requires.pipeline.0 c.in_ok-session.ensures.shows c.in_ok-session.ensures.waiting,
)

pub returns-in_err-take-in-Item-clause-err : goal.returns-in_err-take-in-Item-clause-err
returns-in_err-take-in-Item-clause-err g c =
    let at = c.steps.invariant.0 in
    let session = c.steps.session in
    let gives = c.in-Item.ensures.step at.bytes (at.items ++ held session) at.fed in
    let more = held session ++ c.in-Item.item ∷ [] in
    let fed = fed_more _ _ _ _ _ _ _ _ _ _ _ _ _ _ _ at c.next_step.new.self c.in-Item.item gives in
    let wrote = c.in_err-take-in-Item.ensures.answers (fold (step c.args.options.marks) opening at.items) at.shows in
    let r = c.from_residual-in_err-take-in-Item in
    let p = err_from_is_err_and r.result r.ensures.1 in
    stopped r.result p.0 _ p.1 p.2 _ _ _ _ _ _ _ _ _
    (by_halt c.args.options.marks _ _ _ _ _ _ _ _ c.in_err-take-in-Item.field-0.0 (part_next _ _ _ _ _ _ _ _ _ _ _ _ _ _ _ at c.next_step.new.self more _ fed wrote.err) (λ e. omega (arith, at.did.later, wrote.failed (ap (λ h. Err h) e))))

pub steps-preserved-else-is_inside : goal.steps-preserved-else-is_inside
steps-preserved-else-is_inside g c =
    let at = c.steps.invariant.0 in
    let session = c.steps.session in
    let gives = c.in-Item.ensures.step at.bytes (at.items ++ held session) at.fed in
    let more = held session ++ c.in-Item.item ∷ [] in
    let fed = fed_more _ _ _ _ _ _ _ _ _ _ _ _ _ _ _ at c.next_step.new.self c.in-Item.item gives in
    let wrote = c.in_ok-take-in-Item.ensures.answers (fold (step c.args.options.marks) opening at.items) at.shows in
    let next = stands_on _ _ _ _ _ _ _ _ _ _ _ _ _ _ _ at c.next_step.new.self c.take.new.self.made.world c.take.new.self.made.blocks.items more wrote.ok.front (held c.take.new.self) _ _ fed c.in-Item.ensures.ended wrote.ok.parts wrote.ok.shows wrote.ok.written wrote.later wrote.ok.kept in
    (next, c.in_ok-take-in-Item.ensures.ready)

pub returns-in_err-taken-in-Item-clause-err : goal.returns-in_err-taken-in-Item-clause-err
returns-in_err-taken-in-Item-clause-err g c =
    let at = c.steps.invariant.0 in
    let session = c.steps.session in
    let gives = c.in-Item.ensures.step at.bytes (at.items ++ held session) at.fed in
    let more = held session ++ c.in-Item.item ∷ [] in
    let fed = fed_more _ _ _ _ _ _ _ _ _ _ _ _ _ _ _ at c.next_step.new.self c.in-Item.item gives in
    let wrote = c.in_ok-take-in-Item.ensures.answers (fold (step c.args.options.marks) opening at.items) at.shows in
    let next = stands_on _ _ _ _ _ _ _ _ _ _ _ _ _ _ _ at c.next_step.new.self c.take.new.self.made.world c.take.new.self.made.blocks.items more wrote.ok.front (held c.take.new.self) _ _ fed c.in-Item.ensures.ended wrote.ok.parts wrote.ok.shows wrote.ok.written wrote.later wrote.ok.kept in
    let before = next.ended ∙ c.is_inside.ensures c.if-is_inside.true in
    let went = c.in_err-taken-in-Item.ensures in
    let r = c.from_residual-in_err-taken-in-Item in
    let p = err_from_is_err_and r.result r.ensures.1 in
    stopped r.result p.0 _ p.1 p.2 _ _ _ _ _ _ _ _ _
    (stops_going _ _ _ _ _ _ _ _ _ _ _ _ _ _ _ next c.next_step.new.self c.in_err-taken-in-Item.field-0.0 _ _ _ _ next.fed before went.err went.later went.bytes went.sink_later)

pub steps-smaller-then-is_inside : goal.steps-smaller-then-is_inside
steps-smaller-then-is_inside g c =
    let at = c.steps.invariant.0 in
    let session = c.steps.session in
    let gives = c.in-Item.ensures.step at.bytes (at.items ++ held session) at.fed in
    let more = held session ++ c.in-Item.item ∷ [] in
    let fed = fed_more _ _ _ _ _ _ _ _ _ _ _ _ _ _ _ at c.next_step.new.self c.in-Item.item gives in
    let wrote = c.in_ok-take-in-Item.ensures.answers (fold (step c.args.options.marks) opening at.items) at.shows in
    let next = stands_on _ _ _ _ _ _ _ _ _ _ _ _ _ _ _ at c.next_step.new.self c.take.new.self.made.world c.take.new.self.made.blocks.items more wrote.ok.front (held c.take.new.self) _ _ fed c.in-Item.ensures.ended wrote.ok.parts wrote.ok.shows wrote.ok.written wrote.later wrote.ok.kept in
    let before = next.ended ∙ c.is_inside.ensures c.if-is_inside.true in
    let less = less_kept c.steps.taken.ended c.steps.taken.count (length (kept_of c.steps.feed)) (length (kept_of c.next_step.new.self)) gives.shorter in
    let fewer = less_more _ _ _ _ _ _ _ _ _ _ _ _ _ _ _ next c.next_step.new.self c.go_on.new.feed c.in_ok-taken-in-Item.taken _ next.fed before c.in_ok-taken-in-Item.ensures.ok in
    omega (arith, less, fewer)

pub steps-preserved-then-is_inside : goal.steps-preserved-then-is_inside
steps-preserved-then-is_inside g c =
    let at = c.steps.invariant.0 in
    let session = c.steps.session in
    let gives = c.in-Item.ensures.step at.bytes (at.items ++ held session) at.fed in
    let more = held session ++ c.in-Item.item ∷ [] in
    let fed = fed_more _ _ _ _ _ _ _ _ _ _ _ _ _ _ _ at c.next_step.new.self c.in-Item.item gives in
    let wrote = c.in_ok-take-in-Item.ensures.answers (fold (step c.args.options.marks) opening at.items) at.shows in
    let next = stands_on _ _ _ _ _ _ _ _ _ _ _ _ _ _ _ at c.next_step.new.self c.take.new.self.made.world c.take.new.self.made.blocks.items more wrote.ok.front (held c.take.new.self) _ _ fed c.in-Item.ensures.ended wrote.ok.parts wrote.ok.shows wrote.ok.written wrote.later wrote.ok.kept in
    let went = c.in_ok-taken-in-Item.ensures in
    (stands_more _ _ _ _ _ _ _ _ _ _ _ _ _ _ _ next c.next_step.new.self c.go_on.new.feed c.in_ok-taken-in-Item.taken _ _ _ _ next.fed went.ok went.later went.bytes went.sink_later, c.in_ok-take-in-Item.ensures.ready)

pub returns-in_err-taken-in-More-clause-err : goal.returns-in_err-taken-in-More-clause-err
returns-in_err-taken-in-More-clause-err g c =
    let at = c.steps.invariant.0 in
    let session = c.steps.session in
    let asked = c.in-More.ensures.step at.bytes (at.items ++ held session) at.fed in
    let fed = subst (λ (f : Feed). HasFed f at.bytes (at.items ++ held session)) (sym asked.2) at.fed in
    let went = c.in_err-taken-in-More.ensures in
    let r = c.from_residual-in_err-taken-in-More in
    let p = err_from_is_err_and r.result r.ensures.1 in
    stopped r.result p.0 _ p.1 p.2 _ _ _ _ _ _ _ _ _
    (stops_going _ _ _ _ _ _ _ _ _ _ _ _ _ _ _ at c.next_step.new.self c.in_err-taken-in-More.field-0.0 _ _ _ _ fed (c.in-More.ensures.ended ∙ asked.0) went.err went.later went.bytes went.sink_later)

pub steps-smaller-in-More : goal.steps-smaller-in-More
steps-smaller-in-More g c =
    let at = c.steps.invariant.0 in
    let session = c.steps.session in
    let asked = c.in-More.ensures.step at.bytes (at.items ++ held session) at.fed in
    let fed = subst (λ (f : Feed). HasFed f at.bytes (at.items ++ held session)) (sym asked.2) at.fed in
    less_more _ _ _ _ _ _ _ _ _ _ _ _ _ _ _ at c.next_step.new.self c.go_on-in-More.new.feed c.in_ok-taken-in-More.taken _ fed asked.0 c.in_ok-taken-in-More.ensures.ok

pub steps-preserved-in-More : goal.steps-preserved-in-More
steps-preserved-in-More g c =
    let at = c.steps.invariant.0 in
    let session = c.steps.session in
    let asked = c.in-More.ensures.step at.bytes (at.items ++ held session) at.fed in
    let fed = subst (λ (f : Feed). HasFed f at.bytes (at.items ++ held session)) (sym asked.2) at.fed in
    let went = c.in_ok-taken-in-More.ensures in
    (stands_more _ _ _ _ _ _ _ _ _ _ _ _ _ _ _ at c.next_step.new.self c.go_on-in-More.new.feed c.in_ok-taken-in-More.taken _ _ _ _ fed went.ok went.later went.bytes went.sink_later, c.steps.invariant.1)

pub returns-in_err-run_waiting-in-End-clause-err : goal.returns-in_err-run_waiting-in-End-clause-err
returns-in_err-run_waiting-in-End-clause-err g c =
    let at = c.steps.invariant.0 in
    let session = c.steps.session in
    let wrote = c.in_err-run_waiting-in-End.ensures.text (fold (step c.args.options.marks) opening at.items) at.shows in
    let r = c.from_residual-in_err-run_waiting-in-End in
    let p = err_from_is_err_and r.result r.ensures.1 in
    stopped r.result p.0 _ p.1 p.2 _ _ _ _ _ _ _ _ _
    (by_halt c.args.options.marks _ _ _ _ _ _ _ _ c.in_err-run_waiting-in-End.field-0.0 (part_next _ _ _ _ _ _ _ _ _ _ _ _ _ _ _ at c.steps.feed (held session) _ at.fed wrote.err) (λ e. omega (arith, at.did.later, wrote.failed (ap (λ h. Err h) e))))

pub returns-in-End-clause-ok : goal.returns-in-End-clause-ok
returns-in-End-clause-ok g c =
    let at = c.steps.invariant.0 in
    let session = c.steps.session in
    let ends = c.in-End.ensures.step at.bytes (at.items ++ held session) at.fed in
    let ran = c.in_ok-run_waiting-in-End.ensures in
    ran_written _ _ _ _ _ _ _ _ _ _ _ _ _ _ _ at _ c.run_waiting.new.self.made.blocks.items _ _ (ran.text (fold (step c.args.options.marks) opening at.items) at.shows) (ap (λ bs. bs.items) ran.blocks) (λ traced. ap items_of (c.steps.invariant.1.alone traced)) ends.0 ends.1

pub returns-in_err-run_waiting-in-Fault-clause-err : goal.returns-in_err-run_waiting-in-Fault-clause-err
returns-in_err-run_waiting-in-Fault-clause-err g c =
    let at = c.steps.invariant.0 in
    let session = c.steps.session in
    let faults = c.in-Fault.ensures.step at.bytes (at.items ++ held session) at.fed in
    let wrote = c.in_err-run_waiting-in-Fault.ensures.text (fold (step c.args.options.marks) opening at.items) at.shows in
    let r = c.from_residual-in_err-run_waiting-in-Fault in
    let p = err_from_is_err_and r.result r.ensures.1 in
    stopped r.result p.0 _ p.1 p.2 _ _ _ _ _ _ _ _ _
    (by_halt c.args.options.marks _ _ _ _ _ _ _ _ c.in_err-run_waiting-in-Fault.field-0.0 (part_next _ _ _ _ _ _ _ _ _ _ _ _ _ _ _ at c.next_step.new.self (held session) _ faults.1 wrote.err) (λ e. omega (arith, at.did.later, wrote.failed (ap (λ h. Err h) e))))

pub returns-in_err-put_fault-in-Fault-clause-err : goal.returns-in_err-put_fault-in-Fault-clause-err
returns-in_err-put_fault-in-Fault-clause-err g c =
    let at = c.steps.invariant.0 in
    let session = c.steps.session in
    let faults = c.in-Fault.ensures.step at.bytes (at.items ++ held session) at.fed in
    let ran = c.in_ok-run_waiting-in-Fault.ensures in
    let said = ran.text (fold (step c.args.options.marks) opening at.items) at.shows in
    let wrote = c.in_err-put_fault-in-Fault.ensures in
    let r = c.from_residual-in_err-put_fault-in-Fault in
    let p = err_from_is_err_and r.result r.ensures.1 in
    stopped r.result p.0 _ p.1 p.2 _ _ _ _ _ _ _ _ _
    (omega (arith, at.did.later, said.later, wrote.cause.failed), ran_part_fault _ _ _ _ _ _ _ _ _ _ _ _ _ _ _ at _ c.run_waiting-in-Fault.new.self.made.blocks.items _ _ said (ap (λ bs. bs.items) ran.blocks) (λ traced. ap items_of (c.steps.invariant.1.alone traced)) c.in-Fault.line c.in-Fault.code faults.0 _ wrote.err)

pub returns-then-taken-clause-ok : goal.returns-then-taken-clause-ok
returns-then-taken-clause-ok g c =
    let at = c.steps.invariant.0 in
    let session = c.steps.session in
    let faults = c.in-Fault.ensures.step at.bytes (at.items ++ held session) at.fed in
    let ran = c.in_ok-run_waiting-in-Fault.ensures in
    let said = ran.text (fold (step c.args.options.marks) opening at.items) at.shows in
    ran_fault_written _ _ _ _ _ _ _ _ _ _ _ _ _ _ _ at _ c.run_waiting-in-Fault.new.self.made.blocks.items _ _ said (ap (λ bs. bs.items) ran.blocks) (λ traced. ap items_of (c.steps.invariant.1.alone traced)) c.in-Fault.line c.in-Fault.code faults.0 _ c.if-taken.true c.in_ok-put_fault-in-Fault.ensures.ok

pub returns-in_err-taken-in-Fault-clause-err : goal.returns-in_err-taken-in-Fault-clause-err
returns-in_err-taken-in-Fault-clause-err g c =
    let at = c.steps.invariant.0 in
    let session = c.steps.session in
    let faults = c.in-Fault.ensures.step at.bytes (at.items ++ held session) at.fed in
    let ran = c.in_ok-run_waiting-in-Fault.ensures in
    let next = stands_run _ _ _ _ _ _ _ _ _ _ _ _ _ _ _ at _ c.next_step.new.self c.run_waiting-in-Fault.new.self.made.world c.run_waiting-in-Fault.new.self.made.blocks.items _ _ faults.1 c.in-Fault.ensures.ended (ran.world c.args.options.marks (fold (step c.args.options.marks) opening at.items) at.shows) (ran.text (fold (step c.args.options.marks) opening at.items) at.shows) (ap (λ bs. bs.items) ran.blocks) (λ traced. ap items_of (c.steps.invariant.1.alone traced)) in
    let before = next.ended ∙ c.if-taken.false in
    let went = c.in_err-taken-in-Fault.ensures in
    let r = c.from_residual-in_err-taken-in-Fault in
    let p = err_from_is_err_and r.result r.ensures.1 in
    stopped r.result p.0 _ p.1 p.2 _ _ _ _ _ _ _ _ _
    (stops_going _ _ _ _ _ _ _ _ _ _ _ _ _ _ _ next c.next_step.new.self c.in_err-taken-in-Fault.field-0.0 _ _ _ _ next.fed before went.err went.later went.bytes went.sink_later)

pub steps-smaller : goal.steps-smaller
steps-smaller g c =
    let at = c.steps.invariant.0 in
    let session = c.steps.session in
    let faults = c.in-Fault.ensures.step at.bytes (at.items ++ held session) at.fed in
    less_more _ _ _ _ _ _ _ _ _ _ _ _ _ _ _ at c.next_step.new.self c.go_on-in-Fault.new.feed c.in_ok-taken-in-Fault.taken _ faults.1 (at.ended ∙ c.if-taken.false) c.in_ok-taken-in-Fault.ensures.ok

pub steps-preserved : goal.steps-preserved
steps-preserved g c =
    let at = c.steps.invariant.0 in
    let session = c.steps.session in
    let faults = c.in-Fault.ensures.step at.bytes (at.items ++ held session) at.fed in
    let ran = c.in_ok-run_waiting-in-Fault.ensures in
    let next = stands_run _ _ _ _ _ _ _ _ _ _ _ _ _ _ _ at _ c.next_step.new.self c.run_waiting-in-Fault.new.self.made.world c.run_waiting-in-Fault.new.self.made.blocks.items _ _ faults.1 c.in-Fault.ensures.ended (ran.world c.args.options.marks (fold (step c.args.options.marks) opening at.items) at.shows) (ran.text (fold (step c.args.options.marks) opening at.items) at.shows) (ap (λ bs. bs.items) ran.blocks) (λ traced. ap items_of (c.steps.invariant.1.alone traced)) in
    let went = c.in_ok-taken-in-Fault.ensures in (
      stands_none (held c.run_waiting-in-Fault.new.self) (ap items_of ran.waiting) (stands_more _ _ _ _ _ _ _ _ _ _ _ _ _ _ _ next c.next_step.new.self c.go_on-in-Fault.new.feed c.in_ok-taken-in-Fault.taken _ _ _ _ next.fed went.ok went.later went.bytes went.sink_later),
      ready_none c.args.options c.run_waiting-in-Fault.new.self c.requires.pipeline.0 (record { model = _; shows = next.shows }) ran.waiting,
    )

pub returns-in-NoMemory-clause-err : goal.returns-in-NoMemory-clause-err
returns-in-NoMemory-clause-err g c =
    part_here _ _ _ _ _ _ _ _ _ _ _ _ _ _ _ c.steps.invariant.0
