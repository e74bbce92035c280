use Rattle.std.proofs.Common.{◌≡◌, ◌∙◌, List, Err, ap, sym, subst, refl, arith}
use Rattle.std.specs.Prelude.{fold, length}
use Rattle.std.proofs.lemmas.Result.{err_from_is_err_and}
use Rattle.std.specs.Io.KnownBytes.{Appends}
use Rattle.lt_base.specs.Tables.{Table}
use Rattle.lt_model.specs.Report.{opening, step}
use Rattle.lt_report.specs.Puts.{AppendsFront}
use Rattle.lt_report.specs.Traces.{bad_trace_text}
use Rattle.lt_script.specs.declared.feed.Feed.{Feed}
use Rattle.lt_script.specs.Feed.{HasFed, kept_of}
use Rattle.lt_runs.specs.declared.replay.Verdict.{Verdict}
use Rattle.lt_runs.specs.ReplayEnds.{IsReplayWritten}
use Rattle.lt_runs.proofs.ReplayEnded.{stopped_behind}
use Rattle.lt_runs.proofs.ReplayStanding.{end_part, end_written, fault_part, fault_written, less_more, part_here, part_item, refused_stops, refused_written, stands_first, stands_item, stands_more, stops_going}
use Rattle.lt_runs.proofs.Steps.{less_kept}
use Rattle.lt_world.proofs.Versions.{count}
use Rattle.lt_runs.proofs.replay.write_items.Goals as goal

pub steps-init : goal.steps-init
steps-init g c =
    λ left begun. stands_first c.args.marks _ _ _ _ _ _ _ _ _ c.args.count begun c.requires.world refl refl

pub take-requires-clause-world : goal.take-requires-clause-world
take-requires-clause-world g c =
    λ lifetimes outlive.
    let at = c.steps.invariant c.requires.begun.0 c.requires.begun.1 in
    record { model = (fold (step c.args.marks) opening at.items); shows = at.shows }

pub take-requires-clause-within : goal.take-requires-clause-within
take-requires-clause-within g c =
    λ lifetimes outlive.
    let at = c.steps.invariant c.requires.begun.0 c.requires.begun.1 in
    (c.in-Item.ensures.step at.bytes at.items at.fed).within

pub steps-smaller-in-Ok : goal.steps-smaller-in-Ok
steps-smaller-in-Ok g c =
    let at = c.steps.invariant c.requires.begun.0 c.requires.begun.1 in
    less_kept c.steps.taken.ended c.steps.taken.count (length (kept_of c.steps.feed)) (length (kept_of c.next_step.new.self)) (c.in-Item.ensures.step at.bytes at.items at.fed).shorter

pub steps-preserved-in-Ok : goal.steps-preserved-in-Ok
steps-preserved-in-Ok g c =
    λ left begun.
    let at = c.steps.invariant left begun in
    let gives = c.in-Item.ensures.step at.bytes at.items at.fed in
    let same : c.take.new.self.blocks.items ≡ c.steps.session.blocks.items = rw c.in-Ok.ensures.blocks refl in
    let wrote = c.in-Ok.ensures.text (fold (step c.args.marks) opening at.items) at.shows in
    stands_item _ _ _ _ _ _ _ _ _ _ _ _ _ at _ same c.next_step.new.self c.take.new.self.world c.in-Item.item _ _ gives c.in-Item.ensures.ended c.in-Ok.ensures.world wrote.ok wrote.later
    (c.in-Ok.ensures.right (fold (step c.args.marks) opening at.items) at.shows)

pub returns-in-NoMemory-clause-err : goal.returns-in-NoMemory-clause-err
returns-in-NoMemory-clause-err g c =
    λ left begun. part_here _ _ _ _ _ _ _ _ _ _ _ _ _ (c.steps.invariant left begun)

pub go_on-requires-clause-open : goal.go_on-requires-clause-open
go_on-requires-clause-open g c =
    let at = c.steps.invariant c.requires.begun.0 c.requires.begun.1 in
    let asked = c.in-More.ensures.step at.bytes at.items at.fed in
    let fed = subst (λ (f : Feed). HasFed f at.bytes at.items) (sym asked.2) at.fed in
    c.in-More.ensures.ended ∙ asked.0

pub go_on-requires-clause-within : goal.go_on-requires-clause-within
go_on-requires-clause-within g c =
    let at = c.steps.invariant c.requires.begun.0 c.requires.begun.1 in
    at.within

pub returns-in_err-taken-in-More-clause-err : goal.returns-in_err-taken-in-More-clause-err
returns-in_err-taken-in-More-clause-err g c =
    let p = err_from_is_err_and c.from_residual-in_err-taken-in-More.result c.from_residual-in_err-taken-in-More.ensures.1 in
    stopped_behind c.from_residual-in_err-taken-in-More.result p.0 _ p.1 p.2 _ _ _ _ _ _ _ _ _ _ _ _ (λ left begun.
    let went = c.in_err-taken-in-More.ensures in
    let at = c.steps.invariant left begun in
    let asked = c.in-More.ensures.step at.bytes at.items at.fed in
    let fed = subst (λ (f : Feed). HasFed f at.bytes at.items) (sym asked.2) at.fed in
    stops_going _ _ _ _ _ _ _ _ _ _ _ _ _ at c.next_step.new.self c.in_err-taken-in-More.field-0.0 _ _ _ _ fed (c.in-More.ensures.ended ∙ asked.0) went.err went.later went.bytes went.sink_later)

pub steps-smaller-in-More : goal.steps-smaller-in-More
steps-smaller-in-More g c =
    let at = c.steps.invariant c.requires.begun.0 c.requires.begun.1 in
    let asked = c.in-More.ensures.step at.bytes at.items at.fed in
    let fed = subst (λ (f : Feed). HasFed f at.bytes at.items) (sym asked.2) at.fed in
    less_more _ _ _ _ _ _ _ _ _ _ _ _ _ at c.next_step.new.self c.go_on.new.feed c.in_ok-taken-in-More.taken _ fed asked.0 c.in_ok-taken-in-More.ensures.ok

pub steps-preserved-in-More : goal.steps-preserved-in-More
steps-preserved-in-More g c =
    λ left begun.
    let at = c.steps.invariant left begun in
    let asked = c.in-More.ensures.step at.bytes at.items at.fed in
    let fed = subst (λ (f : Feed). HasFed f at.bytes at.items) (sym asked.2) at.fed in
    let went = c.in_ok-taken-in-More.ensures in
    stands_more _ _ _ _ _ _ _ _ _ _ _ _ _ at c.next_step.new.self c.go_on.new.feed c.in_ok-taken-in-More.taken _ _ _ _ fed went.ok went.later went.bytes went.sink_later

pub close-requires : goal.close-requires
close-requires g c =
    let at = c.steps.invariant c.requires.begun.0 c.requires.begun.1 in
    record { model = (fold (step c.args.marks) opening at.items); shows = at.shows }

pub returns-in_err-verdict-in-End-clause-err : goal.returns-in_err-verdict-in-End-clause-err
returns-in_err-verdict-in-End-clause-err g c =
    let p = err_from_is_err_and c.from_residual-in_err-verdict-in-End.result c.from_residual-in_err-verdict-in-End.ensures.1 in
    stopped_behind c.from_residual-in_err-verdict-in-End.result p.0 _ p.1 p.2 _ _ _ _ _ _ _ _ _ _ _ _ (λ left begun.
    let went = c.in_err-verdict-in-End.ensures in
    let at = c.steps.invariant left begun in
    let ends = c.in-End.ensures.step at.bytes at.items at.fed in
    (omega (arith, at.did.later, went.cause.failed), end_part _ _ _ _ _ _ _ _ _ _ _ _ _ at _ ends.1 (went.part (fold (step c.args.marks) opening at.items) at.shows)))

pub returns-in-End-clause-ok : goal.returns-in-End-clause-ok
returns-in-End-clause-ok g c =
    λ left begun.
    let at = c.steps.invariant left begun in
    let ends = c.in-End.ensures.step at.bytes at.items at.fed in
    end_written _ _ _ _ _ _ _ _ _ _ _ _ _ at _ c.in_ok-verdict-in-End.verdict (sym at.ended ∙ ends.0) ends.1 (c.in_ok-verdict-in-End.ensures.ok (fold (step c.args.marks) opening at.items) at.shows)

pub returns-in_err-verdict-in-Fault-clause-err : goal.returns-in_err-verdict-in-Fault-clause-err
returns-in_err-verdict-in-Fault-clause-err g c =
    let p = err_from_is_err_and c.from_residual-in_err-verdict-in-Fault.result c.from_residual-in_err-verdict-in-Fault.ensures.1 in
    stopped_behind c.from_residual-in_err-verdict-in-Fault.result p.0 _ p.1 p.2 _ _ _ _ _ _ _ _ _ _ _ _ (λ left begun.
    let went = c.in_err-verdict-in-Fault.ensures in
    let at = c.steps.invariant left begun in
    let faults = c.in-Fault.ensures.step at.bytes at.items at.fed in
    (omega (arith, at.did.later, went.cause.failed), fault_part _ _ _ _ _ _ _ _ _ _ _ _ _ at c.in-Fault.line c.in-Fault.code faults.0 _ (went.part (fold (step c.args.marks) opening at.items) at.shows)))

pub returns-then-taken-clause-ok : goal.returns-then-taken-clause-ok
returns-then-taken-clause-ok g c =
    λ left begun.
    let at = c.steps.invariant left begun in
    let faults = c.in-Fault.ensures.step at.bytes at.items at.fed in
    fault_written _ _ _ _ _ _ _ _ _ _ _ _ _ at c.in-Fault.line c.in-Fault.code faults.0 _ c.in_ok-verdict-in-Fault.verdict c.if-taken.true (c.in_ok-verdict-in-Fault.ensures.ok (fold (step c.args.marks) opening at.items) at.shows)

pub go_on-requires-in-Fault-clause-open : goal.go_on-requires-in-Fault-clause-open
go_on-requires-in-Fault-clause-open g c =
    let at = c.steps.invariant c.requires.begun.0 c.requires.begun.1 in
    let faults = c.in-Fault.ensures.step at.bytes at.items at.fed in
    c.in-Fault.ensures.ended ∙ at.ended ∙ c.if-taken.false

pub go_on-requires-in-Fault-clause-within : goal.go_on-requires-in-Fault-clause-within
go_on-requires-in-Fault-clause-within g c =
    let at = c.steps.invariant c.requires.begun.0 c.requires.begun.1 in
    at.within

pub returns-in_err-taken-in-Fault-clause-err : goal.returns-in_err-taken-in-Fault-clause-err
returns-in_err-taken-in-Fault-clause-err g c =
    let p = err_from_is_err_and c.from_residual-in_err-taken-in-Fault.result c.from_residual-in_err-taken-in-Fault.ensures.1 in
    stopped_behind c.from_residual-in_err-taken-in-Fault.result p.0 _ p.1 p.2 _ _ _ _ _ _ _ _ _ _ _ _ (λ left begun.
    let went = c.in_err-taken-in-Fault.ensures in
    let at = c.steps.invariant left begun in
    let faults = c.in-Fault.ensures.step at.bytes at.items at.fed in
    stops_going _ _ _ _ _ _ _ _ _ _ _ _ _ at c.next_step.new.self c.in_err-taken-in-Fault.field-0.0 _ _ _ _ faults.1 (c.in-Fault.ensures.ended ∙ at.ended ∙ c.if-taken.false) went.err went.later went.bytes went.sink_later)

pub steps-smaller : goal.steps-smaller
steps-smaller g c =
    let at = c.steps.invariant c.requires.begun.0 c.requires.begun.1 in
    let faults = c.in-Fault.ensures.step at.bytes at.items at.fed in
    less_more _ _ _ _ _ _ _ _ _ _ _ _ _ at c.next_step.new.self c.go_on-in-Fault.new.feed c.in_ok-taken-in-Fault.taken _ faults.1 (at.ended ∙ c.if-taken.false) c.in_ok-taken-in-Fault.ensures.ok

pub steps-preserved : goal.steps-preserved
steps-preserved g c =
    λ left begun.
    let at = c.steps.invariant left begun in
    let faults = c.in-Fault.ensures.step at.bytes at.items at.fed in
    let went = c.in_ok-taken-in-Fault.ensures in
    stands_more _ _ _ _ _ _ _ _ _ _ _ _ _ at c.next_step.new.self c.go_on-in-Fault.new.feed c.in_ok-taken-in-Fault.taken _ _ _ _ faults.1 went.ok went.later went.bytes went.sink_later

pub returns-in_err-verdict-in-Err-Bad-clause-err : goal.returns-in_err-verdict-in-Err-Bad-clause-err
returns-in_err-verdict-in-Err-Bad-clause-err g c =
    let p = err_from_is_err_and c.from_residual.result c.from_residual.ensures.1 in
    stopped_behind c.from_residual.result p.0 _ p.1 p.2 _ _ _ _ _ _ _ _ _ _ _ _ (λ left begun.
    let went = c.in_err-verdict-in-Err-Bad.ensures in
    let at = c.steps.invariant left begun in
    let gives = c.in-Item.ensures.step at.bytes at.items at.fed in
    let wrote = c.in-Err-Bad.ensures.text (fold (step c.args.marks) opening at.items) at.shows in
    let wrong = c.in-Err-Bad.ensures.wrong c.in-Err-Bad.place c.in-Err-Bad.field-0-is (fold (step c.args.marks) opening at.items) at.shows in
    let number = c.next_batch-batch.ensures ∙ ap (λ (vs : List (List Table)). length vs) (c.in-Err-Bad.ensures.kept c.in-Err-Bad.place c.in-Err-Bad.field-0-is) ∙ count (fold (step c.args.marks) opening at.items) _ at.shows.versions in
    refused_stops _ _ _ _ _ _ _ _ _ _ _ _ _ at c.next_step.new.self c.in-Item.item c.in-Err-Bad.place _ gives wrong number c.in-Item.ensures.ended c.in_err-verdict-in-Err-Bad.field-0.0 _ _ _ _ _ _ (wrote.bad c.in-Err-Bad.place (ap (λ h. Err h) c.in-Err-Bad.field-0-is)) wrote.later went.later went.sink_later
    went.err (subst (λ n. AppendsFront (g.K.Sink.holds c.take.new.sink) (g.K.Sink.holds c.refuse.new.sink) (bad_trace_text c.next_batch-batch.result n)) c.in-Err-Bad.place-is went.part))

pub returns-in-Err-Bad-clause-ok : goal.returns-in-Err-Bad-clause-ok
returns-in-Err-Bad-clause-ok g c =
    λ left begun.
    let at = c.steps.invariant left begun in
    let gives = c.in-Item.ensures.step at.bytes at.items at.fed in
    let wrote = c.in-Err-Bad.ensures.text (fold (step c.args.marks) opening at.items) at.shows in
    let wrong = c.in-Err-Bad.ensures.wrong c.in-Err-Bad.place c.in-Err-Bad.field-0-is (fold (step c.args.marks) opening at.items) at.shows in
    let number = c.next_batch-batch.ensures ∙ ap (λ (vs : List (List Table)). length vs) (c.in-Err-Bad.ensures.kept c.in-Err-Bad.place c.in-Err-Bad.field-0-is) ∙ count (fold (step c.args.marks) opening at.items) _ at.shows.versions in
    let went = c.in_ok-verdict-in-Err-Bad.ensures in
    subst (λ (v : Verdict). IsReplayWritten c.args.marks v left (g.S.Source.left c.refuse.new.source) (g.K.Sink.holds c.args.sink.now) (g.K.Sink.holds c.refuse.new.sink)) (sym went.verdict)
    (refused_written _ _ _ _ _ _ _ _ _ _ _ _ _ at c.next_step.new.self c.in-Item.item c.in-Err-Bad.place _ gives wrong number c.in-Item.ensures.ended _ _ _ (wrote.bad c.in-Err-Bad.place (ap (λ h. Err h) c.in-Err-Bad.field-0-is)) went.ok (subst (λ n. Appends (g.K.Sink.holds c.take.new.sink) (g.K.Sink.holds c.refuse.new.sink) (bad_trace_text c.next_batch-batch.result n)) c.in-Err-Bad.place-is went.told))

pub returns-in-Err-NoMemory-clause-err : goal.returns-in-Err-NoMemory-clause-err
returns-in-Err-NoMemory-clause-err g c =
    λ left begun.
    let at = c.steps.invariant left begun in
    let gives = c.in-Item.ensures.step at.bytes at.items at.fed in
    let wrote = c.in-Err-NoMemory.ensures.text (fold (step c.args.marks) opening at.items) at.shows in
    part_item _ _ _ _ _ _ _ _ _ _ _ _ _ at c.next_step.new.self c.in-Item.item _ gives wrote.err (c.in-Err-NoMemory.ensures.part (fold (step c.args.marks) opening at.items) at.shows)

pub returns-in-Err-Failed-clause-err : goal.returns-in-Err-Failed-clause-err
returns-in-Err-Failed-clause-err g c =
    λ left begun.
    let at = c.steps.invariant left begun in
    let gives = c.in-Item.ensures.step at.bytes at.items at.fed in
    let wrote = c.in-Err-Failed.ensures.text (fold (step c.args.marks) opening at.items) at.shows in
    (omega (arith, at.did.later, wrote.failed (ap (λ h. Err h) c.in-Err-Failed.field-0-is)), part_item _ _ _ _ _ _ _ _ _ _ _ _ _ at c.next_step.new.self c.in-Item.item _ gives wrote.err (c.in-Err-Failed.ensures.part (fold (step c.args.marks) opening at.items) at.shows))

pub refuse-requires-clause-within : goal.refuse-requires-clause-within
refuse-requires-clause-within g c =
    let at = c.steps.invariant c.requires.begun.0 c.requires.begun.1 in
    at.within

pub refuse-requires-clause-end : goal.refuse-requires-clause-end
refuse-requires-clause-end g c =
    let at = c.steps.invariant c.requires.begun.0 c.requires.begun.1 in
    at.end

pub close-requires-then-taken : goal.close-requires-then-taken
close-requires-then-taken g c =
    let at = c.steps.invariant c.requires.begun.0 c.requires.begun.1 in
    record { model = fold (step c.args.marks) opening at.items; shows = at.shows }

pub returns-in_err-verdict-in-Err-Bad-clause-later : goal.returns-in_err-verdict-in-Err-Bad-clause-later
returns-in_err-verdict-in-Err-Bad-clause-later g c =
    let at = c.steps.invariant c.requires.begun.0 c.requires.begun.1 in
    let wrote = c.in-Err-Bad.ensures.text (fold (step c.args.marks) opening at.items) at.shows in
    omega (arith, at.did.later, wrote.later, c.in_err-verdict-in-Err-Bad.ensures.sink_later)

pub returns-in-Err-Bad-clause-later : goal.returns-in-Err-Bad-clause-later
returns-in-Err-Bad-clause-later g c =
    let at = c.steps.invariant c.requires.begun.0 c.requires.begun.1 in
    let wrote = c.in-Err-Bad.ensures.text (fold (step c.args.marks) opening at.items) at.shows in
    omega (arith, at.did.later, wrote.later, c.in_ok-verdict-in-Err-Bad.ensures.sink_later)

pub returns-in-Err-NoMemory-clause-later : goal.returns-in-Err-NoMemory-clause-later
returns-in-Err-NoMemory-clause-later g c =
    let at = c.steps.invariant c.requires.begun.0 c.requires.begun.1 in
    let wrote = c.in-Err-NoMemory.ensures.text (fold (step c.args.marks) opening at.items) at.shows in
    omega (arith, at.did.later, wrote.later)

pub returns-in-Err-Failed-clause-later : goal.returns-in-Err-Failed-clause-later
returns-in-Err-Failed-clause-later g c =
    let at = c.steps.invariant c.requires.begun.0 c.requires.begun.1 in
    let wrote = c.in-Err-Failed.ensures.text (fold (step c.args.marks) opening at.items) at.shows in
    omega (arith, at.did.later, wrote.later)

pub returns-in_err-taken-in-More-clause-later : goal.returns-in_err-taken-in-More-clause-later
returns-in_err-taken-in-More-clause-later g c =
    let at = c.steps.invariant c.requires.begun.0 c.requires.begun.1 in
    omega (arith, at.did.later, c.in_err-taken-in-More.ensures.sink_later)

pub returns-in_err-verdict-in-End-clause-later : goal.returns-in_err-verdict-in-End-clause-later
returns-in_err-verdict-in-End-clause-later g c =
    let at = c.steps.invariant c.requires.begun.0 c.requires.begun.1 in
    omega (arith, at.did.later, c.in_err-verdict-in-End.ensures.cause.later)

pub returns-in-End-clause-later : goal.returns-in-End-clause-later
returns-in-End-clause-later g c =
    let at = c.steps.invariant c.requires.begun.0 c.requires.begun.1 in
    omega (arith, at.did.later, c.in_ok-verdict-in-End.ensures.cause.later)

pub returns-in_err-verdict-in-Fault-clause-later : goal.returns-in_err-verdict-in-Fault-clause-later
returns-in_err-verdict-in-Fault-clause-later g c =
    let at = c.steps.invariant c.requires.begun.0 c.requires.begun.1 in
    omega (arith, at.did.later, c.in_err-verdict-in-Fault.ensures.cause.later)

pub returns-then-taken-clause-later : goal.returns-then-taken-clause-later
returns-then-taken-clause-later g c =
    let at = c.steps.invariant c.requires.begun.0 c.requires.begun.1 in
    omega (arith, at.did.later, c.in_ok-verdict-in-Fault.ensures.cause.later)

pub returns-in_err-taken-in-Fault-clause-later : goal.returns-in_err-taken-in-Fault-clause-later
returns-in_err-taken-in-Fault-clause-later g c =
    let at = c.steps.invariant c.requires.begun.0 c.requires.begun.1 in
    omega (arith, at.did.later, c.in_err-taken-in-Fault.ensures.sink_later)

pub returns-in-NoMemory-clause-later : goal.returns-in-NoMemory-clause-later
returns-in-NoMemory-clause-later g c =
    let at = c.steps.invariant c.requires.begun.0 c.requires.begun.1 in
    omega (arith, at.did.later)
