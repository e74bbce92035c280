use Rattle.std.proofs.Common.{List, arith, subst, sym}
use Rattle.std.specs.Io.KnownBytes.{Appends}
use Rattle.lt_blocks.specs.declared.block.Block.{Block}
use Rattle.lt_blocks.specs.Blocks.{blocks_text}
use Rattle.lt_report.specs.Puts.{AppendsFront}
use Rattle.lt_runs.specs.declared.status.Status.{Status}
use Rattle.lt_runs.specs.TracedEnds.{RunEndsAs}
use Rattle.lt_runs.proofs.TracedEnds.{by_stop, ends_cut, ends_done, ends_faulty}
use Rattle.lt_session.proofs.repair.run_script.Goals as goal

pub returns-in-Err : goal.returns-in-Err
returns-in-Err g c =
    let o = c.args.options in
    subst (λ (status : Status). RunEndsAs o.trace o.marks status (g.S.Source.left c.args.source.now) (g.S.Source.left c.write_report.new.source) (g.S.Source.faults c.args.source.now) (g.S.Source.faults c.write_report.new.source)
    (g.K.Sink.holds c.args.sink.now) (g.K.Sink.holds c.write_report.new.sink) (g.K.Sink.faults c.args.sink.now) (g.K.Sink.faults c.write_report.new.sink)) (sym c.status_of.ensures)
    (by_stop o.marks _ _ _ _ _ _ _ _ o.trace c.in-Err.stop c.in-Err.ensures.err)

pub returns-in_default : goal.returns-in_default
returns-in_default g c =
    let o = c.args.options in
    let run = c.in-Ok.ensures.ok in
    let i = g.K.Sink.holds c.write_report.new.sink in
    let j = g.K.Sink.holds c.write_blocks.new.sink in
    ends_cut o.marks _ _ _ i j run.0 run.1 c.in-Ok.ended.1.items (subst (λ (bs : List Block). AppendsFront i j (blocks_text bs)) c.deref.ensures.value c.in_default.ensures.err) _ _ _ _
    (omega (arith, c.write_report.ensures.later, c.in_default.ensures.cause.failed)) o.trace c.in-Ok.ended.0 run.2

pub returns-then-faulty : goal.returns-then-faulty
returns-then-faulty g c =
    let o = c.args.options in
    let run = c.in-Ok.ensures.ok in
    let i = g.K.Sink.holds c.write_report.new.sink in
    let j = g.K.Sink.holds c.write_blocks.new.sink in
    ends_faulty o.marks _ _ _ i j run.0 run.1 c.in-Ok.ended.1.items (subst (λ (bs : List Block). Appends i j (blocks_text bs)) c.deref.ensures.value c.in-Ok-write_blocks.ensures.ok) _ _ _ _ o.trace c.in-Ok.ended.0 run.2 c.if-faulty.true

pub returns : goal.returns
returns g c =
    let o = c.args.options in
    let run = c.in-Ok.ensures.ok in
    let i = g.K.Sink.holds c.write_report.new.sink in
    let j = g.K.Sink.holds c.write_blocks.new.sink in
    ends_done o.marks _ _ _ i j run.0 run.1 c.in-Ok.ended.1.items (subst (λ (bs : List Block). Appends i j (blocks_text bs)) c.deref.ensures.value c.in-Ok-write_blocks.ensures.ok) _ _ _ _ o.trace c.in-Ok.ended.0 run.2 c.if-faulty.false
