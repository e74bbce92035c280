use Rattle.std.specs.Prelude.{length}
use Rattle.lt_script.specs.Feed.{kept_of}
use Rattle.lt_runs.specs.Waiting.{held, IsReady}
use Rattle.lt_runs.proofs.Standing.{Stands}
use Rattle.lt_runs.proofs.Steps.{left_to_do}
use Rattle.lt_runs.proofs.script.write_report.Given as goal

abbrev pub invariant-steps : goal.invariant-steps
invariant-steps g l =
    Stands l.options.trace l.session.made.blocks.items l.options.marks l.feed l.session.made.world (held l.session) l.taken (g.S.Source.left l.fn.source) (g.S.Source.left l.source) (g.S.Source.faults l.fn.source) (g.S.Source.faults l.source)
    (g.K.Sink.holds l.fn.sink) (g.K.Sink.holds l.sink) (g.K.Sink.faults l.fn.sink) (g.K.Sink.faults l.sink)
    × IsReady l.options l.session

abbrev pub decreases-steps : goal.decreases-steps
decreases-steps g l = left_to_do l.taken.ended l.taken.count (length (kept_of l.feed))
