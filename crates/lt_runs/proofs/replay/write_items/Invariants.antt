use Rattle.std.proofs.Common.{List, ℕ, length}
use Rattle.std.specs.declared.option.Option.{Option}
use Rattle.lt_script.specs.Feed.{kept_of}
use Rattle.lt_runs.specs.ReplaySteps.{IsBegun}
use Rattle.lt_runs.proofs.ReplayStanding.{StandsReplayed}
use Rattle.lt_runs.proofs.Steps.{left_to_do}
use Rattle.lt_runs.proofs.replay.write_items.Given as goal

abbrev pub invariant-steps : goal.invariant-steps
invariant-steps g l =
    (left : Option (List ℕ)) → IsBegun l.fn.session.blocks.items l.fn.count l.fn.feed left (g.S.Source.left l.fn.source)
    → StandsReplayed l.marks l.session.blocks.items l.feed l.session.world l.taken left (g.S.Source.left l.source) (g.S.Source.faults l.fn.source) (g.S.Source.faults l.source) (g.K.Sink.holds l.fn.sink) (g.K.Sink.holds l.sink)
    (g.K.Sink.faults l.fn.sink) (g.K.Sink.faults l.sink)

abbrev pub decreases-steps : goal.decreases-steps
decreases-steps g l = left_to_do l.taken.ended l.taken.count (length (kept_of l.feed))
