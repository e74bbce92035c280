use Rattle.std.proofs.Common.{◌<◌, ◌≤◌, take, All}
use Rattle.lt_face.specs.Limits.{most_workers}
use Rattle.lt_picture.proofs.batch.Batch.lanes.Given as goal

abbrev pub invariant-loop-bar : goal.invariant-loop-bar
invariant-loop-bar l = record {
  some : 1 ≤ l.lanes;
  few : l.lanes ≤ most_workers;
  all : All (λ bar. bar.worker < l.lanes) (take l.bar-index l.self.bars.items);
}
