use Rattle.std.proofs.Common.{◌≡◌}
use Rattle.lt_readers.specs.Boards.{posted, poster_board}
use Rattle.lt_runs.specs.Posting.{HasPosted}
use Rattle.lt_runs.proofs.beside.posting.post_each.Given as goal

abbrev pub invariant-loop-batch : goal.invariant-loop-batch
invariant-loop-batch g l = record {
  can_next : (goal.iterator-loop-batch g).can_next l.batch-iterator;
  is_finite : (goal.iterator-loop-batch g).is_finite l.batch-iterator;
  so_far : HasPosted l.fn.come l.yielded (posted l.fn.poster) (posted l.poster) l.come;
  board : poster_board l.poster ≡ poster_board l.fn.poster;
}
