use Rattle.std.proofs.Common.{List, ◌++◌, false, subst}
use Rattle.lt_model.specs.Report.{step}
use Rattle.lt_gen.specs.Answered.{Answer}
use Rattle.lt_gen.specs.Counted.{Counts}
use Rattle.lt_world.specs.World.{now_of, Shows}
use Rattle.lt_runs.proofs.Summing.{answers_now, now_step}
use Rattle.lt_runs.proofs.bench.count_item.Goals as goal

pub returns-clause-world : goal.returns-clause-world
returns-clause-world g c = λ m s.
    subst (Shows c.forget_versions.new.self) (now_step m c.args.item) (c.in_ok-forget_versions.ensures (step false (now_of m) c.args.item) (c.in_ok-count_kept.ensures.world false (now_of m) s))

pub returns-clause-counts : goal.returns-clause-counts
returns-clause-counts g c = λ m answers s h.
    subst (λ (xs : List Answer). Counts c.count_kept.new.summary (answers ++ xs)) (answers_now m c.args.item) (c.in_ok-count_kept.ensures.counts (now_of m) answers s h)
