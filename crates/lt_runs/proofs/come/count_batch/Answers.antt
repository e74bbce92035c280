use Rattle.std.proofs.Common.{◌≡◌, false, List, ◌++◌, map, sym, subst}
use Rattle.lt_model.specs.declared.syntax.Item.TheVariants.{Batch}
use Rattle.lt_gen.specs.Answered.{Answer, answers_to}
use Rattle.lt_gen.specs.Counted.{Counts}
use Rattle.lt_world.specs.Batches.{checked_of}
use Rattle.lt_runs.specs.Counting.{answered_by}
use Rattle.lt_runs.proofs.Counting.{run_answers, run_few}
use Rattle.lt_runs.proofs.come.count_batch.Goals as goal

pub count_programs-requires-clause-few : goal.count_programs-requires-clause-few
count_programs-requires-clause-few g c = rw c.as_slice-replies.ensures (run_few c.args.world.now c.args.programs.now false c.in_ok-ran.ran c.in_ok-ran.ensures.ran c.requires.within)

pub returns-clause-counts : goal.returns-clause-counts
returns-clause-counts g c = λ m answers s h.
    let ran = c.in_ok-ran.ran in
    let here : answers_to m (Batch c.args.programs.now) ≡ answered_by c.args.programs.now (map checked_of ran.judgements.items) ran.replies =
    run_answers c.args.world.now m s c.args.programs.now false ran c.in_ok-ran.ensures.ran in
    let counted : answers_to m (Batch c.args.programs.now) ≡ answered_by c.args.programs.now (map checked_of c.deref.result.now) c.as_slice-replies.result.now =
    rw (c.deref.ensures.value, c.as_slice-replies.ensures) here in
    subst (λ (xs : List Answer). Counts c.count_programs.new.summary (answers ++ xs)) (sym counted) (c.count_programs.ensures.counts answers h)
