use Rattle.std.proofs.Common.{rules, ◌∙◌}
use Rattle.std.specs.Prelude.{FitsSigned}
use Rattle.std.specs.Int.{w128}
use Rattle.std.proofs.lemmas.Int.{to_z-of_z}
use Rattle.lt_runs.proofs.Summing.{all_run}
use Rattle.lt_runs.proofs.bench.summarize.Goals as goal

pub returns : goal.returns
returns g c =
    let asked = c.args.generated in
    let ran = c.in_ok-ran.ensures in
    let left_fits : FitsSigned w128 c.total.result = search rules in
    let sold_fits : FitsSigned w128 c.total-2.result = search rules in
    rw (to_z-of_z w128 c.total.result left_fits, to_z-of_z w128 c.total-2.result sold_fits)
    (all_run asked.seed asked.items asked.programs asked.readers c.into_vec.result.items _ c.total.result c.total-2.result _ _ (c.into_vec.ensures ∙ c.in_ok-script.ensures.script) ran.come ran.programs c.total.ensures c.total-2.ensures ran.reads ran.equal)
