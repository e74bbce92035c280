use Rattle.std.proofs.Common.{List, ◌∙◌, ap, rules}
use Rattle.std.specs.Prelude.{FitsSigned}
use Rattle.std.specs.Int.{w128}
use Rattle.std.proofs.lemmas.Int.{to_z-of_z}
use Rattle.lt_gen.specs.Summaries.{column_sum, rows_named}
use Rattle.lt_runs.proofs.Summing.{rows_found}
use Rattle.lt_runs.proofs.bench.total.Goals as goal

pub returns-in-Some : goal.returns-in-Some
returns-in-Some c = λ m s.
    let fits : FitsSigned w128 c.column_sum.result = search rules in
    let name = c.from_bytes-name.result in
    to_z-of_z w128 c.column_sum.result fits
    ∙ c.column_sum.ensures
    ∙ ap (column_sum c.args.column) (rows_found c.args.world.now m s name c.in-Some.number c.rows.result c.in-Some.ensures c.rows.ensures)
    ∙ ap (λ (n : List _). column_sum c.args.column (rows_named m n)) c.from_bytes-name.ensures
