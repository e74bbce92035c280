use Rattle.std.proofs.Common.{◌≤◌, rules}
use Rattle.lt_runs.proofs.Summing.{some_queries}
use Rattle.lt_runs.proofs.bench.run_items.Goals as goal

pub returns-clause-reads : goal.returns-clause-reads
returns-clause-reads g c =
    let some : 1 ≤ c.args.generated.readers = search rules in
    some_queries c.args.generated.readers _ some c.in_ok-come-2.ensures.reads

pub returns-clause-equal : goal.returns-clause-equal
returns-clause-equal g c =
    let some : 1 ≤ c.args.generated.readers = search rules in
    some_queries c.args.generated.readers _ some c.in_ok-come-2.ensures.equal
