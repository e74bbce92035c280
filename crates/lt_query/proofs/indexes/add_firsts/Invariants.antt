use Rattle.std.proofs.Common.{◌≡◌, drop}
use Rattle.lt_query.specs.Needs.{with_names, firsts_of}
use Rattle.lt_query.proofs.indexes.add_firsts.Given as goal

abbrev pub invariant-loop-stmt : goal.invariant-loop-stmt
invariant-loop-stmt l = with_names l.names (firsts_of (drop l.stmt-index l.stmts)) ≡ with_names l.fn.names (firsts_of l.stmts)
