use Rattle.std.proofs.Common.{◌-◌, length, sym, ap, ◌∙◌, arith}
use Rattle.std.specs.Ordering.{is_lt}
use Rattle.lt_flat.proofs.Searches.{searched, below}
use Rattle.lt_shared.proofs.Parts.{absent-behind}
use Rattle.lt_shared.proofs.rows.search.Goals as goal

pub returns-clause-found : goal.returns-clause-found
returns-clause-found c = (searched c.args.rows.now c.args.row.now c.requires.rises c.binary_search.result c.binary_search.ensures.bound c.binary_search.ensures.position).found

pub returns-clause-absent : goal.returns-clause-absent
returns-clause-absent c = (searched c.args.rows.now c.args.row.now c.requires.rises c.binary_search.result c.binary_search.ensures.bound c.binary_search.ensures.position).absent

pub returns-then-is_lt-clause-absent : goal.returns-then-is_lt-clause-absent
returns-then-is_lt-clause-absent c =
    let rows = c.args.rows.now in
    absent-behind rows c.index-rows-rows.result c.args.row.now (length rows - 1) c.requires.rises (omega (arith, c.requires.some)) c.index-rows-rows.is
    (below _ (ap is_lt (sym c.cmp.ensures) ∙ sym c.is_lt.ensures ∙ c.if-is_lt.true))
