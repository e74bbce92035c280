use Rattle.std.proofs.Common.{◌≡◌, rules, sym, subst}
use Rattle.lt_model.specs.declared.syntax.Program.{Program}
use Rattle.lt_model.specs.Limits.{IsProgramWithin}
use Rattle.lt_gen.specs.Programs.{stock_query}
use Rattle.lt_gen.proofs.Within.{query_within}
use Rattle.lt_gen.proofs.statements.stock_query.Goals as goal

pub returns-clause-within : goal.returns-clause-within
returns-clause-within c =
    let made : Program = record { name = c.from_bytes.result; statements = c.push.new.self } in
    let same : made ≡ stock_query = search rules in
    subst IsProgramWithin (sym same) query_within
