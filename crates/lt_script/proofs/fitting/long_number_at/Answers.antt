use Rattle.std.proofs.Common.{rules, false, length, ap, arith}
use Rattle.lt_model.specs.Grammar.{digits_value}
use Rattle.lt_grammar.specs.Grammar.{past}
use Rattle.lt_script.proofs.Spelled.{digits_there, in_range, same_cell}
use Rattle.lt_script.proofs.fitting.long_number_at.Goals as goal

pub returns : goal.returns
returns c =
    let digits = c.split_at.result.0.now in
    let is = in_range (digits_value digits) (past false) c.in_ok-number.number (search rules) in
    (digits, search rules, ((λ e. omega (arith, ap length e, c.split_at.ensures.front_len, c.if-len-eq0.false)), digits_there c.args.bytes.now digits _ c.split_at.ensures.front c.digits_len-len.ensures.len, is.0, same_cell _ _ _ _ c.int_cell.ensures is.1))
