use Rattle.std.proofs.Common.{◌≤◌, ◌+◌, length}
use Rattle.lt_script.specs.Names.{body_names, statement_names}
use Rattle.lt_script.proofs.Counting.{few_in_rule, few_in_two, behind_fewer, behind_both}
use Rattle.lt_script.proofs.names.room_behind_statement.Goals as goal

pub returns-in-Insert : goal.returns-in-Insert
returns-in-Insert c =
    let few : length (statement_names c.args.statement.now) ≤ length c.as_slice.result.now + length (body_names c.as_slice-in-Insert.result.now) =
    rw (c.in-Insert.is, c.as_slice.ensures, c.as_slice-in-Insert.ensures) (few_in_rule c.in-Insert.head.terms c.in-Insert.body) in
    behind_fewer _ _ _ _ few c.room_behind_rule.ensures

pub returns-in-Delete : goal.returns-in-Delete
returns-in-Delete c =
    let few : length (statement_names c.args.statement.now) ≤ length c.as_slice-in-Delete.result.now + length (body_names c.as_slice-in-Delete-2.result.now) =
    rw (c.in-Delete.is, c.as_slice-in-Delete.ensures, c.as_slice-in-Delete-2.ensures) (few_in_rule c.in-Delete.head.terms c.in-Delete.body) in
    behind_fewer _ _ _ _ few c.room_behind_rule-in-Delete.ensures

pub returns-in-Print : goal.returns-in-Print
returns-in-Print c =
    let few : length (statement_names c.args.statement.now) ≤ length c.as_slice-in-Print.result.now + length (body_names c.as_slice-in-Print-2.result.now) =
    rw (c.in-Print.is, c.as_slice-in-Print.ensures, c.as_slice-in-Print-2.ensures) (few_in_rule c.in-Print.terms c.in-Print.body) in
    behind_fewer _ _ _ _ few c.room_behind_rule-in-Print.ensures

pub returns-in_ok-left-in-Replace : goal.returns-in_ok-left-in-Replace
returns-in_ok-left-in-Replace c =
    let few : length (statement_names c.args.statement.now) ≤ length c.as_slice-in-Replace.result.now + (length c.as_slice-in-Replace-2.result.now + length (body_names c.as_slice-in-Replace-3.result.now)) =
    rw (c.in-Replace.is, c.as_slice-in-Replace.ensures, c.as_slice-in-Replace-2.ensures, c.as_slice-in-Replace-3.ensures) (few_in_two c.in-Replace.gone.terms c.in-Replace.come.terms c.in-Replace.body) in
    behind_both _ _ _ _ _ _ few c.in_ok-left-in-Replace.ensures c.room_behind_rule-in-Replace.ensures
