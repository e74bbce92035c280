use Rattle.std.proofs.Common.{◌∙◌}
use Rattle.std.proofs.lemmas.Result.{err_from_is_err_and}
use Rattle.lt_script.specs.Ahead.{shapes}
use Rattle.lt_script.proofs.Titled.{ends_at_statements, ends_at_end, ends_at_semicolon, whole_program}
use Rattle.lt_script.proofs.cursor.Cursor.program.Goals as goal

pub returns-in_err-statements : goal.returns-in_err-statements
returns-in_err-statements c =
    let p = err_from_is_err_and c.from_residual-in_err-statements.result c.from_residual-in_err-statements.ensures.1 in
    rw (p.1, p.2)
    (ends_at_statements (shapes c.args.self.now) (shapes c.word.new.self) (shapes c.title.new.self) c.in_ok-name.name.bytes.now c.title.new.statements.items c.in_ok-word.ensures.0 c.in_ok-name.ensures.titled c.in_err-statements.field-0.0 (shapes c.statements.new.self) c.in_err-statements.ensures.0, c.in_err-statements.ensures.1 ∙ c.title.ensures.source ∙ c.in_ok-word.ensures.1)

pub returns-in_err-word-2 : goal.returns-in_err-word-2
returns-in_err-word-2 c =
    let p = err_from_is_err_and c.from_residual-in_err-word-2.result c.from_residual-in_err-word-2.ensures.1 in
    rw (p.1, p.2)
    (ends_at_end (shapes c.args.self.now) (shapes c.word.new.self) (shapes c.title.new.self) c.in_ok-name.name.bytes.now c.title.new.statements.items c.in_ok-word.ensures.0 c.in_ok-name.ensures.titled c.statements.new.statements.items (shapes c.statements.new.self) c.in_ok-statements.ensures.0 c.in_err-word-2.field-0.0 (shapes c.word-2.new.self) c.in_err-word-2.ensures.0, c.in_err-word-2.ensures.1 ∙ c.in_ok-statements.ensures.1 ∙ c.title.ensures.source ∙ c.in_ok-word.ensures.1)

pub returns-in_err-sign : goal.returns-in_err-sign
returns-in_err-sign c =
    let p = err_from_is_err_and c.from_residual-in_err-sign.result c.from_residual-in_err-sign.ensures.1 in
    rw (p.1, p.2)
    (ends_at_semicolon (shapes c.args.self.now) (shapes c.word.new.self) (shapes c.title.new.self) c.in_ok-name.name.bytes.now c.title.new.statements.items c.in_ok-word.ensures.0 c.in_ok-name.ensures.titled c.statements.new.statements.items (shapes c.statements.new.self) c.in_ok-statements.ensures.0 (shapes c.word-2.new.self) c.in_ok-word-2.ensures.0 c.in_err-sign.field-0.0 (shapes c.sign.new.self) c.in_err-sign.ensures.0, c.in_err-sign.ensures.1 ∙ c.in_ok-word-2.ensures.1 ∙ c.in_ok-statements.ensures.1 ∙ c.title.ensures.source ∙ c.in_ok-word.ensures.1)

pub returns : goal.returns
returns c =
    rw (c.to_name.ensures, c.from_vec.ensures)
    (whole_program (shapes c.args.self.now) (shapes c.word.new.self) (shapes c.title.new.self) c.in_ok-name.name.bytes.now c.title.new.statements.items c.in_ok-word.ensures.0 c.in_ok-name.ensures.titled c.statements.new.statements.items (shapes c.statements.new.self) c.in_ok-statements.ensures.0 (shapes c.word-2.new.self) c.in_ok-word-2.ensures.0 (shapes c.sign.new.self) c.in_ok-sign.ensures.0, c.in_ok-sign.ensures.1 ∙ c.in_ok-word-2.ensures.1 ∙ c.in_ok-statements.ensures.1 ∙ c.title.ensures.source ∙ c.in_ok-word.ensures.1)
