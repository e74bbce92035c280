use Rattle.std.proofs.Common.{◌≡◌, ◌≤◌, true, length, refl, sym, subst, ◌∙◌}
use Rattle.lt_face.specs.Limits.{most_variables}
use Rattle.lt_model.specs.Variables.{variables, body_of}
use Rattle.lt_model.specs.Check.{all_bound, normal_body}
use Rattle.lt_check.proofs.Bodies.{Takes_body, names_taken, statement_taken, body_same}
use Rattle.lt_check.proofs.Heads.{front_of_all}
use Rattle.lt_check.proofs.Statements.{code_23, no_code, bound_by_names, normal_is}
use Rattle.lt_check.proofs.statement.check_statement.Goals as goal

pub look-requires-clause-names : goal.look-requires-clause-names
look-requires-clause-names c =
    let taken = Takes_body c.args.schema.now c.body_of.result.now (body_of c.args.statement.now) c.take_front.new.notes c.take_body.new.notes c.body_of.ensures c.in_ok-body.ensures.takes in
    names_taken c.args.statement.now c.clear.new.self c.take_front.new.notes c.take_body.new.notes _ _ c.clear.ensures.names c.in_ok-front.ensures.takes taken

pub look-requires-clause-taken : goal.look-requires-clause-taken
look-requires-clause-taken c =
    let taken = Takes_body c.args.schema.now c.body_of.result.now (body_of c.args.statement.now) c.take_front.new.notes c.take_body.new.notes c.body_of.ensures c.in_ok-body.ensures.takes in
    statement_taken c.args.schema.now c.args.statement.now c.clear.new.self c.take_front.new.notes c.take_body.new.notes c.clear.ensures.names c.clear.ensures.known c.clear.ensures.calm c.requires.few_variables c.in_ok-front.ensures.takes taken

pub returns-then-not-bound-clause-bad : goal.returns-then-not-bound-clause-bad
returns-then-not-bound-clause-bad c =
    let schema = c.args.schema.now in
    let s = c.args.statement.now in
    let names = c.look.new.self.notes.names in
    let taken = Takes_body schema c.body_of.result.now (body_of s) c.take_front.new.notes c.take_body.new.notes c.body_of.ensures c.in_ok-body.ensures.takes in
    let all : c.take_body.new.notes.names ≡ variables s = names_taken s c.clear.new.self c.take_front.new.notes c.take_body.new.notes _ _ c.clear.ensures.names c.in_ok-front.ensures.takes taken in
    let few : length c.take_body.new.notes.names ≤ most_variables = subst (λ ns. length ns ≤ most_variables) (sym all) c.requires.few_variables in
    let body : c.in_ok-body.body ≡ normal_body schema names (body_of s) = body_same schema c.take_body.new.notes.names names c.body_of.result.now (body_of s) c.in_ok-body.body few c.in_ok-body.ensures.body c.in_ok-look.ensures.names c.body_of.ensures in
    let bound : c.in_ok-bound.bound ≡ all_bound schema s = c.in_ok-bound.ensures ∙ bound_by_names schema s names c.in_ok-body.body (c.in_ok-look.ensures.names ∙ all) body in
    rw c.bad.ensures (code_23 schema s c.look.new.self.notes.known c.in_ok-look.ensures.formed c.in_ok-look.ensures.kinds (sym bound ∙ c.if-not-bound.true), refl)

pub returns-clause-good : goal.returns-clause-good
returns-clause-good c =
    let schema = c.args.schema.now in
    let s = c.args.statement.now in
    let names = c.look.new.self.notes.names in
    let taken = Takes_body schema c.body_of.result.now (body_of s) c.take_front.new.notes c.take_body.new.notes c.body_of.ensures c.in_ok-body.ensures.takes in
    let all : c.take_body.new.notes.names ≡ variables s = names_taken s c.clear.new.self c.take_front.new.notes c.take_body.new.notes _ _ c.clear.ensures.names c.in_ok-front.ensures.takes taken in
    let few : length c.take_body.new.notes.names ≤ most_variables = subst (λ ns. length ns ≤ most_variables) (sym all) c.requires.few_variables in
    let body : c.in_ok-body.body ≡ normal_body schema names (body_of s) = body_same schema c.take_body.new.notes.names names c.body_of.result.now (body_of s) c.in_ok-body.body few c.in_ok-body.ensures.body c.in_ok-look.ensures.names c.body_of.ensures in
    let bound : c.in_ok-bound.bound ≡ all_bound schema s = c.in_ok-bound.ensures ∙ bound_by_names schema s names c.in_ok-body.body (c.in_ok-look.ensures.names ∙ all) body in
    let is_bound : all_bound schema s ≡ true = sym bound ∙ c.if-not-bound.false in
    let front = front_of_all schema s c.in_ok-front.front _ _ c.take_front.new.notes c.take_body.new.notes names c.in_ok-look.ensures.names few c.in_ok-front.ensures.front taken in
    (no_code schema s c.look.new.self.notes.known c.in_ok-look.ensures.formed c.in_ok-look.ensures.kinds is_bound, normal_is schema s c.look.new.self.notes.known names c.in_ok-body.body c.in_ok-stmt.stmt c.in_ok-look.ensures.kinds is_bound (c.in_ok-look.ensures.names ∙ all) body (c.in_ok-stmt.ensures schema front))
