-- The check of a statement that is kept by a form.
use Rattle.std.proofs.Common.{◌≡◌, ℕ, List, None, sym, ap, ◌∙◌}
use Rattle.lt_model.specs.declared.normal.Stmt.{Stmt}
use Rattle.lt_model.specs.declared.syntax.Statement.{Statement}
use Rattle.lt_model.specs.Check.{code_of, normal}
use Rattle.lt_model.specs.Forms.{put, filled, filled_stmt}
use Rattle.lt_model.specs.Laws.{CodeStays, NormalFollows}
use Rattle.lt_model.specs.Schema.{Schema}

-- the code of the form is that of the statement
pub form_code : (schema : Schema) (given form wording : Statement) (cells : List ℕ) → CodeStays → given ≡ form → filled form cells ≡ wording → code_of schema given ≡ code_of schema wording
form_code schema given form wording cells stays same whole = ap (code_of schema) same ∙ (sym (stays schema form (put cells)) ∙ ap (code_of schema) whole)

-- the normal form of the form, filled, is that of the statement
pub form_good : (schema : Schema) (given form wording : Statement) (stmt made : Stmt) (cells slice : List ℕ) → CodeStays → NormalFollows → given ≡ form → slice ≡ cells → filled form cells ≡ wording
    → (code_of schema given ≡ None) × (stmt ≡ normal schema given) → made ≡ filled_stmt stmt slice → (code_of schema wording ≡ None) × (made ≡ normal schema wording)
form_good schema given form wording stmt made cells slice stays follows same all whole good is = (
  sym (form_code schema given form wording cells stays same whole) ∙ good.0,
  is ∙ (ap (filled_stmt stmt) all ∙ (ap (λ (s : Stmt). filled_stmt s cells) (good.1 ∙ ap (normal schema) same) ∙ (sym (follows schema form (put cells)) ∙ ap (normal schema) whole))),
)
