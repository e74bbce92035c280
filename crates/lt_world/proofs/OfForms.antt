-- Statements by forms that were checked.
use Rattle.std.proofs.Common.{◌≡◌, ℕ, List, Some, sym, ap, ◌∙◌}
use Rattle.std.specs.Prelude.{slice_get}
use Rattle.lt_model.specs.declared.normal.Stmt.{Stmt}
use Rattle.lt_model.specs.declared.syntax.Statement.{Statement}
use Rattle.lt_model.specs.Check.{normal}
use Rattle.lt_model.specs.Forms.{put, filled}
use Rattle.lt_model.specs.Laws.{NormalFollows}
use Rattle.lt_model.specs.Schema.{Schema}
use Rattle.lt_query.specs.Filling.{RouteStays}
use Rattle.lt_query.specs.Needs.{body_of}
use Rattle.lt_query.specs.Planned.{route_of}

-- what stands at a place where the normal form of a form's statement stands has the form's route
pub same_route : (schema : Schema) (form given old : Statement) (cells : List ℕ) (stmt : Stmt) → NormalFollows → RouteStays → form ≡ given → filled given cells ≡ old → stmt ≡ normal schema form
    → (program : List Stmt) (place : ℕ) → slice_get program place ≡ Some (normal schema old) → (there : Stmt) → slice_get program place ≡ Some there → route_of (body_of stmt) ≡ route_of (body_of there)
same_route schema form given old cells stmt follows stays same whole is program place at there found =
    let one : normal schema old ≡ there = let both : Some (normal schema old) ≡ Some there = sym at ∙ found in cc in
    ap (λ (s : Stmt). route_of (body_of s)) (is ∙ ap (normal schema) same)
    ∙ (sym (stays (put cells) (normal schema given))
    ∙ ap (λ (s : Stmt). route_of (body_of s)) (sym (follows schema given (put cells)) ∙ (ap (normal schema) whole ∙ one)))
