-- Plans that a program keeps.
use Rattle.std.specs.Prelude.{◌≡◌, ℕ, zero, suc, ◌<◌, ◌+◌, List, [], ◌∷◌, ◌++◌, set, length, slice_get, Some, None}
use Rattle.std.proofs.Common.{refl, sym, ap, ◌∙◌, take, get_or}
use Rattle.std.proofs.lemmas.List.{take_more, map-append, length-map, get_or-map}
use Rattle.lt_model.specs.declared.normal.Body.{Body}
use Rattle.lt_model.specs.declared.normal.Stmt.{Stmt}
use Rattle.lt_model.specs.Forms.{put, filled_stmt}
use Rattle.lt_query.specs.declared.plans.Plan.{Plan}
use Rattle.lt_query.specs.declared.plans.Route.{Route}
use Rattle.lt_query.specs.Filling.{on_plan}
use Rattle.lt_query.specs.Needs.{body_of}
use Rattle.lt_query.specs.Planned.{route_of, plans_of}
use Rattle.lt_query.specs.Stated.{stated_plan}
use Rattle.lt_query.proofs.OnShapes.{body_of-on, plan_follows}
use Rattle.lt_query.proofs.SameShape.{guides_of-shape}

-- bodies of one route go through their atoms in one way
same_guides : (a b : Body) → route_of a ≡ route_of b → (stated_plan a).guides ≡ (stated_plan b).guides
same_guides a b same = sym (guides_of-shape a) ∙ (ap (λ (r : Route). r.guides) same ∙ guides_of-shape b)

-- one more plan
pub plans_pushed : (stmts : List Stmt) (i : ℕ) (stmt : Stmt) (old : List Plan) (plan : Plan) → i < length stmts → stmt ≡ get_or stmts i stmt → old ≡ plans_of (take i stmts) → plan ≡ stated_plan (body_of stmt) → old ++ plan ∷ [] ≡ plans_of (take (i + 1) stmts)
plans_pushed stmts i stmt old plan below at is of =
    let by : Stmt → Plan = λ s. stated_plan (body_of s) in
    ap (λ (w : List Plan). w ++ plan ∷ []) is
    ∙ (ap (λ (p : Plan). plans_of (take i stmts) ++ p ∷ []) (of ∙ ap by at) ∙ sym (ap plans_of (take_more stmts i stmt below) ∙ map-append by (take i stmts) (get_or stmts i stmt ∷ [])))

-- the plan at a statement's place is that of its body
pub plan_there : (stmts : List Stmt) (plans : List Plan) (i : ℕ) (stmt : Stmt) (plan : Plan) → plans ≡ plans_of stmts → i < length stmts → stmt ≡ get_or stmts i stmt → plan ≡ get_or plans i plan → plan ≡ stated_plan (body_of stmt)
plan_there stmts plans i stmt plan are below at there =
    let by : Stmt → Plan = λ s. stated_plan (body_of s) in
    there ∙ (ap (λ (w : List Plan). get_or w i plan) are ∙ (get_or-map by stmts i stmt plan below ∙ ap by (sym at)))

pub as_many_plans : (stmts : List Stmt) (plans : List Plan) → plans ≡ plans_of stmts → length plans ≡ length stmts
as_many_plans stmts plans are = ap length are ∙ length-map stmts (λ (s : Stmt). stated_plan (body_of s))

plans_set : (stmts : List Stmt) (place : ℕ) (s : Stmt) → plans_of (set stmts place s) ≡ set (plans_of stmts) place (stated_plan (body_of s))
plans_set [] place s = refl
plans_set (x ∷ xs) zero s = refl
plans_set (x ∷ xs) (suc n) s = ap (λ w. stated_plan (body_of x) ∷ w) (plans_set xs n s)

-- the plan of a form's statement with these constants
plan_filled : (form : Stmt) (cells : List ℕ) → stated_plan (body_of (filled_stmt form cells)) ≡ on_plan (put cells) (stated_plan (body_of form))
plan_filled form cells = ap stated_plan (body_of-on (put cells) form) ∙ plan_follows (put cells) (body_of form)

-- the statement at a place became that of a form, and its plan that of the form with its constants
pub refilled_plans : (old now new : List Stmt) (plans made : List Plan) (place : ℕ) (form : Stmt) (plan : Plan) (cells : List ℕ) → now ≡ old → new ≡ set now place (filled_stmt form cells) → plans ≡ plans_of old
    → plan ≡ stated_plan (body_of form) → made ≡ set plans place (on_plan (put cells) plan) → made ≡ plans_of new
refilled_plans old now new plans made place form plan cells same filled are is is_made =
    is_made
    ∙ (ap (λ (w : List Plan). set w place (on_plan (put cells) plan)) are
    ∙ (ap (λ (p : Plan). set (plans_of old) place p) (ap (on_plan (put cells)) is ∙ sym (plan_filled form cells))
    ∙ (sym (plans_set old place (filled_stmt form cells)) ∙ sym (ap plans_of (filled ∙ ap (λ (w : List Stmt). set w place (filled_stmt form cells)) same)))))

guides_there : (stmts : List Stmt) (place : ℕ) (form : Body) (plan : Plan) → ((stmt : Stmt) → slice_get stmts place ≡ Some stmt → route_of form ≡ route_of (body_of stmt)) → slice_get (plans_of stmts) place ≡ Some plan → plan.guides ≡ (stated_plan form).guides
guides_there [] place form plan same at = absurd (let none : None ≡ Some plan = at in cc)
guides_there (x ∷ xs) zero form plan same at = let here : stated_plan (body_of x) ≡ plan = cc in sym (ap (λ (p : Plan). p.guides) here) ∙ same_guides (body_of x) form (sym (same x refl))
guides_there (x ∷ xs) (suc n) form plan same at = guides_there xs n form plan same at

-- the plan at the place of a statement of the form's route goes through its atoms in the form's way
pub guides_at : (stmts : List Stmt) (plans : List Plan) (place : ℕ) (form : Body) (of_form : Plan) → plans ≡ plans_of stmts → of_form ≡ stated_plan form → ((stmt : Stmt) → slice_get stmts place ≡ Some stmt → route_of form ≡ route_of (body_of stmt))
    → (plan : Plan) → slice_get plans place ≡ Some plan → plan.guides ≡ of_form.guides
guides_at stmts plans place form of_form are is same plan at =
    guides_there stmts place form plan same (ap (λ (w : List Plan). slice_get w place) (sym are) ∙ at) ∙ ap (λ (p : Plan). p.guides) (sym is)
