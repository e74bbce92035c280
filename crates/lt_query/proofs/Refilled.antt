-- A statement in the place of one of its route.
use Rattle.std.specs.Prelude.{◌≡◌, ℕ, zero, suc, List, [], ◌∷◌, map, set, slice_get, Some}
use Rattle.std.proofs.Common.{refl, sym, ap, subst, ◌∙◌}
use Rattle.lt_model.specs.declared.normal.Stmt.{Stmt}
use Rattle.lt_model.specs.Forms.{put, filled_stmt}
use Rattle.lt_query.specs.declared.plans.Route.{Route}
use Rattle.lt_query.specs.Needs.{body_of}
use Rattle.lt_query.specs.Planned.{route_of, routes_of, HaveWidths}
use Rattle.lt_query.specs.Runnable.{HasWidths}
use Rattle.lt_query.proofs.OnShapes.{route_stays, widths_stay}

pub routes_set : (stmts : List Stmt) (place : ℕ) (s : Stmt) → ((old : Stmt) → slice_get stmts place ≡ Some old → route_of (body_of s) ≡ route_of (body_of old)) → routes_of (set stmts place s) ≡ routes_of stmts
routes_set [] place s same = refl
routes_set (x ∷ xs) zero s same = ap (λ r. r ∷ routes_of xs) (same x refl)
routes_set (x ∷ xs) (suc n) s same = ap (λ w. route_of (body_of x) ∷ w) (routes_set xs n s same)

pub widths_set : (stmts : List Stmt) (place : ℕ) (s : Stmt) → HasWidths (body_of s) → HaveWidths stmts → HaveWidths (set stmts place s)
widths_set [] place s wide all = all
widths_set (x ∷ xs) zero s wide all = (wide, all.1)
widths_set (x ∷ xs) (suc n) s wide all = (all.0, widths_set xs n s wide all.1)

-- the statement at a place became that of a form of its route
pub refilled_routes : {X : Type 0} (f : X → Route) (routes : List X) (old now new : List Stmt) (place : ℕ) (form : Stmt) (cells : List ℕ) → now ≡ old → new ≡ set now place (filled_stmt form cells) → map f routes ≡ routes_of old
    → ((stmt : Stmt) → slice_get old place ≡ Some stmt → route_of (body_of form) ≡ route_of (body_of stmt)) → map f routes ≡ routes_of new
refilled_routes f routes old now new place form cells same filled are route =
    let s = filled_stmt form cells in
    are ∙ sym (ap routes_of filled ∙ (ap (λ (w : List Stmt). routes_of (set w place s)) same ∙ routes_set old place s (λ x at. route_stays (put cells) form ∙ route x at)))

pub refilled_widths : (old now new : List Stmt) (place : ℕ) (form : Stmt) (cells : List ℕ) → now ≡ old → new ≡ set now place (filled_stmt form cells) → HasWidths (body_of form) → HaveWidths old → HaveWidths new
refilled_widths old now new place form cells same filled wide all =
    let s = filled_stmt form cells in
    subst HaveWidths (sym (filled ∙ ap (λ (w : List Stmt). set w place s) same)) (widths_set old place s (widths_stay (put cells) form wide) all)
