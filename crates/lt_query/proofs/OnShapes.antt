-- Plans don't hang on the cells of constants.
use Rattle.std.specs.Prelude.{◌≡◌, ℕ, zero, suc, ◌+◌, ◌==◌, ◌||◌, true, false, List, [], ◌∷◌, ◌++◌, map}
use Rattle.std.proofs.Common.{refl, sym, ap, ◌∙◌, cond, subst}
use Rattle.std.proofs.lemmas.List.{length-map, map-append}
use Rattle.lt_model.specs.declared.normal.Term.{Term}
use Rattle.lt_model.specs.declared.normal.Term.TheVariants.{Var, Cell}
use Rattle.lt_model.specs.declared.normal.Atom.{Atom}
use Rattle.lt_model.specs.declared.syntax.Op.TheVariants.{Eq}
use Rattle.lt_model.specs.declared.normal.Test.{Test}
use Rattle.lt_model.specs.declared.normal.Test.TheVariants.{Cmp}
use Rattle.lt_model.specs.declared.normal.Body.{Body}
use Rattle.lt_model.specs.declared.normal.Stmt.{Stmt}
use Rattle.lt_model.specs.declared.normal.Stmt.TheVariants.{Insert, Delete, Replace, Require, Print}
use Rattle.lt_model.specs.Bound.{is_var, stands}
use Rattle.lt_model.specs.Forms.{on_normal, on_atom, on_test, on_body, on_stmt}
use Rattle.lt_query.specs.declared.places.Place.{Place}
use Rattle.lt_query.specs.declared.plans.Guide.{Guide}
use Rattle.lt_query.specs.Filling.{on_level, on_plan, ShapeStays, RouteStays, WidthsStay, PlanFollows}
use Rattle.lt_query.specs.LevelsOf.{constants_of, first_place, pins_of, ties_of, levels_from}
use Rattle.lt_query.specs.Needs.{body_of}
use Rattle.lt_query.specs.Order.{stands_again, places_in, places_of, place_at, terms_at}
use Rattle.lt_query.specs.Planned.{route_of}
use Rattle.lt_query.specs.Runnable.{IsWidth, AreAtomsWide, HasWidths}
use Rattle.lt_query.specs.Shape.{blank, blank_atom, blank_test, shape_of, plan_of, order_of, filled}
use Rattle.lt_query.proofs.ByShape.{one_route}
use Rattle.lt_query.proofs.SameShape.{filled-shape}

-- ---- shapes

through : {A B C : Type 0} (p : B → C) (q : A → C) (g : A → B) → ((x : A) → p (g x) ≡ q x) → (xs : List A) → map p (map g xs) ≡ map q xs
through p q g e [] = refl
through p q g e (x ∷ xs) = ap (λ y. y ∷ map p (map g xs)) (e x) ∙ ap (λ w. q x ∷ w) (through p q g e xs)

blank-on : (f : ℕ → ℕ) (t : Term) → blank (on_normal f t) ≡ blank t
blank-on f (Var v) = refl
blank-on f (Cell c) = refl

blank_atom-on : (f : ℕ → ℕ) (atom : Atom) → blank_atom (on_atom f atom) ≡ blank_atom atom
blank_atom-on f atom = ap (λ ts. record { relation = atom.relation; terms = ts }) (through blank blank (on_normal f) (blank-on f) atom.terms)

blank_test-on : (f : ℕ → ℕ) (test : Test) → blank_test (on_test f test) ≡ blank_test test
blank_test-on f (Cmp (Var v) Eq (Cell c)) = refl
blank_test-on f test = refl

pub shape_stays : ShapeStays
shape_stays f body =
    ap (λ atoms. record { atoms = atoms; absents = []; tests = map blank_test (map (on_test f) body.tests); vars = 0 }) (through blank_atom blank_atom (on_atom f) (blank_atom-on f) body.atoms)
    ∙ ap (λ tests. record { atoms = map blank_atom body.atoms; absents = []; tests = tests; vars = 0 }) (through blank_test blank_test (on_test f) (blank_test-on f) body.tests)

pub body_of-on : (f : ℕ → ℕ) (stmt : Stmt) → body_of (on_stmt f stmt) ≡ on_body f (body_of stmt)
body_of-on f (Insert head keys body) = refl
body_of-on f (Delete head body) = refl
body_of-on f (Replace gone come keys body) = refl
body_of-on f (Require some body) = refl
body_of-on f (Print terms kinds body) = refl

pub route_stays : RouteStays
route_stays f stmt = ap route_of (body_of-on f stmt) ∙ one_route (on_body f (body_of stmt)) (body_of stmt) (shape_stays f (body_of stmt))

-- ---- widths

wide-on : (f : ℕ → ℕ) (atoms : List Atom) → AreAtomsWide atoms → AreAtomsWide (map (on_atom f) atoms)
wide-on f [] all = all
wide-on f (atom ∷ atoms) all = (subst IsWidth (sym (length-map atom.terms (on_normal f))) all.0, wide-on f atoms all.1)

pub widths_stay : WidthsStay
widths_stay f stmt wide = subst HasWidths (sym (body_of-on f stmt)) (wide-on f (body_of stmt).atoms wide.0, wide-on f (body_of stmt).absents wide.1)

-- ---- places

abbrev on_place : (ℕ → ℕ) → Place → Place
on_place f place = record { term = on_normal f place.term; again = place.again }

is_var-on : (f : ℕ → ℕ) (v : ℕ) (t : Term) → is_var v (on_normal f t) ≡ is_var v t
is_var-on f v (Var u) = refl
is_var-on f v (Cell c) = refl

stands-on : (f : ℕ → ℕ) (ts : List Term) (v : ℕ) → stands (map (on_normal f) ts) v ≡ stands ts v
stands-on f [] v = refl
stands-on f (t ∷ ts) v = ap (λ b. b || stands (map (on_normal f) ts) v) (is_var-on f v t) ∙ ap (λ b. is_var v t || b) (stands-on f ts v)

again-on : (f : ℕ → ℕ) (before : List Term) (t : Term) → stands_again (map (on_normal f) before) (on_normal f t) ≡ stands_again before t
again-on f before (Var v) = stands-on f before v
again-on f before (Cell c) = refl

places_in-on : (f : ℕ → ℕ) (before ts : List Term) → places_in (map (on_normal f) before) (map (on_normal f) ts) ≡ map (on_place f) (places_in before ts)
places_in-on f before [] = refl
places_in-on f before (t ∷ ts) =
    ap (λ b. record { term = on_normal f t; again = b } ∷ places_in (map (on_normal f) before ++ on_normal f t ∷ []) (map (on_normal f) ts)) (again-on f before t)
    ∙ ap (λ w. record { term = on_normal f t; again = stands_again before t } ∷ w) (ap (λ w. places_in w (map (on_normal f) ts)) (sym (map-append (on_normal f) before (t ∷ []))) ∙ places_in-on f (before ++ t ∷ []) ts)

places_of-on : (f : ℕ → ℕ) (atoms : List Atom) → places_of (map (on_atom f) atoms) ≡ map (on_place f) (places_of atoms)
places_of-on f [] = refl
places_of-on f (atom ∷ atoms) =
    ap (λ w. w ++ places_of (map (on_atom f) atoms)) (places_in-on f [] atom.terms)
    ∙ (ap (λ w. map (on_place f) (places_in [] atom.terms) ++ w) (places_of-on f atoms) ∙ sym (map-append (on_place f) (places_in [] atom.terms) (places_of atoms)))

place_at-on : (f : ℕ → ℕ) (places : List Place) (p : ℕ) → place_at (map (on_place f) places) p ≡ on_place f (place_at places p)
place_at-on f [] p = refl
place_at-on f (place ∷ places) zero = refl
place_at-on f (place ∷ places) (suc p) = place_at-on f places p

terms-on : (f : ℕ → ℕ) (places : List Place) (order : List ℕ) → terms_at (map (on_place f) places) order ≡ map (on_normal f) (terms_at places order)
terms-on f places [] = refl
terms-on f places (p ∷ order) =
    ap (λ (place : Place). place.term ∷ terms_at (map (on_place f) places) order) (place_at-on f places p) ∙ ap (λ w. on_normal f (place_at places p).term ∷ w) (terms-on f places order)

-- ---- levels

constants-on : (f : ℕ → ℕ) (tests : List Test) (v : ℕ) → constants_of (map (on_test f) tests) v ≡ map f (constants_of tests v)
constants-on f [] v = refl
constants-on f (Cmp (Var u) Eq (Cell c) ∷ tests) v =
    elim (u == v) as (λ b. cond b (f c ∷ constants_of (map (on_test f) tests) v) (constants_of (map (on_test f) tests) v) ≡ map f (cond b (c ∷ constants_of tests v) (constants_of tests v)))
    [ true ↦ ap (λ w. f c ∷ w) (constants-on f tests v) | false ↦ constants-on f tests v ]
constants-on f (test ∷ tests) v = constants-on f tests v

pins_of-on : (f : ℕ → ℕ) (tests : List Test) (seen : List Term) (t : Term) → pins_of (map (on_test f) tests) (map (on_normal f) seen) (on_normal f t) ≡ map f (pins_of tests seen t)
pins_of-on f tests seen (Cell c) = refl
pins_of-on f tests seen (Var v) =
    ap (λ b. cond b [] (constants_of (map (on_test f) tests) v)) (stands-on f seen v)
    ∙ elim (stands seen v) as (λ b. cond b [] (constants_of (map (on_test f) tests) v) ≡ map f (cond b [] (constants_of tests v))) [ true ↦ refl | false ↦ constants-on f tests v ]

first_place-on : (f : ℕ → ℕ) (l : ℕ) (seen : List Term) (v : ℕ) → first_place l (map (on_normal f) seen) v ≡ first_place l seen v
first_place-on f l [] v = refl
first_place-on f l (t ∷ ts) v =
    ap (λ b. cond b (l ∷ []) (first_place (l + 1) (map (on_normal f) ts) v)) (is_var-on f v t) ∙ ap (λ w. cond (is_var v t) (l ∷ []) w) (first_place-on f (l + 1) ts v)

ties_of-on : (f : ℕ → ℕ) (seen : List Term) (t : Term) → ties_of (map (on_normal f) seen) (on_normal f t) ≡ ties_of seen t
ties_of-on f seen (Cell c) = refl
ties_of-on f seen (Var v) = first_place-on f 0 seen v

levels-on : (f : ℕ → ℕ) (tests : List Test) (seen ts : List Term) → levels_from (map (on_test f) tests) (map (on_normal f) seen) (map (on_normal f) ts) ≡ map (on_level f) (levels_from tests seen ts)
levels-on f tests seen [] = refl
levels-on f tests seen (t ∷ ts) =
    let rest = levels_from (map (on_test f) tests) (map (on_normal f) seen ++ on_normal f t ∷ []) (map (on_normal f) ts) in
    ap (λ pins. record { term = on_normal f t; pins = pins; ties = ties_of (map (on_normal f) seen) (on_normal f t) } ∷ rest) (pins_of-on f tests seen t)
    ∙ (ap (λ ties. record { term = on_normal f t; pins = map f (pins_of tests seen t); ties = ties } ∷ rest) (ties_of-on f seen t)
    ∙ ap (λ w. on_level f (record { term = t; pins = pins_of tests seen t; ties = ties_of seen t }) ∷ w)
    (ap (λ w. levels_from (map (on_test f) tests) w (map (on_normal f) ts)) (sym (map-append (on_normal f) seen (t ∷ []))) ∙ levels-on f tests (seen ++ t ∷ []) ts))

-- ---- plans

filled-on : (f : ℕ → ℕ) (body : Body) (order : List ℕ) (guides : List Guide) → filled (on_body f body) order guides ≡ on_plan f (filled body order guides)
filled-on f body order guides =
    ap (λ places. record { levels = levels_from (map (on_test f) body.tests) [] (terms_at places order); guides = guides }) (places_of-on f body.atoms)
    ∙ (ap (λ ts. record { levels = levels_from (map (on_test f) body.tests) [] ts; guides = guides }) (terms-on f (places_of body.atoms) order)
    ∙ ap (λ levels. record { levels = levels; guides = guides }) (levels-on f body.tests [] (terms_at (places_of body.atoms) order)))

pub plan_follows : PlanFollows
plan_follows f body =
    sym (filled-shape (on_body f body))
    ∙ (ap (λ (shape : Body). filled (on_body f body) (order_of shape) (plan_of shape).guides) (shape_stays f body)
    ∙ (filled-on f body (order_of (shape_of body)) (plan_of (shape_of body)).guides ∙ ap (on_plan f) (filled-shape body)))
