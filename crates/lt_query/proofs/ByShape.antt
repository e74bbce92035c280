-- What a shape decides of a plan, and programs with it.
use Rattle.std.specs.Prelude.{◌≡◌, ℕ, ◌+◌, ◌-◌, ◌<◌, ◌≤◌, zero, suc, List, [], ◌∷◌, ◌++◌, map, length}
use Rattle.std.specs.List.{All, AllByRecursion, slice_index_or}
use Rattle.std.proofs.Common.{refl, sym, ap, ◌∙◌, subst, arith, take, drop, get_or}
use Rattle.std.proofs.lemmas.List.{at_drop_more, drop_all, take_more, map-append, length-map, get_or-map}
use Rattle.lt_model.specs.declared.normal.Term.{Term}
use Rattle.lt_model.specs.declared.normal.Term.TheVariants.{Var}
use Rattle.lt_model.specs.declared.normal.Atom.{Atom}
use Rattle.lt_model.specs.declared.normal.Body.{Body}
use Rattle.lt_model.specs.declared.normal.Stmt.{Stmt}
use Rattle.lt_query.specs.declared.places.Place.{Place}
use Rattle.lt_query.specs.declared.plans.Guide.{Guide}
use Rattle.lt_query.specs.declared.plans.IndexName.{IndexName}
use Rattle.lt_query.specs.declared.plans.Level.{Level}
use Rattle.lt_query.specs.declared.plans.Route.{Route}
use Rattle.lt_query.specs.LevelsOf.{levels_from}
use Rattle.lt_query.specs.Needs.{body_of, index_of, with_names, names_of}
use Rattle.lt_query.specs.Order.{places_in, places_of, place_at, stated_order, terms_at}
use Rattle.lt_query.specs.Planned.{route_of, routes_of}
use Rattle.lt_query.specs.Shape.{shape_of, plan_of, order_of, filled}
use Rattle.lt_query.specs.Stated.{guides_from, stated_guides, stated_plan}
use Rattle.lt_query.proofs.LevelSteps.{places_left}
use Rattle.lt_query.proofs.Needed.{with_names-append}
use Rattle.lt_query.proofs.SameShape.{order_of-shape, guides_of-shape, filled-shape}
use Rattle.lt_query.proofs.StatedPlan.{All-order}

-- ---- routes

route_is : (body : Body) → record { order = stated_order body.tests (places_of body.atoms); guides = stated_guides body } ≡ route_of body
route_is body =
    ap (λ (o : List ℕ). record { order = o; guides = stated_guides body }) (sym (order_of-shape body)) ∙ ap (λ (g : List Guide). record { order = order_of (shape_of body); guides = g }) (sym (guides_of-shape body))

pub route_made : (body : Body) (order : List ℕ) (guides : List Guide) → order ≡ stated_order body.tests (places_of body.atoms) → guides ≡ guides_from (places_of body.atoms) order 0 body.atoms → record { order = order; guides = guides } ≡ route_of body
route_made body order guides o g =
    ap (λ (w : List Guide). record { order = order; guides = w }) (g ∙ ap (λ w. guides_from (places_of body.atoms) w 0 body.atoms) o) ∙ (ap (λ (w : List ℕ). record { order = w; guides = stated_guides body }) o ∙ route_is body)

pub route_within : (body : Body) (route : Route) → route ≡ route_of body → All (λ p. p < length (places_of body.atoms)) route.order
route_within body route is =
    subst (λ order. All (λ p. p < length (places_of body.atoms)) order) (sym (ap (λ (r : Route). r.order) is ∙ order_of-shape body)) (All-order body.tests (places_of body.atoms))

pub planned_by : (body : Body) (route : Route) (levels : List Level) (guides : List Guide) → route ≡ route_of body → levels ≡ levels_from body.tests [] (terms_at (places_of body.atoms) route.order) → guides ≡ route.guides → record { levels = levels; guides = guides } ≡ stated_plan body
planned_by body route levels guides is l g =
    ap (λ (w : List Level). record { levels = w; guides = guides }) l
    ∙ (ap (λ (w : List Guide). record { levels = levels_from body.tests [] (terms_at (places_of body.atoms) route.order); guides = w }) g
    ∙ (ap (λ (r : Route). filled body r.order r.guides) is ∙ filled-shape body))

-- bodies of one shape have one route
pub one_route : (a b : Body) → shape_of a ≡ shape_of b → route_of a ≡ route_of b
one_route a b same = ap (λ (shape : Body). record { order = order_of shape; guides = (plan_of shape).guides }) same

-- the route at a statement's place is that of its body
pub route_there : {X : Type 0} (f : X → Route) (program : List Stmt) (routes : List X) (i : ℕ) (stmt : Stmt) (route : X) → map f routes ≡ routes_of program → i < length program → i < length routes → stmt ≡ get_or program i stmt → route ≡ get_or routes i route → f route ≡ route_of (body_of stmt)
route_there f program routes i stmt route is below within at there =
    let by : Stmt → Route = λ s. route_of (body_of s) in
    ap f there ∙ (sym (get_or-map f routes i route (f route) within) ∙ (ap (λ (w : List Route). get_or w i (f route)) is ∙ (get_or-map by program i stmt (f route) below ∙ ap by (sym at))))

pub as_many : {X : Type 0} (f : X → Route) (program : List Stmt) (routes : List X) → map f routes ≡ routes_of program → length routes ≡ length program
as_many f program routes is = sym (length-map routes f) ∙ (ap length is ∙ length-map program (λ (s : Stmt). route_of (body_of s)))

routes_more : (stmts : List Stmt) (i : ℕ) (d : Stmt) (routes : List Route) (route : Route) → i < length stmts → routes ≡ routes_of (take i stmts) → route ≡ route_of (body_of (get_or stmts i d)) → routes ++ route ∷ [] ≡ routes_of (take (i + 1) stmts)
routes_more stmts i d routes route below is of =
    let here = get_or stmts i d in
    ap (λ (w : List Route). w ++ route ∷ []) is ∙ (ap (λ (r : Route). routes_of (take i stmts) ++ r ∷ []) of
    ∙ sym (ap routes_of (take_more stmts i d below) ∙ map-append (λ (s : Stmt). route_of (body_of s)) (take i stmts) (here ∷ [])))

pub each_item : {X Y : Type 0} (P : Y → Type 0) (f : X → Y) (xs : List X) (i : ℕ) (x : X) → i < length xs → x ≡ get_or xs i x → AllByRecursion P (map f xs) → P (f x)
each_item P f [] i x below at all = absurd (omega (arith, below))
each_item P f (y ∷ xs) zero x below at all = subst (λ z. P (f z)) (sym at) all.0
each_item P f (y ∷ xs) (suc i) x below at all = each_item P f xs i x (omega (arith, below)) at all.1

-- one more route
pub routes_pushed : {X : Type 0} (f : X → Route) (stmts : List Stmt) (i : ℕ) (stmt : Stmt) (old : List X) (x : X) → i < length stmts → stmt ≡ get_or stmts i stmt → map f old ≡ routes_of (take i stmts) → f x ≡ route_of (body_of stmt) → map f (old ++ x ∷ []) ≡ routes_of (take (i + 1) stmts)
routes_pushed f stmts i stmt old x below at is of =
    map-append f old (x ∷ []) ∙ routes_more stmts i stmt (map f old) (f x) below is (of ∙ ap (λ (s : Stmt). route_of (body_of s)) at)

-- ---- the indexes

abbrev pub names_by : List Route → List IndexName
names_by [] = []
names_by (route ∷ routes) = map index_of route.guides ++ names_by routes

pub names_by-routes : (program : List Stmt) → names_by (routes_of program) ≡ names_of program
names_by-routes [] = refl
names_by-routes (stmt ∷ program) =
    ap (λ (g : List Guide). map index_of g ++ names_by (routes_of program)) (guides_of-shape (body_of stmt)) ∙ ap (λ w. map index_of (stated_plan (body_of stmt)).guides ++ w) (names_by-routes program)

with_route : (names : List IndexName) (routes : List Route) (i : ℕ) (d : Route) → i < length routes → with_names names (names_by (drop i routes)) ≡ with_names (with_names names (map index_of (get_or routes i d).guides)) (names_by (drop (i + 1) routes))
with_route names routes i d h =
    at_drop_more (λ w. with_names names (names_by w)) routes i d h
    ∙ with_names-append names (map index_of (get_or routes i d).guides) (names_by (drop (i + 1) routes))

pub names_step : {X : Type 0} (f : X → Route) (xs : List X) (i : ℕ) (x : X) (names new all : List IndexName) (guides : List Guide) → i < length xs → x ≡ get_or xs i x → guides ≡ (f x).guides → new ≡ with_names names (map index_of guides)
    → with_names names (names_by (drop i (map f xs))) ≡ all → with_names new (names_by (drop (i + 1) (map f xs))) ≡ all
names_step f xs i x names new all guides below is g step so_far =
    let within : i < length (map f xs) = omega (arith, length-map xs f, below) in
    let here : get_or (map f xs) i (f x) ≡ f x = get_or-map f xs i x (f x) below ∙ ap f (sym is) in
    let rest = names_by (drop (i + 1) (map f xs)) in
    ap (λ w. with_names w rest) (step ∙ ap (λ (w : List Guide). with_names names (map index_of w)) (g ∙ ap (λ (r : Route). r.guides) (sym here)))
    ∙ (sym (with_route names (map f xs) i (f x) within) ∙ so_far)

pub names_end : {X : Type 0} (f : X → Route) (xs : List X) (program : List Stmt) (i : ℕ) (names : List IndexName) → map f xs ≡ routes_of program → length xs ≤ i → with_names names (names_by (drop i (map f xs))) ≡ with_names [] (names_by (map f xs)) → names ≡ with_names [] (names_of program)
names_end f xs program i names is over so_far =
    let past : length (map f xs) ≤ i = omega (arith, length-map xs f, over) in
    sym (ap (λ w. with_names names (names_by w)) (drop_all i (map f xs) past)) ∙ (so_far ∙ ap (with_names []) (ap names_by is ∙ names_by-routes program))

-- ---- the term at a place of the atoms

in_atom : (before ts : List Term) (rest : List Place) (p : ℕ) (d : Term) → p < length ts → (place_at (places_in before ts ++ rest) p).term ≡ slice_index_or ts p d
in_atom before [] rest p d h = absurd (omega (arith, h))
in_atom before (t ∷ ts) rest zero d h = refl
in_atom before (t ∷ ts) rest (suc p) d h = in_atom (before ++ t ∷ []) ts rest p d (omega (arith, h))

behind_atom : (before ts : List Term) (rest : List Place) (q : ℕ) → place_at (places_in before ts ++ rest) (length ts + q) ≡ place_at rest q
behind_atom before [] rest q = ap (place_at rest) (let e : 0 + q ≡ q = omega arith in e)
behind_atom before (t ∷ ts) rest q =
    ap (place_at (places_in before (t ∷ ts) ++ rest)) (let e : length (t ∷ ts) + q ≡ suc (length ts + q) = omega arith in e) ∙ behind_atom (before ++ t ∷ []) ts rest q

pub term_here : (atoms : List Atom) (i : ℕ) (atom : Atom) (ts : List Term) (left : ℕ) (here : Place) → i < length atoms → atom ≡ get_or atoms i atom → ts ≡ atom.terms → left < length ts → place_at (places_of (drop i atoms)) left ≡ here → slice_index_or ts left (Var 0) ≡ here.term
term_here atoms i atom ts left here below at terms h so_far =
    let all = (get_or atoms i atom).terms in
    let rest = places_of (drop (i + 1) atoms) in
    let same : ts ≡ all = terms ∙ ap (λ (a : Atom). a.terms) at in
    ap (λ w. slice_index_or w left (Var 0)) same
    ∙ (sym (in_atom [] all rest left (Var 0) (subst (λ w. left < length w) same h)) ∙ (sym (at_drop_more (λ w. (place_at (places_of w) left).term) atoms i atom below) ∙ ap (λ (p : Place). p.term) so_far))

pub place_after : (atoms : List Atom) (i : ℕ) (atom : Atom) (ts : List Term) (left : ℕ) (here : Place) → i < length atoms → atom ≡ get_or atoms i atom → ts ≡ atom.terms → length ts ≤ left → left < length (places_of (drop i atoms)) → place_at (places_of (drop i atoms)) left ≡ here
    → (left - length ts < length (places_of (drop (i + 1) atoms))) × (place_at (places_of (drop (i + 1) atoms)) (left - length ts) ≡ here)
place_after atoms i atom ts left here below at terms h within so_far =
    let all = (get_or atoms i atom).terms in
    let rest = places_of (drop (i + 1) atoms) in
    let n : length ts ≡ length all = ap length (terms ∙ ap (λ (a : Atom). a.terms) at) in
    let split : left ≡ length all + (left - length ts) = omega (arith, h, n) in (
      omega (arith, places_left atoms i atom below, n, within, h),
      sym (at_drop_more (λ w. place_at (places_of w) left) atoms i atom below ∙ (ap (place_at (places_in [] all ++ rest)) split ∙ behind_atom [] all rest (left - length ts))) ∙ so_far,
    )
