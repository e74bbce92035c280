-- Bodies of one shape have one plan but for the constants.
use Rattle.std.specs.Prelude.{◌≡◌, ◌↔◌, ℕ, zero, suc, ◌+◌, ◌==◌, ◌&&◌, ◌||◌, Bool, true, false, List, [], ◌∷◌, ◌++◌, map, filter, length, Option, Some, None}
use Rattle.std.specs.Cmp.Lexicographic.{pointwise}
use Rattle.std.specs.List.{list_any, flat_map}
use Rattle.std.proofs.Common.{refl, sym, ap, ◌∙◌, cond}
use Rattle.std.proofs.lemmas.Bool.{and_parts, and_from, eqb-true, eq-eqb}
use Rattle.std.proofs.lemmas.List.{length-map, map-append}
use Rattle.std.proofs.lemmas.List.Elements.{filter_agree}
use Rattle.lt_model.specs.declared.normal.Term.{Term}
use Rattle.lt_model.specs.declared.normal.Term.TheVariants.{Var, Cell}
use Rattle.lt_model.specs.declared.normal.Atom.{Atom}
use Rattle.lt_model.specs.declared.syntax.Op.TheVariants.{Eq}
use Rattle.lt_model.specs.declared.normal.Test.{Test}
use Rattle.lt_model.specs.declared.normal.Test.TheVariants.{Cmp}
use Rattle.lt_model.specs.declared.normal.Body.{Body}
use Rattle.lt_model.specs.Bound.{is_var, stands}
use Rattle.lt_query.specs.declared.places.Place.{Place}
use Rattle.lt_query.specs.LevelsOf.{constants_of, first_place, pins_of, ties_of, levels_from}
use Rattle.lt_query.specs.Lists.{below}
use Rattle.lt_query.specs.Order.{stands_again, places_in, places_of, place_at, first_from, origin_of, origin, pins_variable, is_pinned, is_as_pinned, is_first, is_original, is_tied_to, with_tied, originals, stated_order, terms_at}
use Rattle.lt_query.specs.Shape.{blank, blank_atom, blank_test, shape_of, blank_level, blank_plan, plan_of, order_of, filled, same_term, same_atom, pinned_by, same_pin, same_test, same_shape}
use Rattle.lt_query.specs.Stated.{index_from, column_levels, sorted_columns, guide_of, guides_from, stated_plan}

-- ---- places

abbrev blank_place : Place → Place
blank_place place = record { term = blank place.term; again = place.again }

is_var-blank : (v : ℕ) (t : Term) → is_var v (blank t) ≡ is_var v t
is_var-blank v (Var u) = refl
is_var-blank v (Cell c) = refl

stands-blank : (ts : List Term) (v : ℕ) → stands (map blank ts) v ≡ stands ts v
stands-blank [] v = refl
stands-blank (t ∷ ts) v = ap (λ b. b || stands (map blank ts) v) (is_var-blank v t) ∙ ap (λ b. is_var v t || b) (stands-blank ts v)

stands_again-blank : (before : List Term) (t : Term) → stands_again (map blank before) (blank t) ≡ stands_again before t
stands_again-blank before (Var v) = stands-blank before v
stands_again-blank before (Cell c) = refl

places_in-blank : (before ts : List Term) → places_in (map blank before) (map blank ts) ≡ map blank_place (places_in before ts)
places_in-blank before [] = refl
places_in-blank before (t ∷ ts) =
    ap (λ b. record { term = blank t; again = b } ∷ places_in (map blank before ++ blank t ∷ []) (map blank ts)) (stands_again-blank before t)
    ∙ ap (λ w. record { term = blank t; again = stands_again before t } ∷ w) (ap (λ w. places_in w (map blank ts)) (sym (map-append blank before (t ∷ []))) ∙ places_in-blank (before ++ t ∷ []) ts)

places_of-blank : (atoms : List Atom) → places_of (map blank_atom atoms) ≡ map blank_place (places_of atoms)
places_of-blank [] = refl
places_of-blank (atom ∷ atoms) =
    ap (λ w. w ++ places_of (map blank_atom atoms)) (places_in-blank [] atom.terms)
    ∙ (ap (λ w. map blank_place (places_in [] atom.terms) ++ w) (places_of-blank atoms) ∙ sym (map-append blank_place (places_in [] atom.terms) (places_of atoms)))

place_at-blank : (places : List Place) (p : ℕ) → place_at (map blank_place places) p ≡ blank_place (place_at places p)
place_at-blank [] p = refl
place_at-blank (place ∷ places) zero = refl
place_at-blank (place ∷ places) (suc p) = place_at-blank places p

first_from-blank : (p : ℕ) (places : List Place) (v : ℕ) → first_from p (map blank_place places) v ≡ first_from p places v
first_from-blank p [] v = refl
first_from-blank p (place ∷ places) v =
    ap (λ b. cond b p (first_from (p + 1) (map blank_place places) v)) (is_var-blank v place.term) ∙ ap (λ n. cond (is_var v place.term) p n) (first_from-blank (p + 1) places v)

origin_of-blank : (places : List Place) (p : ℕ) (t : Term) (again : Bool) → origin_of (map blank_place places) p (blank t) again ≡ origin_of places p t again
origin_of-blank places p (Var v) again = ap (λ n. cond again p n) (first_from-blank 0 places v)
origin_of-blank places p (Cell c) again = refl

origin-blank : (places : List Place) (p : ℕ) → origin (map blank_place places) p ≡ origin places p
origin-blank places p =
    ap (λ (place : Place). origin_of (map blank_place places) p place.term place.again) (place_at-blank places p) ∙ origin_of-blank places p (place_at places p).term (place_at places p).again

-- ---- the order

pins-blank : (v : ℕ) (test : Test) → pins_variable v (blank_test test) ≡ pins_variable v test
pins-blank v (Cmp (Var u) Eq (Cell c)) = refl
pins-blank v test = refl

pinned-blank : (tests : List Test) (v : ℕ) → list_any (pins_variable v) (map blank_test tests) ≡ list_any (pins_variable v) tests
pinned-blank [] v = refl
pinned-blank (test ∷ tests) v =
    ap (λ b. b || list_any (pins_variable v) (map blank_test tests)) (pins-blank v test) ∙ ap (λ b. pins_variable v test || b) (pinned-blank tests v)

is_pinned-blank : (tests : List Test) (t : Term) → is_pinned (map blank_test tests) (blank t) ≡ is_pinned tests t
is_pinned-blank tests (Var v) = pinned-blank tests v
is_pinned-blank tests (Cell c) = refl

is_first-blank : (places : List Place) (p : ℕ) (t : Term) → is_first (map blank_place places) p (blank t) ≡ is_first places p t
is_first-blank places p (Var v) = ap (λ n. n == p) (first_from-blank 0 places v)
is_first-blank places p (Cell c) = refl

is_original-blank : (tests : List Test) (places : List Place) (pinned : Bool) (p : ℕ) → is_original (map blank_test tests) (map blank_place places) pinned p ≡ is_original tests places pinned p
is_original-blank tests places pinned p =
    let t = (place_at places p).term in
    ap (λ (place : Place). is_first (map blank_place places) p place.term && is_as_pinned pinned (is_pinned (map blank_test tests) place.term)) (place_at-blank places p)
    ∙ (ap (λ b. b && is_as_pinned pinned (is_pinned (map blank_test tests) (blank t))) (is_first-blank places p t) ∙ ap (λ b. is_first places p t && is_as_pinned pinned b) (is_pinned-blank tests t))

is_tied_to-blank : (t : Term) (place : Place) → is_tied_to (blank t) (blank_place place) ≡ is_tied_to t place
is_tied_to-blank (Var v) place = ap (λ b. place.again && b) (is_var-blank v place.term)
is_tied_to-blank (Cell c) place = refl

with_tied-blank : (places : List Place) (p : ℕ) → with_tied (map blank_place places) p ≡ with_tied places p
with_tied-blank places p =
    let t = (place_at places p).term in
    let tied : ℕ → Bool = λ q. is_tied_to (place_at (map blank_place places) p).term (place_at (map blank_place places) q) in
    ap (λ n. p ∷ filter tied (below n)) (length-map places blank_place)
    ∙ ap (λ w. p ∷ w) (filter_agree tied (λ q. is_tied_to t (place_at places q))
    (λ q. ap (λ (place : Place). is_tied_to place.term (place_at (map blank_place places) q)) (place_at-blank places p) ∙ (ap (is_tied_to (blank t)) (place_at-blank places q) ∙ is_tied_to-blank t (place_at places q)))
    (below (length places)))

originals-blank : (tests : List Test) (places : List Place) (pinned : Bool) → originals (map blank_test tests) (map blank_place places) pinned ≡ originals tests places pinned
originals-blank tests places pinned =
    let is = is_original (map blank_test tests) (map blank_place places) pinned in
    ap (λ n. flat_map (with_tied (map blank_place places)) (filter is (below n))) (length-map places blank_place)
    ∙ (ap (flat_map (with_tied (map blank_place places))) (filter_agree is (is_original tests places pinned) (is_original-blank tests places pinned) (below (length places)))
    ∙ ap (λ f. flat_map f (filter (is_original tests places pinned) (below (length places)))) (λ i. λ p. with_tied-blank places p i))

order-blank : (tests : List Test) (places : List Place) → stated_order (map blank_test tests) (map blank_place places) ≡ stated_order tests places
order-blank tests places =
    ap (λ w. w ++ originals (map blank_test tests) (map blank_place places) false) (originals-blank tests places true) ∙ ap (λ w. originals tests places true ++ w) (originals-blank tests places false)

-- ---- guides

column_levels-blank : (places : List Place) (order : List ℕ) (from width : ℕ) → column_levels (map blank_place places) order from width ≡ column_levels places order from width
column_levels-blank places order from width = ap (λ f. map f (below width)) (λ i. λ c. index_from 0 order (origin-blank places (from + c) i))

guide-blank : (places : List Place) (order : List ℕ) (from : ℕ) (atom : Atom) → guide_of (map blank_place places) order from (blank_atom atom) ≡ guide_of places order from atom
guide-blank places order from atom =
    ap (λ levels. record { relation = atom.relation; places = levels; columns = sorted_columns levels (length order) })
    (ap (column_levels (map blank_place places) order from) (length-map atom.terms blank) ∙ column_levels-blank places order from (length atom.terms))

guides-blank : (places : List Place) (order : List ℕ) (from : ℕ) (atoms : List Atom) → guides_from (map blank_place places) order from (map blank_atom atoms) ≡ guides_from places order from atoms
guides-blank places order from [] = refl
guides-blank places order from (atom ∷ atoms) =
    ap (λ g. g ∷ guides_from (map blank_place places) order (from + length (map blank atom.terms)) (map blank_atom atoms)) (guide-blank places order from atom)
    ∙ ap (λ w. guide_of places order from atom ∷ w)
    (ap (λ n. guides_from (map blank_place places) order (from + n) (map blank_atom atoms)) (length-map atom.terms blank) ∙ guides-blank places order (from + length atom.terms) atoms)

-- ---- levels

constants-blank : (tests : List Test) (v : ℕ) → constants_of (map blank_test tests) v ≡ map (λ c. 0) (constants_of tests v)
constants-blank [] v = refl
constants-blank (Cmp (Var u) Eq (Cell c) ∷ tests) v =
    elim (u == v) as (λ b. cond b (0 ∷ constants_of (map blank_test tests) v) (constants_of (map blank_test tests) v) ≡ map (λ c. 0) (cond b (c ∷ constants_of tests v) (constants_of tests v)))
    [ true ↦ ap (λ w. 0 ∷ w) (constants-blank tests v) | false ↦ constants-blank tests v ]
constants-blank (test ∷ tests) v = constants-blank tests v

pins_of-blank : (tests : List Test) (seen : List Term) (t : Term) → pins_of (map blank_test tests) (map blank seen) (blank t) ≡ map (λ c. 0) (pins_of tests seen t)
pins_of-blank tests seen (Cell c) = refl
pins_of-blank tests seen (Var v) =
    ap (λ b. cond b [] (constants_of (map blank_test tests) v)) (stands-blank seen v)
    ∙ elim (stands seen v) as (λ b. cond b [] (constants_of (map blank_test tests) v) ≡ map (λ c. 0) (cond b [] (constants_of tests v))) [ true ↦ refl | false ↦ constants-blank tests v ]

first_place-blank : (l : ℕ) (seen : List Term) (v : ℕ) → first_place l (map blank seen) v ≡ first_place l seen v
first_place-blank l [] v = refl
first_place-blank l (t ∷ ts) v =
    ap (λ b. cond b (l ∷ []) (first_place (l + 1) (map blank ts) v)) (is_var-blank v t) ∙ ap (λ w. cond (is_var v t) (l ∷ []) w) (first_place-blank (l + 1) ts v)

ties_of-blank : (seen : List Term) (t : Term) → ties_of (map blank seen) (blank t) ≡ ties_of seen t
ties_of-blank seen (Cell c) = refl
ties_of-blank seen (Var v) = first_place-blank 0 seen v

levels-blank : (tests : List Test) (seen ts : List Term) → levels_from (map blank_test tests) (map blank seen) (map blank ts) ≡ map blank_level (levels_from tests seen ts)
levels-blank tests seen [] = refl
levels-blank tests seen (t ∷ ts) =
    let rest = levels_from (map blank_test tests) (map blank seen ++ blank t ∷ []) (map blank ts) in
    ap (λ pins. record { term = blank t; pins = pins; ties = ties_of (map blank seen) (blank t) } ∷ rest) (pins_of-blank tests seen t)
    ∙ (ap (λ ties. record { term = blank t; pins = map (λ c. 0) (pins_of tests seen t); ties = ties } ∷ rest) (ties_of-blank seen t)
    ∙ ap (λ w. blank_level (record { term = t; pins = pins_of tests seen t; ties = ties_of seen t }) ∷ w)
    (ap (λ w. levels_from (map blank_test tests) w (map blank ts)) (sym (map-append blank seen (t ∷ []))) ∙ levels-blank tests (seen ++ t ∷ []) ts))

terms-blank : (places : List Place) (order : List ℕ) → terms_at (map blank_place places) order ≡ map blank (terms_at places order)
terms-blank places [] = refl
terms-blank places (p ∷ order) =
    ap (λ (place : Place). place.term ∷ terms_at (map blank_place places) order) (place_at-blank places p) ∙ ap (λ w. blank (place_at places p).term ∷ w) (terms-blank places order)

-- ---- plans

pub order_of-shape : (body : Body) → order_of (shape_of body) ≡ stated_order body.tests (places_of body.atoms)
order_of-shape body = ap (stated_order (map blank_test body.tests)) (places_of-blank body.atoms) ∙ order-blank body.tests (places_of body.atoms)

pub guides_of-shape : (body : Body) → (plan_of (shape_of body)).guides ≡ (stated_plan body).guides
guides_of-shape body =
    let order = stated_order body.tests (places_of body.atoms) in
    ap (λ o. guides_from (places_of (map blank_atom body.atoms)) o 0 (map blank_atom body.atoms)) (order_of-shape body)
    ∙ (ap (λ places. guides_from places order 0 (map blank_atom body.atoms)) (places_of-blank body.atoms) ∙ guides-blank (places_of body.atoms) order 0 body.atoms)

levels_of-shape : (body : Body) → (plan_of (shape_of body)).levels ≡ map blank_level (stated_plan body).levels
levels_of-shape body =
    let order = stated_order body.tests (places_of body.atoms) in
    ap (λ o. levels_from (map blank_test body.tests) [] (terms_at (places_of (map blank_atom body.atoms)) o)) (order_of-shape body)
    ∙ (ap (λ places. levels_from (map blank_test body.tests) [] (terms_at places order)) (places_of-blank body.atoms)
    ∙ (ap (levels_from (map blank_test body.tests) []) (terms-blank (places_of body.atoms) order) ∙ levels-blank body.tests [] (terms_at (places_of body.atoms) order)))

-- the plan of a shape is that of each body of it, with 0 for each constant
pub plan_of-shape : (body : Body) → plan_of (shape_of body) ≡ blank_plan (stated_plan body)
plan_of-shape body =
    ap (λ levels. record { levels = levels; guides = (plan_of (shape_of body)).guides }) (levels_of-shape body) ∙ ap (λ guides. record { levels = map blank_level (stated_plan body).levels; guides = guides }) (guides_of-shape body)

-- and filled with its constants it is its plan
pub filled-shape : (body : Body) → filled body (order_of (shape_of body)) (plan_of (shape_of body)).guides ≡ stated_plan body
filled-shape body =
    ap (λ order. filled body order (plan_of (shape_of body)).guides) (order_of-shape body) ∙ ap (filled body (stated_order body.tests (places_of body.atoms))) (guides_of-shape body)

-- ---- the comparison

map_same : {X Y : Type 0} (same : X → X → Bool) (f : X → Y) → ((x y : X) → same x y ≡ true → f x ≡ f y) → (xs ys : List X) → pointwise same xs ys ≡ true → map f xs ≡ map f ys
map_same same f each [] [] h = refl
map_same same f each [] (y ∷ ys) h = absurd (cc)
map_same same f each (x ∷ xs) [] h = absurd (cc)
map_same same f each (x ∷ xs) (y ∷ ys) h =
    let both = and_parts (same x y) (pointwise same xs ys) h in
    ap (λ z. z ∷ map f xs) (each x y both.0) ∙ ap (λ w. f y ∷ w) (map_same same f each xs ys both.1)

same_map : {X Y : Type 0} (same : X → X → Bool) (f : X → Y) → ((x y : X) → f x ≡ f y → same x y ≡ true) → (xs ys : List X) → map f xs ≡ map f ys → pointwise same xs ys ≡ true
same_map same f each [] [] h = refl
same_map same f each [] (y ∷ ys) h = absurd (cc)
same_map same f each (x ∷ xs) [] h = absurd (cc)
same_map same f each (x ∷ xs) (y ∷ ys) h =
    let first : f x ≡ f y = cc in
    let rest : map f xs ≡ map f ys = cc in
    and_from (same x y) (pointwise same xs ys) (each x y first) (same_map same f each xs ys rest)

blank-same : (t u : Term) → same_term t u ≡ true → blank t ≡ blank u
blank-same (Var u) (Var v) h = ap Var (eqb-true u v h)
blank-same (Cell c) (Cell d) h = refl
blank-same (Var u) (Cell d) h = absurd (cc)
blank-same (Cell c) (Var v) h = absurd (cc)

same-blank : (t u : Term) → blank t ≡ blank u → same_term t u ≡ true
same-blank (Var u) (Var v) h = eq-eqb u v (let e : u ≡ v = cc in e)
same-blank (Cell c) (Cell d) h = refl
same-blank (Var u) (Cell d) h = absurd (cc)
same-blank (Cell c) (Var v) h = absurd (cc)

blank_atom-same : (a b : Atom) → same_atom a b ≡ true → blank_atom a ≡ blank_atom b
blank_atom-same a b h =
    let both = and_parts (a.relation == b.relation) (pointwise same_term a.terms b.terms) h in
    ap (λ r. record { relation = r; terms = map blank a.terms }) (eqb-true a.relation b.relation both.0) ∙ ap (λ ts. record { relation = b.relation; terms = ts }) (map_same same_term blank blank-same a.terms b.terms both.1)

same-blank_atom : (a b : Atom) → blank_atom a ≡ blank_atom b → same_atom a b ≡ true
same-blank_atom a b h =
    and_from (a.relation == b.relation) (pointwise same_term a.terms b.terms) (eq-eqb a.relation b.relation (ap (λ (x : Atom). x.relation) h)) (same_map same_term blank same-blank a.terms b.terms (ap (λ (x : Atom). x.terms) h))

-- a blank test by the variable that it pins
abbrev test_of : Option ℕ → Test
test_of (Some v) = Cmp (Var v) Eq (Cell 0)
test_of None = Cmp (Cell 0) Eq (Cell 0)

blank_test-pinned : (test : Test) → blank_test test ≡ test_of (pinned_by test)
blank_test-pinned (Cmp (Var v) Eq (Cell c)) = refl
blank_test-pinned test = refl

test_of-same : (p q : Option ℕ) → same_pin p q ≡ true → test_of p ≡ test_of q
test_of-same (Some u) (Some v) h = ap (λ v. test_of (Some v)) (eqb-true u v h)
test_of-same None None h = refl
test_of-same (Some u) None h = absurd (cc)
test_of-same None (Some v) h = absurd (cc)

same-test_of : (p q : Option ℕ) → test_of p ≡ test_of q → same_pin p q ≡ true
same-test_of (Some u) (Some v) h = eq-eqb u v (let e : u ≡ v = cc in e)
same-test_of None None h = refl
same-test_of (Some u) None h = absurd (cc)
same-test_of None (Some v) h = absurd (cc)

blank_test-same : (a b : Test) → same_test a b ≡ true → blank_test a ≡ blank_test b
blank_test-same a b h = blank_test-pinned a ∙ (test_of-same (pinned_by a) (pinned_by b) h ∙ sym (blank_test-pinned b))

same-blank_test : (a b : Test) → blank_test a ≡ blank_test b → same_test a b ≡ true
same-blank_test a b h = same-test_of (pinned_by a) (pinned_by b) (sym (blank_test-pinned a) ∙ (h ∙ blank_test-pinned b))

shape_same : (a b : Body) → same_shape a b ≡ true → shape_of a ≡ shape_of b
shape_same a b h =
    let both = and_parts (pointwise same_atom a.atoms b.atoms) (pointwise same_test a.tests b.tests) h in
    ap (λ atoms. record { atoms = atoms; absents = []; tests = map blank_test a.tests; vars = 0 }) (map_same same_atom blank_atom blank_atom-same a.atoms b.atoms both.0)
    ∙ ap (λ tests. record { atoms = map blank_atom b.atoms; absents = []; tests = tests; vars = 0 }) (map_same same_test blank_test blank_test-same a.tests b.tests both.1)

same_shape_is : (a b : Body) → shape_of a ≡ shape_of b → same_shape a b ≡ true
same_shape_is a b h =
    and_from (pointwise same_atom a.atoms b.atoms) (pointwise same_test a.tests b.tests) (same_map same_atom blank_atom same-blank_atom a.atoms b.atoms (ap (λ (x : Body). x.atoms) h)) (same_map same_test blank_test same-blank_test a.tests b.tests (ap (λ (x : Body). x.tests) h))

pub same_shape-is : (a b : Body) → (same_shape a b ≡ true) ↔ (shape_of a ≡ shape_of b)
same_shape-is a b = (shape_same a b, same_shape_is a b)
