-- Steps of the loops over levels and guides.
use Rattle.std.specs.Prelude.{◌≡◌, ℕ, ◌+◌, ◌<◌, suc, true, false, ◌==◌, ◌||◌, List, [], ◌∷◌, ◌++◌, length}
use Rattle.std.proofs.Common.{refl, sym, ap, ◌∙◌, cond, take, drop, get_or, length-append, append_assoc}
use Rattle.std.proofs.lemmas.List.{take_more, at_drop_more, append-nil, length-map, map-append}
use Rattle.lt_model.specs.declared.normal.Term.{Term}
use Rattle.lt_model.specs.declared.normal.Term.TheVariants.{Var, Cell}
use Rattle.lt_model.specs.declared.syntax.Op.TheVariants.{Eq}
use Rattle.lt_model.specs.declared.normal.Test.{Test}
use Rattle.lt_model.specs.declared.normal.Test.TheVariants.{Cmp}
use Rattle.lt_model.specs.declared.normal.Atom.{Atom}
use Rattle.lt_query.specs.declared.places.Place.{Place}
use Rattle.lt_model.specs.Bound.{is_var, stands}
use Rattle.lt_query.specs.LevelsOf.{constants_of, first_place, level_behind, level_terms, levels_from}
use Rattle.lt_query.specs.Order.{places_in, places_of, place_at, terms_at, origin}
use Rattle.lt_query.specs.Stated.{index_from, column_levels, guide_of, guides_from}
use Rattle.lt_query.specs.Lists.{below}
use Rattle.lt_query.proofs.Distinct.{length-below}

pub constants_of-push : (tests : List Test) (test : Test) (v : ℕ) → constants_of (tests ++ test ∷ []) v ≡ constants_of tests v ++ constants_of (test ∷ []) v
constants_of-push [] test v = refl
constants_of-push (Cmp (Var u) Eq (Cell c) ∷ tests) test v =
    elim (u == v) as (λ b. cond b (c ∷ constants_of (tests ++ test ∷ []) v) (constants_of (tests ++ test ∷ []) v) ≡ cond b (c ∷ constants_of tests v) (constants_of tests v) ++ constants_of (test ∷ []) v)
    [ true ↦ ap (λ w. c ∷ w) (constants_of-push tests test v) | false ↦ constants_of-push tests test v ]
constants_of-push (other ∷ tests) test v = constants_of-push tests test v

pub constants_more : (tests : List Test) (v i : ℕ) (d : Test) → i < length tests → constants_of (take (i + 1) tests) v ≡ constants_of (take i tests) v ++ constants_of (get_or tests i d ∷ []) v
constants_more tests v i d h = ap (λ w. constants_of w v) (take_more tests i d h) ∙ constants_of-push (take i tests) (get_or tests i d) v

levels_from-push : (tests : List Test) (seen ts : List Term) (t : Term) → levels_from tests seen (ts ++ t ∷ []) ≡ levels_from tests seen ts ++ level_behind tests (seen ++ ts) t ∷ []
levels_from-push tests seen [] t = rw (append-nil seen) refl
levels_from-push tests seen (s ∷ ts) t =
    ap (λ w. level_behind tests seen s ∷ w)
    (levels_from-push tests (seen ++ s ∷ []) ts t ∙ ap (λ w. levels_from tests (seen ++ s ∷ []) ts ++ level_behind tests w t ∷ []) (append_assoc seen (s ∷ []) ts))

level_terms-levels_from : (tests : List Test) (seen ts : List Term) → level_terms (levels_from tests seen ts) ≡ ts
level_terms-levels_from tests seen [] = refl
level_terms-levels_from tests seen (t ∷ ts) = ap (λ w. t ∷ w) (level_terms-levels_from tests (seen ++ t ∷ []) ts)

-- the levels of some places, one more
pub levels_more : (tests : List Test) (places : List Place) (order : List ℕ) (i d : ℕ) → i < length order → levels_from tests [] (terms_at places (take (i + 1) order)) ≡ levels_from tests [] (terms_at places (take i order)) ++ level_behind tests (level_terms (levels_from tests [] (terms_at places (take i order)))) (place_at places (get_or order i d)).term ∷ []
levels_more tests places order i d h =
    let before = terms_at places (take i order) in
    let t = (place_at places (get_or order i d)).term in
    ap (λ w. levels_from tests [] (terms_at places w)) (take_more order i d h)
    ∙ (ap (levels_from tests []) (map-append (λ p. (place_at places p).term) (take i order) (get_or order i d ∷ []))
    ∙ (levels_from-push tests [] before t ∙ ap (λ w. levels_from tests [] before ++ level_behind tests w t ∷ []) (sym (level_terms-levels_from tests [] before))))

-- a variable stands where it has a first place
first_place-none : (l : ℕ) (seen : List Term) (v : ℕ) → [] ≡ first_place l seen v → stands seen v ≡ false
first_place-none l [] v h = refl
first_place-none l (t ∷ ts) v h =
    elim (is_var v t) as (λ b. [] ≡ cond b (l ∷ []) (first_place (l + 1) ts v) → b || stands ts v ≡ false)
    [ true ↦ λ e. cc | false ↦ λ e. first_place-none (l + 1) ts v e ] h

first_place-some : (l m : ℕ) (seen : List Term) (v : ℕ) → m ∷ [] ≡ first_place l seen v → stands seen v ≡ true
first_place-some l m [] v h = cc
first_place-some l m (t ∷ ts) v h =
    elim (is_var v t) as (λ b. m ∷ [] ≡ cond b (l ∷ []) (first_place (l + 1) ts v) → b || stands ts v ≡ true)
    [ true ↦ λ e. refl | false ↦ λ e. first_place-some (l + 1) m ts v e ] h

pub first_of_variable : (tests : List Test) (seen : List Term) (v : ℕ) → [] ≡ first_place 0 seen v → record { term = Var v; pins = constants_of tests v; ties = [] } ≡ level_behind tests seen (Var v)
first_of_variable tests seen v h = rw (first_place-none 0 seen v h, sym h) refl

pub later_of_variable : (tests : List Test) (seen : List Term) (v m : ℕ) → m ∷ [] ≡ first_place 0 seen v → record { term = Var v; pins = []; ties = m ∷ [] } ≡ level_behind tests seen (Var v)
later_of_variable tests seen v m h = rw (first_place-some 0 m seen v h, sym h) refl

pub length-places_in : (before ts : List Term) → length (places_in before ts) ≡ length ts
length-places_in before [] = refl
length-places_in before (t ∷ ts) = ap (λ n. suc n) (length-places_in (before ++ t ∷ []) ts)

pub length-places_of : (atom : Atom) (atoms : List Atom) → length (places_of (atom ∷ atoms)) ≡ length atom.terms + length (places_of atoms)
length-places_of atom atoms = length-append (places_in [] atom.terms) (places_of atoms) ∙ ap (λ n. n + length (places_of atoms)) (length-places_in [] atom.terms)

pub places_left : (atoms : List Atom) (i : ℕ) (d : Atom) → i < length atoms → length (places_of (drop i atoms)) ≡ length (get_or atoms i d).terms + length (places_of (drop (i + 1) atoms))
places_left atoms i d h = at_drop_more (λ w. length (places_of w)) atoms i d h ∙ length-places_of (get_or atoms i d) (drop (i + 1) atoms)

pub guides_left : (places : List Place) (order : List ℕ) (from : ℕ) (atoms : List Atom) (i : ℕ) (d : Atom) → i < length atoms → guides_from places order from (drop i atoms) ≡ guide_of places order from (get_or atoms i d) ∷ guides_from places order (from + length (get_or atoms i d).terms) (drop (i + 1) atoms)
guides_left places order from atoms i d h = at_drop_more (guides_from places order from) atoms i d h

pub length-column_levels : (places : List Place) (order : List ℕ) (from width : ℕ) → length (column_levels places order from width) ≡ width
length-column_levels places order from width = length-map (below width) (λ c. index_from 0 order (origin places (from + c))) ∙ length-below width
