-- The stated order of the variables of a body's atoms: the pinned ones first, then by first place, and each tied variable
-- directly after its original.
use Rattle.std.specs.Prelude.{◌≡◌, ℕ, ◌+◌, Bool, true, false, ◌&&◌, not, ◌==◌, if◌then◌else◌, List, [], ◌∷◌, ◌++◌, map, filter, length, ◌<◌, ◌⊎◌}
use Rattle.std.specs.List.{list_any, flat_map, slice_index_or}
use Rattle.lt_model.specs.declared.normal.Term.{Term}
use Rattle.lt_model.specs.declared.normal.Term.TheVariants.{Var, Cell}
use Rattle.lt_model.specs.declared.normal.Atom.{Atom}
use Rattle.lt_model.specs.declared.syntax.Op.TheVariants.{Eq}
use Rattle.lt_model.specs.declared.normal.Test.{Test}
use Rattle.lt_model.specs.declared.normal.Test.TheVariants.{Cmp}
use Rattle.lt_model.specs.declared.normal.Body.{Body}
use Rattle.lt_query.specs.declared.places.Place.{Place}
use Rattle.lt_face.specs.Lists.{IsIn, AreInOrder}
use Rattle.lt_query.specs.Lists.{below}
use Rattle.lt_model.specs.Bound.{is_var, stands}

-- whether the term is a variable that stands among the terms before it
abbrev pub stands_again : List Term → Term → Bool
stands_again before (Var v) = stands before v
stands_again before (Cell c) = false

-- the places of an atom's terms, after the terms before
abbrev pub places_in : List Term → List Term → List Place
places_in before [] = []
places_in before (t ∷ ts) = record { term = t; again = stands_again before t } ∷ places_in (before ++ t ∷ []) ts

-- the places of the atoms, in text order
abbrev pub places_of : List Atom → List Place
places_of [] = []
places_of (atom ∷ atoms) = places_in [] atom.terms ++ places_of atoms

abbrev pub place_at : List Place → ℕ → Place
place_at places p = slice_index_or places p (record { term = Var 0; again = false })

-- the first place of a variable, counted from p
abbrev pub first_from : ℕ → List Place → ℕ → ℕ
first_from p [] v = p
first_from p (place ∷ places) v = if is_var v place.term then p else first_from (p + 1) places v

abbrev pub origin_of : List Place → ℕ → Term → Bool → ℕ
origin_of places p (Cell c) again = p
origin_of places p (Var v) again = if again then p else first_from 0 places v

-- where the variable of a place begins: a constant, and a second or later place of a variable within its atom, is a
-- variable of its own
abbrev pub origin : List Place → ℕ → ℕ
origin places p = origin_of places p (place_at places p).term (place_at places p).again

-- a literal `v = c`
abbrev pub pins_variable : ℕ → Test → Bool
pins_variable v (Cmp (Var u) Eq (Cell c)) = u == v
pins_variable v test = false

abbrev pub is_pinned : List Test → Term → Bool
is_pinned tests (Cell c) = true
is_pinned tests (Var v) = list_any (pins_variable v) tests

abbrev pub is_as_pinned : Bool → Bool → Bool
is_as_pinned pinned is = if pinned then is else not is

-- whether the place is the first of its variable; a constant is a variable of its own
abbrev pub is_first : List Place → ℕ → Term → Bool
is_first places p (Cell c) = true
is_first places p (Var v) = first_from 0 places v == p

-- whether an original stands first at the place, and is pinned, or isn't
abbrev pub is_original : List Test → List Place → Bool → ℕ → Bool
is_original tests places pinned p =
    is_first places p (place_at places p).term && is_as_pinned pinned (is_pinned tests (place_at places p).term)

-- whether the variable of the place is tied to the original with this term
abbrev pub is_tied_to : Term → Place → Bool
is_tied_to (Cell c) place = false
is_tied_to (Var v) place = place.again && is_var v place.term

-- the places whose variables are tied to the original with this term
abbrev pub tied_to : List Place → Term → List ℕ
tied_to places t = filter (λ q. is_tied_to t (place_at places q)) (below (length places))

-- an original, and then its tied variables
abbrev pub with_tied : List Place → ℕ → List ℕ
with_tied places p = p ∷ tied_to places (place_at places p).term

-- the pinned originals, or the others, in text order, each with its tied variables
abbrev pub originals : List Test → List Place → Bool → List ℕ
originals tests places pinned = flat_map (with_tied places) (filter (is_original tests places pinned) (below (length places)))

-- where the variables begin, in the stated order: the pinned ones first
abbrev pub stated_order : List Test → List Place → List ℕ
stated_order tests places = originals tests places true ++ originals tests places false

abbrev pub terms_at : List Place → List ℕ → List Term
terms_at places order = map (λ p. (place_at places p).term) order

-- the terms of the levels
abbrev pub stated_terms : Body → List Term
stated_terms body = terms_at (places_of body.atoms) (stated_order body.tests (places_of body.atoms))

-- the place where the original begins of which a term's variable is a copy, or which it is
abbrev pub original_of : List Place → ℕ → Term → ℕ
original_of places p (Cell c) = p
original_of places p (Var v) = first_from 0 places v

abbrev pub original : List Place → ℕ → ℕ
original places p = original_of places p (place_at places p).term

abbrev pub is_pinned_at : List Test → List Place → ℕ → Bool
is_pinned_at tests places p = is_pinned tests (place_at places p).term

-- the variable that begins at p comes before the one that begins at q: pinned ones first, then by the first place of the
-- original, and a tied variable after its original and before the next
abbrev pub Precedes : List Test → List Place → ℕ → ℕ → Type 0
Precedes tests places p q =
    ((is_pinned_at tests places p ≡ true) × (is_pinned_at tests places q ≡ false))
    ⊎ ((is_pinned_at tests places p ≡ is_pinned_at tests places q)
    × ((original places p < original places q) ⊎ ((original places p ≡ original places q) × (p < q))))

-- the places where the variables begin, each before those that it precedes
pub record IsStatedOrder (tests : List Test) (places : List Place) (order : List ℕ) : Type 0 where
  pub begins : (p : ℕ) → IsIn p order → (p < length places) × (origin places p ≡ p)
  pub each : (p : ℕ) → p < length places → origin places p ≡ p → IsIn p order
  pub ordered : AreInOrder (Precedes tests places) order
