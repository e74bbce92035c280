-- Steps of the loops over places.
use Rattle.std.specs.Prelude.{◌≡◌, ℕ, ◌+◌, ◌<◌, Bool, false, List, [], ◌∷◌, ◌++◌, length, filter}
use Rattle.std.proofs.Common.{refl, sym, ap, ◌∙◌, cond, add-one, append_assoc, take, get_or}
use Rattle.std.proofs.lemmas.List.{take_more, append-nil}
use Rattle.std.proofs.lemmas.List.Elements.{filter-append}
use Rattle.lt_model.specs.declared.normal.Term.{Term}
use Rattle.lt_model.specs.declared.normal.Atom.{Atom}
use Rattle.lt_model.specs.declared.normal.Term.TheVariants.{Cell}
use Rattle.lt_query.specs.declared.places.Place.{Place}
use Rattle.lt_query.specs.Order.{stands_again, places_in, places_of, tied_to}
use Rattle.lt_query.specs.Lists.{below}

pub filter_below_more : (p : ℕ → Bool) (n : ℕ) → filter p (below (n + 1)) ≡ filter p (below n) ++ cond (p n) (n ∷ []) []
filter_below_more p n = rw add-one (filter-append p (below n) (n ∷ []))

-- an atom's places, one more
places_in-push : (before ts : List Term) (t : Term) → places_in before (ts ++ t ∷ []) ≡ places_in before ts ++ record { term = t; again = stands_again (before ++ ts) t } ∷ []
places_in-push before [] t = rw (append-nil before) refl
places_in-push before (s ∷ ts) t =
    ap (λ w. record { term = s; again = stands_again before s } ∷ w) (places_in-push (before ++ s ∷ []) ts t ∙ ap (λ w. places_in (before ++ s ∷ []) ts ++ record { term = t; again = stands_again w t } ∷ []) (append_assoc before (s ∷ []) ts))

pub places_in_more : (ts : List Term) (i : ℕ) (d : Term) → i < length ts → places_in [] (take (i + 1) ts) ≡ places_in [] (take i ts) ++ record { term = get_or ts i d; again = stands_again (take i ts) (get_or ts i d) } ∷ []
places_in_more ts i d h = ap (places_in []) (take_more ts i d h) ∙ places_in-push [] (take i ts) (get_or ts i d)

places_of-push : (atoms : List Atom) (atom : Atom) → places_of (atoms ++ atom ∷ []) ≡ places_of atoms ++ places_in [] atom.terms
places_of-push [] atom = append-nil (places_in [] atom.terms)
places_of-push (a ∷ atoms) atom = ap (λ w. places_in [] a.terms ++ w) (places_of-push atoms atom) ∙ sym (append_assoc (places_in [] a.terms) (places_of atoms) (places_in [] atom.terms))

pub places_of_more : (atoms : List Atom) (i : ℕ) (d : Atom) → i < length atoms → places_of (take (i + 1) atoms) ≡ places_of (take i atoms) ++ places_in [] (get_or atoms i d).terms
places_of_more atoms i d h = ap places_of (take_more atoms i d h) ∙ places_of-push (take i atoms) (get_or atoms i d)

-- nothing is tied to a constant
pub tied_to_cell : (places : List Place) (c : ℕ) → tied_to places (Cell c) ≡ []
tied_to_cell places c = none (below (length places))
  where
    none : (xs : List ℕ) → filter (λ x. false) xs ≡ []
    none [] = refl
    none (x ∷ xs) = none xs
