-- What stands at the places of the atoms.
use Rattle.std.specs.Prelude.{◌≡◌, ℕ, zero, suc, ◌+◌, ◌-◌, ◌<◌, ◌≤◌, true, false, List, [], ◌∷◌, ◌++◌, length}
use Rattle.std.proofs.Common.{refl, sym, ap, ◌∙◌, subst, inl, inr, arith, get_or, take, append_assoc}
use Rattle.std.proofs.lemmas.Bool.{or_cases, or_left, or_right, cases_lt}
use Rattle.std.proofs.lemmas.List.{append-nil, get_or_append_left, get_or-append-add}
use Rattle.lt_model.specs.declared.normal.Term.{Term}
use Rattle.lt_model.specs.declared.normal.Term.TheVariants.{Var, Cell}
use Rattle.lt_model.specs.declared.normal.Atom.{Atom}
use Rattle.lt_query.specs.declared.places.Place.{Place}
use Rattle.lt_face.specs.Lists.{IsIn}
use Rattle.lt_model.specs.Bound.{is_var, stands}
use Rattle.lt_query.specs.Order.{stands_again, places_in, places_of, place_at}
use Rattle.lt_query.specs.Stated.{guide_of, guides_from}
use Rattle.lt_query.proofs.Standing.{is_var-true, is_var_itself}
use Rattle.lt_query.proofs.LevelSteps.{length-places_in, length-places_of}

-- the terms stand at the places from this one on
abbrev pub StandsFrom : List Place → ℕ → List Term → Type 0
StandsFrom places from ts = (c : ℕ) → c < length ts → place_at places (from + c) ≡ record { term = get_or ts c (Var 0); again = stands_again (take c ts) (get_or ts c (Var 0)) }

place_in : (before ts : List Term) (c : ℕ) → c < length ts → place_at (places_in before ts) c ≡ record { term = get_or ts c (Var 0); again = stands_again (before ++ take c ts) (get_or ts c (Var 0)) }
place_in before [] c h = absurd (omega arith)
place_in before (t ∷ ts) zero h = rw (append-nil before) refl
place_in before (t ∷ ts) (suc c) h = place_in (before ++ t ∷ []) ts c (omega arith) ∙ ap (λ w. record { term = get_or ts c (Var 0); again = stands_again w (get_or ts c (Var 0)) }) (append_assoc before (t ∷ []) (take c ts))

-- the places of the atoms are those from this one on
abbrev pub AreFrom : List Place → ℕ → List Atom → Type 0
AreFrom places from atoms = (i : ℕ) → i < length (places_of atoms) → place_at places (from + i) ≡ place_at (places_of atoms) i

pub StandsFrom-first : (places : List Place) (from : ℕ) (atom : Atom) (atoms : List Atom) → AreFrom places from (atom ∷ atoms) → StandsFrom places from atom.terms
StandsFrom-first places from atom atoms are = λ c lt.
    let len = length-places_in [] atom.terms in
    let all = length-places_of atom atoms in
    are c (omega arith) ∙ (get_or_append_left (places_in [] atom.terms) (places_of atoms) (record { term = Var 0; again = false }) c (omega arith) ∙ place_in [] atom.terms c lt)

pub AreFrom-rest : (places : List Place) (from : ℕ) (atom : Atom) (atoms : List Atom) → AreFrom places from (atom ∷ atoms) → AreFrom places (from + length atom.terms) atoms
AreFrom-rest places from atom atoms are = λ i lt.
    let len = length-places_in [] atom.terms in
    let all = length-places_of atom atoms in
    let shift : (from + length atom.terms) + i ≡ from + (length (places_in [] atom.terms) + i) = omega arith in
    ap (place_at places) shift ∙ (are (length (places_in [] atom.terms) + i) (omega arith) ∙ get_or-append-add (places_in [] atom.terms) (places_of atoms) i (record { term = Var 0; again = false }))

-- the atom in which a place is
pub record IsWithinAtom (places : List Place) (order : List ℕ) (from : ℕ) (atoms : List Atom) (p : ℕ) : Type 0 where
  pub atom : Atom
  pub first : ℕ
  pub column : ℕ
  pub stands : StandsFrom places first atom.terms
  pub within : column < length atom.terms
  pub at : first + column ≡ p
  pub fits : first + length atom.terms ≤ from + length (places_of atoms)
  pub guide : IsIn (guide_of places order first atom) (guides_from places order from atoms)

located_later : (places : List Place) (order : List ℕ) (from : ℕ) (atom : Atom) (atoms : List Atom) (i : ℕ) → length atom.terms ≤ i → IsWithinAtom places order (from + length atom.terms) atoms ((from + length atom.terms) + (i - length atom.terms)) → IsWithinAtom places order from (atom ∷ atoms) (from + i)
located_later places order from atom atoms i past f =
    let all = length-places_of atom atoms in
    record { atom = f.atom; first = f.first; column = f.column; stands = f.stands; within = f.within; at = (let e = f.at in omega arith); fits = (let e = f.fits in omega arith); guide = inr f.guide }

pub located : (places : List Place) (order : List ℕ) (from : ℕ) (atoms : List Atom) → AreFrom places from atoms → (i : ℕ) → i < length (places_of atoms) → IsWithinAtom places order from atoms (from + i)
located places order from [] are i lt = absurd (omega arith)
located places order from (atom ∷ atoms) are i lt =
    let all = length-places_of atom atoms in
    elim (cases_lt i (length atom.terms)) [
      | inl below ↦ record { atom = atom; first = from; column = i; stands = StandsFrom-first places from atom atoms are; within = below; at = refl; fits = omega arith; guide = inl refl }
      | inr above ↦ located_later places order from atom atoms i above (located places order (from + length atom.terms) atoms (AreFrom-rest places from atom atoms are) (i - length atom.terms) (omega arith))
    ]

pub AreFrom-all : (atoms : List Atom) → AreFrom (places_of atoms) 0 atoms
AreFrom-all atoms = λ i lt. let s : 0 + i ≡ i = omega arith in ap (place_at (places_of atoms)) s

pub located_in : (atoms : List Atom) (order : List ℕ) (p : ℕ) → p < length (places_of atoms) → IsWithinAtom (places_of atoms) order 0 atoms p
located_in atoms order p lt = subst (IsWithinAtom (places_of atoms) order 0 atoms) (let s : 0 + p ≡ p = omega arith in s) (located (places_of atoms) order 0 atoms (AreFrom-all atoms) p lt)

-- a variable of the list has a place
pub stands_somewhere : (ts : List Term) (v : ℕ) → stands ts v ≡ true → (j : ℕ) × (j < length ts) × (get_or ts j (Var 0) ≡ Var v)
stands_somewhere [] v h = absurd (cc)
stands_somewhere (t ∷ ts) v h =
    elim (or_cases (is_var v t) (stands ts v) h) [ inl e ↦ (0, (omega arith), is_var-true v t e) | inr r ↦ let f = stands_somewhere ts v r in (suc f.0, (let lt : f.0 < length ts = f.1 in omega arith), f.2) ]

pub get_or-take : (ts : List Term) (n j : ℕ) → j < length (take n ts) → (get_or (take n ts) j (Var 0) ≡ get_or ts j (Var 0)) × (j < n)
get_or-take ts zero j h = absurd (omega arith)
get_or-take [] (suc n) j h = absurd (omega arith)
get_or-take (t ∷ ts) (suc n) zero h = (refl, (omega arith))
get_or-take (t ∷ ts) (suc n) (suc j) h = let f = get_or-take ts n j (omega arith) in (f.0, (let lt : j < n = f.1 in omega arith))

pub stands-take : (ts : List Term) (c d v : ℕ) → c < d → c < length ts → get_or ts c (Var 0) ≡ Var v → stands (take d ts) v ≡ true
stands-take [] c d v lt within is = absurd (omega arith)
stands-take (t ∷ ts) c zero v lt within is = absurd (omega arith)
stands-take (t ∷ ts) zero (suc d) v lt within is = or_left (is_var v t) (stands (take d ts) v) (rw is (is_var_itself v))
stands-take (t ∷ ts) (suc c) (suc d) v lt within is = or_right (is_var v t) (stands (take d ts) v) (stands-take ts c d v (omega arith) (omega arith) is)

-- of a second or later place in an atom there is an earlier one
pub stands_again-earlier : (before : List Term) (t : Term) → stands_again before t ≡ true → (v : ℕ) × (t ≡ Var v) × (stands before v ≡ true)
stands_again-earlier before (Var v) h = (v, refl, h)
stands_again-earlier before (Cell c) h = absurd (cc)

abbrev pub IsTold : List Place → Type 0
IsTold places = (p : ℕ) → p < length places → (place_at places p).again ≡ true → (v : ℕ) × ((place_at places p).term ≡ Var v) × ((q : ℕ) × (q < p) × ((place_at places q).term ≡ Var v))

told_at : (places : List Place) (first column p : ℕ) (ts : List Term) → StandsFrom places first ts → column < length ts → first + column ≡ p → (place_at places p).again ≡ true → (v : ℕ) × ((place_at places p).term ≡ Var v) × ((q : ℕ) × (q < p) × ((place_at places q).term ≡ Var v))
told_at places first column p ts at_places within at again =
    let is = at_places column within in
    let here : (place_at places (first + column)).again ≡ true = subst (λ n. (place_at places n).again ≡ true) (sym at) again in
    let found = stands_again-earlier (take column ts) (get_or ts column (Var 0)) (sym (ap (λ (x : Place). x.again) is) ∙ here) in
    let earlier = stands_somewhere (take column ts) found.0 found.2 in
    let taken = get_or-take ts column earlier.0 earlier.1 in
    let below : earlier.0 < column = taken.1 in (
      found.0,
      subst (λ n. (place_at places n).term ≡ Var found.0) at (ap (λ (x : Place). x.term) is ∙ found.1),
      (first + earlier.0, (omega arith), ap (λ (x : Place). x.term) (at_places earlier.0 (omega arith)) ∙ (sym taken.0 ∙ earlier.2)),
    )

pub told : (atoms : List Atom) → IsTold (places_of atoms)
told atoms p lt again =
    let w = located_in atoms [] p lt in
    told_at (places_of atoms) w.first w.column p (w.atom).terms w.stands w.within w.at again
