-- The levels of an order of terms.
use Rattle.std.specs.Prelude.{ℕ, ◌+◌, ◌==◌, List, [], ◌∷◌, ◌++◌, if◌then◌else◌, map}
use Rattle.lt_model.specs.declared.normal.Term.{Term}
use Rattle.lt_model.specs.declared.normal.Term.TheVariants.{Var, Cell}
use Rattle.lt_model.specs.declared.syntax.Op.TheVariants.{Eq}
use Rattle.lt_model.specs.declared.normal.Test.{Test}
use Rattle.lt_model.specs.declared.normal.Test.TheVariants.{Cmp}
use Rattle.lt_query.specs.declared.plans.Level.{Level}
use Rattle.lt_model.specs.Bound.{is_var, stands}

-- the constants that tests equate a variable with
abbrev pub constants_of : List Test → ℕ → List ℕ
constants_of [] v = []
constants_of (Cmp (Var u) Eq (Cell c) ∷ tests) v = if u == v then c ∷ constants_of tests v else constants_of tests v
constants_of (test ∷ tests) v = constants_of tests v

-- the first place of a variable among the terms, counted from l
abbrev pub first_place : ℕ → List Term → ℕ → List ℕ
first_place l [] v = []
first_place l (t ∷ ts) v = if is_var v t then l ∷ [] else first_place (l + 1) ts v

-- a constant is pinned to itself, and the first level of a variable to its constants
abbrev pub pins_of : List Test → List Term → Term → List ℕ
pins_of tests seen (Cell c) = c ∷ []
pins_of tests seen (Var v) = if stands seen v then [] else constants_of tests v

-- a later level of a variable is tied to its first
abbrev pub ties_of : List Term → Term → List ℕ
ties_of seen (Cell c) = []
ties_of seen (Var v) = first_place 0 seen v

-- the level of a term, after those seen
abbrev pub level_behind : List Test → List Term → Term → Level
level_behind tests seen t = record { term = t; pins = pins_of tests seen t; ties = ties_of seen t }

-- the levels of terms in this order, after those seen
abbrev pub levels_from : List Test → List Term → List Term → List Level
levels_from tests seen [] = []
levels_from tests seen (t ∷ ts) = level_behind tests seen t ∷ levels_from tests (seen ++ t ∷ []) ts

-- the terms of levels
abbrev pub level_terms : List Level → List Term
level_terms levels = map (λ level. level.term) levels
