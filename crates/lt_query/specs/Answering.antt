-- What an answer is, without a product of rows.
use Rattle.std.specs.Prelude.{◌≡◌, true, List}
use Rattle.std.specs.List.{AllByRecursion}
use Rattle.lt_face.specs.State.{Row, State, Has}
use Rattle.lt_model.specs.declared.normal.Term.{Term}
use Rattle.lt_model.specs.declared.normal.Atom.{Atom}
use Rattle.lt_model.specs.declared.normal.Test.{Test}
use Rattle.lt_model.specs.declared.normal.Body.{Body}
use Rattle.lt_model.specs.Answers.{Assignment, cells_of, holds}
use Rattle.lt_model.specs.Bound.{are_bound}
use Rattle.lt_model.specs.Fits.{test_terms}

-- the atoms' rows are all in the state
abbrev pub Stands : Assignment → List Atom → State → Type 0
Stands a atoms state = AllByRecursion (λ (atom : Atom). Has state atom.relation (cells_of a atom.terms)) atoms

-- none of the negated atoms' rows is in the state
abbrev pub Lacks : Assignment → List Atom → State → Type 0
Lacks a absents state = AllByRecursion (λ (atom : Atom). Has state atom.relation (cells_of a atom.terms) → ⊥) absents

-- the row is the terms' cells under an assignment that holds, whose rows the state has, and none of whose absent rows it has
abbrev pub IsAnswer : List Term → Body → State → Row → Type 0
IsAnswer terms body state row = (a : Assignment) × (holds a body ≡ true) × Stands a body.atoms state × (cells_of a terms ≡ row) × Lacks a body.absents state

-- an assignment holds, and the state has its rows and none of its absent rows
abbrev pub IsSatisfied : Body → State → Type 0
IsSatisfied body state = (a : Assignment) × (holds a body ≡ true) × Stands a body.atoms state × Lacks a body.absents state

-- each variable of the comparisons and sums, and of the negated atoms, is bound
abbrev pub AreTestsBound : Body → Type 0
AreTestsBound body = AllByRecursion (λ (test : Test). are_bound body (test_terms test) ≡ true) body.tests × AllByRecursion (λ (atom : Atom). are_bound body atom.terms ≡ true) body.absents
