-- A body's answers, row by row of its atoms, while the variables met so far have values.
use Rattle.std.specs.Prelude.{◌≤◌, length, Bool, ◌&&◌, if◌then◌else◌, List, map, Option, Some, None, filter_map, flat_map}
use Rattle.std.specs.List.{AllByRecursion, list_all, list_any}
use Rattle.lt_face.specs.Limits.{most_columns, most_variables}
use Rattle.lt_face.specs.Rows.{IsCell}
use Rattle.lt_face.specs.State.{Row, State}
use Rattle.lt_model.specs.declared.normal.Term.{Term}
use Rattle.lt_model.specs.declared.normal.Atom.{Atom}
use Rattle.lt_model.specs.declared.normal.Test.{Test}
use Rattle.lt_model.specs.Fits.{IsTermOf}
use Rattle.lt_join.specs.Values.{assigned}
use Rattle.lt_model.specs.Answers.{Assignment, Values, cells_of, rows_under, passes, or_else, value_at, terms_of, give_all, picks, rows_eq, lacks}

-- ---- what is read

-- the state with these rows. Its widths are of no account to what programs do
abbrev pub bare : List (List Row) → State
bare relations = map (λ rows. record { width = 0; rows = rows }) relations

-- the rows are of cells
abbrev pub AreCells : List (List Row) → Type 0
AreCells relations = AllByRecursion (AllByRecursion (AllByRecursion IsCell)) relations

-- its variables' numbers are below 16, and its constants are cells
abbrev pub IsAtom : Atom → Type 0
IsAtom atom = AllByRecursion (IsTermOf most_variables) atom.terms

-- the same of a negated atom, which has at most 8 terms
abbrev pub IsAbsent : Atom → Type 0
IsAbsent atom = IsAtom atom × (length atom.terms ≤ most_columns)

-- whether each test holds, and the state has none of the absent rows
abbrev pub bears : Assignment → List Test → List Atom → State → Bool
bears a tests absents state = list_all (passes a) tests && lacks a absents state

-- the answer of the values, once all atoms are met
abbrev pub leaf : List Term → Values → List Test → List Atom → State → Option Row
leaf terms values tests absents state =
    let a : Assignment = assigned (give_all values tests) in
    if bears a tests absents state then Some (cells_of a terms) else None

-- ---- what is left

-- the values, and for a variable without one its cell at its first place in the atoms
abbrev pub begun : Values → List Atom → List Row → Values
begun values atoms pick u = or_else (values u) (value_at (terms_of atoms) (flat_map (λ row. row) pick) u)

-- the assignment that the values and a pick of the atoms give
abbrev pub assignment_from : Values → List Atom → List Test → List Row → Assignment
assignment_from values atoms tests pick = assigned (give_all (begun values atoms pick) tests)

-- whether the pick is the atoms' rows under it, each test holds, and the state has none of the absent rows
abbrev pub fits_from : Values → List Atom → List Test → List Atom → State → List Row → Bool
fits_from values atoms tests absents state pick =
    let a : Assignment = assignment_from values atoms tests pick in
    rows_eq (rows_under a atoms) pick && bears a tests absents state

abbrev pub answer_from : List Term → Values → List Atom → List Test → List Atom → State → List Row → Option Row
answer_from terms values atoms tests absents state pick = if fits_from values atoms tests absents state pick then Some (cells_of (assignment_from values atoms tests pick) terms) else None

-- the terms' cells over all picks of the atoms that go with the values, in the order of the picks
abbrev pub found_from : List Term → Values → List Atom → List Test → List Atom → State → List Row
found_from terms values atoms tests absents state = filter_map (answer_from terms values atoms tests absents state) (picks atoms state)

-- whether there is such a pick
abbrev pub some_from : Values → List Atom → List Test → List Atom → State → Bool
some_from values atoms tests absents state = list_any (fits_from values atoms tests absents state) (picks atoms state)
