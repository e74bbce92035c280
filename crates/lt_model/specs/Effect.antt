-- What a statement does on a state.
use Rattle.std.specs.Prelude.{ℕ, zero, suc, ◌-◌, ◌==◌, ◌&&◌, Bool, true, false, not, List, [], ◌∷◌, ◌++◌, map, filter, flat_map, take, length, if◌then◌else◌}
use Rattle.std.specs.List.{list_any}
use Rattle.std.specs.Ordering.{is_eq}
use Rattle.lt_face.specs.Rows.{row_cmp}
use Rattle.lt_model.specs.declared.kind.Kind.{Kind}
use Rattle.lt_model.specs.declared.normal.Term.{Term}
use Rattle.lt_model.specs.declared.normal.Term.TheVariants.{Var, Cell}
use Rattle.lt_model.specs.declared.normal.Atom.{Atom}
use Rattle.lt_model.specs.declared.normal.Body.{Body}
use Rattle.lt_model.specs.declared.normal.Stmt.{Stmt}
use Rattle.lt_model.specs.declared.normal.Stmt.TheVariants.{Insert, Delete, Replace, Require, Print}
use Rattle.lt_face.specs.State.{Row, State}
use Rattle.lt_model.specs.Marks.{Marks, and_then}
use Rattle.lt_model.specs.Answers.{answers, some_answer, ascending}

-- marks, a truth, a printed list, or a clash
pub data Effect : Type 0 where
  Writes : Marks → Effect
  Requires : Bool → Effect
  Prints : List Kind → List Row → Effect
  Clashes : Effect

-- ---- rows

abbrev pub same_row : Row → Row → Bool
same_row a b = is_eq (row_cmp a b)

-- two rows have the same cells in their first columns, the key, and other cells behind them
abbrev pub contend : ℕ → Row → Row → Bool
contend keys a b = same_row (take keys a) (take keys b) && not (same_row a b)

-- two of the rows have one key
abbrev pub has_clash : ℕ → List Row → Bool
has_clash keys rows = list_any (λ a. list_any (contend keys a) rows) rows

-- variables from v on, n of them
abbrev pub fresh : ℕ → ℕ → List Term
fresh v zero = []
fresh v (suc n) = Var v ∷ fresh (suc v) n

-- the row's key as constants, and a variable for each other column
abbrev pub key_terms : ℕ → Row → List Term
key_terms keys row = map Cell (take keys row) ++ fresh 0 (length row - keys)

-- the relation has a row with the row's key
abbrev pub key_body : ℕ → ℕ → Row → Body
key_body relation keys row = record { atoms = record { relation = relation; terms = key_terms keys row } ∷ []; absents = []; tests = []; vars = length row - keys }

-- the rows with the row's key, but not the row itself
abbrev pub displaced_by : ℕ → ℕ → State → Row → List Row
displaced_by relation keys state row = filter (λ other. not (same_row other row)) (answers (key_terms keys row) (key_body relation keys row) state)

-- those of each of the rows
abbrev pub displaced : ℕ → ℕ → State → List Row → List Row
displaced relation keys state rows = ascending (flat_map (displaced_by relation keys state) rows)

-- ---- marks

-- a mark for each row
abbrev pub marks_on : ℕ → Bool → List Row → Marks
marks_on relation plus rows = map (λ row. record { relation = relation; row = row; plus = plus }) rows

-- a mark for each answer of a head
abbrev pub marks_of : Bool → Atom → Body → State → Marks
marks_of plus head body state = marks_on head.relation plus (answers head.terms body state)

-- a relation that has key columns alone is a plain one
abbrev pub is_plain : Atom → ℕ → Bool
is_plain head keys = keys == length head.terms

-- the displaced rows go, and then the rows come
abbrev pub displacing : ℕ → List Row → List Row → Marks
displacing relation gone come = and_then (marks_on relation false gone) (marks_on relation true come)

-- the rows come into the head's relation
abbrev pub coming : Atom → ℕ → List Row → State → Effect
coming head keys rows state =
    if is_plain head keys then Writes (marks_on head.relation true rows)
    else (if has_clash keys rows then Clashes else Writes (displacing head.relation (displaced head.relation keys state rows) rows))

-- marks, and then an effect
abbrev pub behind : Marks → Effect → Effect
behind marks (Writes more) = Writes (and_then marks more)
behind marks (Requires truth) = Requires truth
behind marks (Prints kinds rows) = Prints kinds rows
behind marks Clashes = Clashes

-- ---- statements

abbrev pub effect : Stmt → State → Effect
effect (Insert head keys body) state = coming head keys (answers head.terms body state) state
effect (Delete head body) state = Writes (marks_of false head body state)
effect (Replace gone come keys body) state = behind (marks_of false gone body state) (coming come keys (answers come.terms body state) state)
effect (Require true body) state = Requires (some_answer body state)
effect (Require false body) state = Requires (not (some_answer body state))
effect (Print terms kinds body) state = Prints kinds (answers terms body state)
