-- What programs do doesn't depend on the widths of the relations.
use Rattle.std.proofs.Common.{◌≡◌, ℕ, zero, suc, ◌+◌, List, [], ◌∷◌, refl, sym, ap, ◌∙◌}
use Rattle.lt_face.specs.State.{Row, State, rows_in}
use Rattle.lt_model.specs.declared.normal.Atom.{Atom}
use Rattle.lt_model.specs.declared.normal.Stmt.{Stmt}
use Rattle.lt_model.specs.Effect.{effect}
use Rattle.lt_model.specs.Marks.{Marks, write, change, lay, laid}
use Rattle.lt_model.specs.Run.{Progress, run_on, run_from, run}
use Rattle.lt_query.specs.Needs.{body_of}
use Rattle.lt_program.specs.Run.{displacing_heads}
use Rattle.lt_program.proofs.Alike.{HaveSame, effect_alike}
use Rattle.lt_reference.specs.Run.{lists}
use Rattle.lt_reference.specs.Walk.{bare}

-- the same rows without widths
abbrev plain : State → State
plain state = bare (lists state)

rows_in-plain : (state : State) (r : ℕ) → rows_in (plain state) r ≡ rows_in state r
rows_in-plain [] zero = refl
rows_in-plain [] (suc r) = refl
rows_in-plain (relation ∷ state) zero = refl
rows_in-plain (relation ∷ state) (suc r) = rows_in-plain state r

have_same : (state : State) (atoms : List Atom) → HaveSame (plain state) state atoms
have_same state [] = tt
have_same state (atom ∷ atoms) = (rows_in-plain state atom.relation, have_same state atoms)

effect-plain : (stmt : Stmt) (state : State) → effect stmt (plain state) ≡ effect stmt state
effect-plain stmt state = effect_alike (plain state) state stmt ((have_same state (body_of stmt).atoms, have_same state (body_of stmt).absents), have_same state (displacing_heads stmt))

change-plain : (n : ℕ) (f : List Row → List Row) (state : State) → change n f (plain state) ≡ plain (change n f state)
change-plain n f [] = refl
change-plain zero f (relation ∷ state) = refl
change-plain (suc n) f (relation ∷ state) = ap (λ (s : State). record { width = 0; rows = relation.rows } ∷ s) (change-plain n f state)

pub laid-plain : (state : State) (marks : Marks) → laid (plain state) marks ≡ plain (laid state marks)
laid-plain state [] = refl
laid-plain state (m ∷ marks) = ap (λ (s : State). laid s marks) (change-plain m.relation (write m) state) ∙ laid-plain (lay state m) marks

run_from-plain : (j : ℕ) (program : List Stmt) (state : State) (p : Progress) → run_from j program (plain state) p ≡ run_from j program state p
run_from-plain j [] state p = refl
run_from-plain j (s ∷ program) state p =
    let told : effect s (laid (plain state) p.marks) ≡ effect s (laid state p.marks) = ap (effect s) (laid-plain state p.marks) ∙ effect-plain s (laid state p.marks) in
    let rest : run_from (j + 1) program (plain state) ≡ run_from (j + 1) program state = λ i. λ q. run_from-plain (j + 1) program state q i in
    ap (λ e. run_on j p e (run_from (j + 1) program (plain state))) told ∙ ap (run_on j p (effect s (laid state p.marks))) rest

pub run-plain : (program : List Stmt) (state : State) (rows : List (List Row)) → lists state ≡ rows → run program (bare rows) ≡ run program state
run-plain program state rows is = ap (λ (lists : List (List Row)). run program (bare lists)) (sym is) ∙ run_from-plain 1 program state (record { marks = []; prints = [] })
