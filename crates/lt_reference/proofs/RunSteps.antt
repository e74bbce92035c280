-- One more statement of a run.
use Rattle.std.proofs.Common.{◌≡◌, ℕ, suc, ◌+◌, ◌<◌, List, [], ◌∷◌, length, drop, drop-cons, add-one, get_or, sym, ap, ◌∙◌, subst}
use Rattle.std.specs.List.{AllByRecursion}
use Rattle.lt_face.specs.Rows.{IsCell}
use Rattle.lt_face.specs.State.{State}
use Rattle.lt_model.specs.declared.normal.Stmt.{Stmt}
use Rattle.lt_model.specs.declared.reply.Reply.{Reply}
use Rattle.lt_model.specs.declared.reply.Reply.TheVariants.{Refused}
use Rattle.lt_model.specs.Effect as model
use Rattle.lt_model.specs.Laws.{Rises}
use Rattle.lt_model.specs.Marks.{Marks, AreMarks, laid}
use Rattle.lt_model.specs.Run.{run_on, run_from}
use Rattle.lt_model.proofs.Composition.{laid_twice, AreMarks-and_then}
use Rattle.lt_program.specs.declared.effect.Effect.{Effect}
use Rattle.lt_program.specs.declared.effect.Effect.TheVariants.{Writes, Requires, Prints, Clashes}
use Rattle.lt_reference.specs.declared.progress.Progress.{Progress}
use Rattle.lt_program.specs.Effect.{view, HaveCells}
use Rattle.lt_program.proofs.LaidRows.{HasCells, HasCells-laid}
use Rattle.lt_reference.specs.Ready.{WritesCells}
use Rattle.lt_reference.specs.Run.{so_far, written, Follows, Stops}
use Rattle.lt_reference.specs.Walk.{AreCells, bare}
use Rattle.lt_reference.proofs.LaidRows.{Rises-laid, bare_each, each_bare}

written_cells : (e : Effect) → WritesCells e → HaveCells (written e)
written_cells (Writes marks) h = h
written_cells (Requires holds) h = tt
written_cells (Prints kinds rows) h = tt
written_cells Clashes h = tt

-- an effect that refuses the program ends the run
pub refused_step : (base : State) (e : Effect) (p : Progress) (prog : List Stmt) (i : ℕ) (stmt : Stmt) (all : Reply × Marks) → bare p.relations.items ≡ laid base p.marks → Stops (i + 1) e p → i < length prog → stmt ≡ get_or prog i stmt
    → view e ≡ model.effect stmt (bare p.relations.items) → run_from (i + 1) (drop i prog) base (so_far p) ≡ all → (Refused (i + 1), []) ≡ all
refused_step base e p prog i stmt all lays stops lt is told h =
    let seen : view e ≡ model.effect stmt (laid base p.marks) = told ∙ ap (model.effect stmt) lays in
    let left : drop i prog ≡ stmt ∷ drop (i + 1) prog = rw add-one (drop-cons prog i stmt lt ∙ ap (λ s. s ∷ drop (suc i) prog) (sym is)) in
    sym (stops.ends (run_from (i + 1 + 1) (drop (i + 1) prog) base))
    ∙ (ap (λ v. run_on (i + 1) (so_far p) v (run_from (i + 1 + 1) (drop (i + 1) prog) base)) seen
    ∙ (sym (ap (λ (stmts : List Stmt). run_from (i + 1) stmts base (so_far p)) left) ∙ h))

module _ (base : State) (number : ℕ) (e : Effect) (p q : Progress) (follows : Follows number e p q) (lays : bare p.relations.items ≡ laid base p.marks) (ascending : AreMarks p.marks) where
  pub rest_step : (prog : List Stmt) (i : ℕ) (stmt : Stmt) (all : Reply × Marks) → number ≡ i + 1 → i < length prog → stmt ≡ get_or prog i stmt → view e ≡ model.effect stmt (bare p.relations.items)
      → run_from (i + 1) (drop i prog) base (so_far p) ≡ all → run_from (i + 1 + 1) (drop (i + 1) prog) base (so_far q) ≡ all
  rest_step prog i stmt all is_number lt is told h =
      let seen : view e ≡ model.effect stmt (laid base p.marks) = told ∙ ap (model.effect stmt) lays in
      let left : drop i prog ≡ stmt ∷ drop (i + 1) prog = rw add-one (drop-cons prog i stmt lt ∙ ap (λ s. s ∷ drop (suc i) prog) (sym is)) in
      sym (follows.goes_on (run_from (i + 1 + 1) (drop (i + 1) prog) base))
      ∙ (ap (λ v. run_on number (so_far p) v (run_from (i + 1 + 1) (drop (i + 1) prog) base)) seen
      ∙ (ap (λ n. run_on n (so_far p) (model.effect stmt (laid base p.marks)) (run_from (i + 1 + 1) (drop (i + 1) prog) base)) is_number
      ∙ (sym (ap (λ (stmts : List Stmt). run_from (i + 1) stmts base (so_far p)) left) ∙ h)))

  pub lays_step : Rises base → bare q.relations.items ≡ laid base q.marks
  lays_step up = follows.lays ∙ (ap (λ (s : State). laid s (written e)) lays ∙ (laid_twice base p.marks (written e) up ascending ∙ ap (laid base) (sym follows.marks)))

  pub ascending_step : AreMarks q.marks
  ascending_step = subst AreMarks (sym follows.marks) (AreMarks-and_then p.marks (written e) ascending)

  pub rises_step : Rises (bare p.relations.items) → Rises (bare q.relations.items)
  rises_step up = subst Rises (sym follows.lays) (Rises-laid (bare p.relations.items) (written e) up)

  pub cells_step : WritesCells e → AreCells p.relations.items → AreCells q.relations.items
  cells_step writes cells =
      each_bare (AllByRecursion (AllByRecursion IsCell)) q.relations.items
      (subst HasCells (sym follows.lays) (HasCells-laid (bare p.relations.items) (written e) (written_cells e writes) (bare_each (AllByRecursion (AllByRecursion IsCell)) p.relations.items cells)))
