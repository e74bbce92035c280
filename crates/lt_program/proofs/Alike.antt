-- What a statement does on two states that have the same rows of the relations that it reads.
use Rattle.std.proofs.Common.{◌≡◌, ℕ, ◌+◌, Bool, true, false, cond, not, ◌&&◌, List, [], ◌∷◌, map, Option, Some, None, refl, ap, ◌∙◌}
use Rattle.std.specs.Prelude.{filter, filter_map, flat_map, if◌then◌else◌}
use Rattle.std.specs.List.{AllByRecursion, list_any}
use Rattle.lt_face.specs.Rows.{has_row}
use Rattle.lt_face.specs.State.{Row, State, rows_in}
use Rattle.lt_model.specs.declared.normal.Term.{Term}
use Rattle.lt_model.specs.declared.normal.Atom.{Atom}
use Rattle.lt_model.specs.declared.normal.Body.{Body}
use Rattle.lt_model.specs.declared.normal.Stmt.{Stmt}
use Rattle.lt_model.specs.declared.normal.Stmt.TheVariants.{Insert, Delete, Replace, Require, Print}
use Rattle.lt_model.specs.Answers.{Assignment, cells_of, rows_under, holds, lacks, rows_eq, picks, answer_of, ascending, answers, fits_pick, assignment_of, some_answer}
use Rattle.lt_model.specs.Effect.{Effect, Writes, Requires, Prints, Clashes, same_row, key_terms, key_body, has_clash, displaced_by, displaced, marks_on, marks_of, is_plain, displacing, coming, behind, effect}
use Rattle.lt_model.specs.Marks.{Marks, laid}
use Rattle.lt_model.specs.Run.{Progress, run_on, run_from, run}
use Rattle.lt_query.specs.Needs.{body_of}
use Rattle.lt_program.specs.Run.{displacing_heads}

-- the states have the same rows of each of these atoms' relations
abbrev pub HaveSame : State → State → List Atom → Type 0
HaveSame s t atoms = AllByRecursion (λ (atom : Atom). rows_in s atom.relation ≡ rows_in t atom.relation) atoms

-- and of each relation that the body reads
abbrev pub AreAlikeFor : State → State → Body → Type 0
AreAlikeFor s t body = HaveSame s t body.atoms × HaveSame s t body.absents

-- and of the relation of which the statement displaces rows
abbrev pub AreAlikeIn : State → State → Stmt → Type 0
AreAlikeIn s t stmt = AreAlikeFor s t (body_of stmt) × HaveSame s t (displacing_heads stmt)

module _ (s t : State) where
  picks_alike : (atoms : List Atom) → HaveSame s t atoms → picks atoms s ≡ picks atoms t
  picks_alike [] h = refl
  picks_alike (atom ∷ atoms) h =
      ap (λ (ps : List (List Row)). flat_map (λ (row : Row). map (λ (pick : List Row). row ∷ pick) ps) (rows_in s atom.relation)) (picks_alike atoms h.1)
      ∙ ap (λ (rows : List Row). flat_map (λ (row : Row). map (λ (pick : List Row). row ∷ pick) (picks atoms t)) rows) h.0

  lacks_alike : (a : Assignment) (absents : List Atom) → HaveSame s t absents → lacks a absents s ≡ lacks a absents t
  lacks_alike a [] h = refl
  lacks_alike a (atom ∷ absents) h =
      ap (λ (rows : List Row). not (has_row rows (cells_of a atom.terms)) && lacks a absents s) h.0
      ∙ ap (λ b. not (has_row (rows_in t atom.relation) (cells_of a atom.terms)) && b) (lacks_alike a absents h.1)

  fits_alike : (body : Body) (pick : List Row) → HaveSame s t body.absents → fits_pick body s (assignment_of body pick) pick ≡ fits_pick body t (assignment_of body pick) pick
  fits_alike body pick h = ap (λ b. rows_eq (rows_under (assignment_of body pick) body.atoms) pick && (holds (assignment_of body pick) body && b)) (lacks_alike (assignment_of body pick) body.absents h)

  pub answers_alike : (terms : List Term) (body : Body) → AreAlikeFor s t body → answers terms body s ≡ answers terms body t
  answers_alike terms body h =
      let each : answer_of terms body s ≡ answer_of terms body t = λ i. λ pick. ap (λ b. cond b (Some (cells_of (assignment_of body pick) terms)) None) (fits_alike body pick h.1) i in
      ap (λ (f : List Row → Option Row). ascending (filter_map f (picks body.atoms s))) each
      ∙ ap (λ (ps : List (List Row)). ascending (filter_map (answer_of terms body t) ps)) (picks_alike body.atoms h.0)

  pub some_alike : (body : Body) → AreAlikeFor s t body → some_answer body s ≡ some_answer body t
  some_alike body h =
      let each : (λ (pick : List Row). fits_pick body s (assignment_of body pick) pick) ≡ (λ (pick : List Row). fits_pick body t (assignment_of body pick) pick) = λ i. λ pick. fits_alike body pick h.1 i in
      ap (λ (f : List Row → Bool). list_any f (picks body.atoms s)) each
      ∙ ap (λ (ps : List (List Row)). list_any (λ (pick : List Row). fits_pick body t (assignment_of body pick) pick) ps) (picks_alike body.atoms h.0)

  marks_alike : (plus : Bool) (head : Atom) (body : Body) → AreAlikeFor s t body → marks_of plus head body s ≡ marks_of plus head body t
  marks_alike plus head body h = ap (map (λ row. record { relation = head.relation; row = row; plus = plus })) (answers_alike head.terms body h)

  pub displaced_alike : (relation keys : ℕ) (rows : List Row) → rows_in s relation ≡ rows_in t relation → displaced relation keys s rows ≡ displaced relation keys t rows
  displaced_alike relation keys rows h =
      let each : displaced_by relation keys s ≡ displaced_by relation keys t = λ i. λ row. ap (filter (λ other. not (same_row other row))) (answers_alike (key_terms keys row) (key_body relation keys row) ((h, tt), tt)) i in
      ap (λ (f : Row → List Row). ascending (flat_map f rows)) each

  coming_alike : (head : Atom) (keys : ℕ) (rows : List Row) → HaveSame s t (if is_plain head keys then [] else head ∷ []) → coming head keys rows s ≡ coming head keys rows t
  coming_alike head keys rows h =
      elim (is_plain head keys) as (λ b. HaveSame s t (cond b [] (head ∷ [])) → cond b plain (keyed (displaced head.relation keys s rows)) ≡ cond b plain (keyed (displaced head.relation keys t rows))) [
        | true ↦ λ same. refl
        | false ↦ λ same. ap keyed (displaced_alike head.relation keys rows same.0)
      ] h
    where
      plain : Effect
      plain = Writes (marks_on head.relation true rows)

      keyed : List Row → Effect
      keyed gone = cond (has_clash keys rows) Clashes (Writes (displacing head.relation gone rows))

  heads_alike : (head : Atom) (keys : ℕ) (body : Body) → AreAlikeFor s t body → HaveSame s t (if is_plain head keys then [] else head ∷ []) → coming head keys (answers head.terms body s) s ≡ coming head keys (answers head.terms body t) t
  heads_alike head keys body h same = coming_alike head keys (answers head.terms body s) same ∙ ap (λ rows. coming head keys rows t) (answers_alike head.terms body h)

  pub effect_alike : (stmt : Stmt) → AreAlikeIn s t stmt → effect stmt s ≡ effect stmt t
  effect_alike (Insert head keys body) h = heads_alike head keys body h.0 h.1
  effect_alike (Delete head body) h = ap Writes (marks_alike false head body h.0)
  effect_alike (Replace gone come keys body) h =
      ap (λ m. behind m (coming come keys (answers come.terms body s) s)) (marks_alike false gone body h.0)
      ∙ ap (behind (marks_of false gone body t)) (heads_alike come keys body h.0 h.1)
  effect_alike (Require true body) h = ap Requires (some_alike body h.0)
  effect_alike (Require false body) h = ap (λ b. Requires (not b)) (some_alike body h.0)
  effect_alike (Print terms kinds body) h = ap (Prints kinds) (answers_alike terms body h.0)

-- ---- whole runs

-- whatever marks are laid on both, the states are alike for each statement
abbrev pub StayAlikeFor : State → State → List Stmt → Type 0
StayAlikeFor s t program = AllByRecursion (λ (stmt : Stmt). (marks : Marks) → AreAlikeIn (laid s marks) (laid t marks) stmt) program

run_from_alike : (j : ℕ) (program : List Stmt) (s t : State) (p : Progress) → StayAlikeFor s t program → run_from j program s p ≡ run_from j program t p
run_from_alike j [] s t p h = refl
run_from_alike j (stmt ∷ program) s t p h =
    let told : effect stmt (laid s p.marks) ≡ effect stmt (laid t p.marks) = effect_alike (laid s p.marks) (laid t p.marks) stmt (h.0 p.marks) in
    let rest : run_from (j + 1) program s ≡ run_from (j + 1) program t = λ i. λ q. run_from_alike (j + 1) program s t q h.1 i in
    ap (λ e. run_on j p e (run_from (j + 1) program s)) told ∙ ap (run_on j p (effect stmt (laid t p.marks))) rest

pub run_alike : (program : List Stmt) (s t : State) → StayAlikeFor s t program → run program s ≡ run program t
run_alike program s t h = run_from_alike 1 program s t (record { marks = []; prints = [] }) h
