-- What the picks are, and what an answer is.
use Rattle.std.specs.Prelude.{◌≡◌, Bool, true, false, not, ◌&&◌, List, [], ◌∷◌, map, Some, None}
use Rattle.std.specs.List.{filter_map, list_any}
use Rattle.std.proofs.Common.{refl, sym, ap, ◌∙◌, subst, inl, inr, cond}
use Rattle.std.proofs.lemmas.Bool.{and_parts, and_from, or_cases, or_left, or_right, true≢false}
use Rattle.lt_model.specs.declared.normal.Term.{Term}
use Rattle.lt_model.specs.declared.normal.Atom.{Atom}
use Rattle.lt_model.specs.declared.normal.Body.{Body}
use Rattle.lt_face.specs.Lists.{IsIn}
use Rattle.lt_face.specs.Rows.{has_row}
use Rattle.lt_face.specs.State.{Row, State, rows_in}
use Rattle.lt_model.specs.Answers.{Assignment, cells_of, holds, rows_eq, rows_under, picks, lacks, fits_pick, answer_of, assignment_of, answers, some_answer}
use Rattle.lt_model.proofs.Laws.{same_is, itself}
use Rattle.lt_query.specs.Answering.{Stands, Lacks}
use Rattle.lt_face.proofs.Membership.{IsIn-map, IsIn-map_from, IsIn-flat_map, IsIn-flat_map_from, IsIn-filter_map, IsIn-filter_map_from}
use Rattle.lt_query.proofs.Ascending.{IsIn-ascending, IsIn-ascending_from, has_row-true, has_row_is}

pub rows_eq-true : (x y : List Row) → rows_eq x y ≡ true → x ≡ y
rows_eq-true [] [] h = refl
rows_eq-true [] (y ∷ ys) h = cc
rows_eq-true (x ∷ xs) [] h = cc
rows_eq-true (x ∷ xs) (y ∷ ys) h =
    let both = and_parts _ _ h in
    let head : x ≡ y = same_is x y both.0 in
    let tail : xs ≡ ys = rows_eq-true xs ys both.1 in cc

pub rows_eq_itself : (x : List Row) → rows_eq x x ≡ true
rows_eq_itself [] = refl
rows_eq_itself (x ∷ xs) = and_from _ _ (itself x) (rows_eq_itself xs)

-- the rows of an assignment are a pick where the state has them
pub IsIn-picks : (a : Assignment) (atoms : List Atom) (state : State) → Stands a atoms state → IsIn (rows_under a atoms) (picks atoms state)
IsIn-picks a [] state h = inl refl
IsIn-picks a (atom ∷ atoms) state h =
    IsIn-flat_map (λ row. map (λ pick. row ∷ pick) (picks atoms state)) (cells_of a atom.terms) (rows_under a (atom ∷ atoms)) (rows_in state atom.relation) h.0
    (IsIn-map (λ pick. cells_of a atom.terms ∷ pick) (rows_under a atoms) (picks atoms state) (IsIn-picks a atoms state h.1))

pub Stands-from_picks : (a : Assignment) (atoms : List Atom) (state : State) → IsIn (rows_under a atoms) (picks atoms state) → Stands a atoms state
Stands-from_picks a [] state h = tt
Stands-from_picks a (atom ∷ atoms) state h =
    let split = IsIn-flat_map_from (λ row. map (λ pick. row ∷ pick) (picks atoms state)) (rows_under a (atom ∷ atoms)) (rows_in state atom.relation) h in
    let whole = IsIn-map_from (λ pick. split.0 ∷ pick) (rows_under a (atom ∷ atoms)) (picks atoms state) split.2 in
    let first : split.0 ≡ cells_of a atom.terms = let e = whole.2 in cc in
    let rest : whole.0 ≡ rows_under a atoms = let e = whole.2 in cc in
    (subst (λ r. IsIn r (rows_in state atom.relation)) first split.1, Stands-from_picks a atoms state (subst (λ p. IsIn p (picks atoms state)) rest whole.1))

pub any_is : {X : Type 0} (p : X → Bool) (x : X) (xs : List X) → IsIn x xs → p x ≡ true → list_any p xs ≡ true
any_is p x [] h e = absurd h
any_is p x (y ∷ xs) h e = elim h [ inl q ↦ or_left (p y) (list_any p xs) (ap p q ∙ e) | inr r ↦ or_right (p y) (list_any p xs) (any_is p x xs r e) ]

pub any-true : {X : Type 0} (p : X → Bool) (xs : List X) → list_any p xs ≡ true → (x : X) × IsIn x xs × (p x ≡ true)
any-true p [] h = absurd (cc)
any-true p (x ∷ xs) h = elim (or_cases (p x) (list_any p xs) h) [ inl e ↦ (x, inl refl, e) | inr r ↦ let f = any-true p xs r in (f.0, inr f.1, f.2) ]

cond_some : {X : Type 0} (b : Bool) (x y : X) → cond b (Some x) None ≡ Some y → (b ≡ true) × (x ≡ y)
cond_some true x y e = (refl, let p = e in cc)
cond_some false x y e = cc

-- ---- absent rows

pub Lacks-from : (a : Assignment) (absents : List Atom) (state : State) → lacks a absents state ≡ true → Lacks a absents state
Lacks-from a [] state h = tt
Lacks-from a (atom ∷ absents) state h =
    let both = and_parts (not (has_row (rows_in state atom.relation) (cells_of a atom.terms))) (lacks a absents state) h in
    (λ there. true≢false (sym both.0 ∙ ap not (has_row_is (rows_in state atom.relation) (cells_of a atom.terms) there)), Lacks-from a absents state both.1)

pub lacks_is : (a : Assignment) (absents : List Atom) (state : State) → Lacks a absents state → lacks a absents state ≡ true
lacks_is a [] state h = refl
lacks_is a (atom ∷ absents) state h =
    and_from (not (has_row (rows_in state atom.relation) (cells_of a atom.terms))) (lacks a absents state) (elim (has_row (rows_in state atom.relation) (cells_of a atom.terms)) as (λ b. has_row (rows_in state atom.relation) (cells_of a atom.terms) ≡ b → not b ≡ true) [
      | true ↦ λ e. absurd (h.0 (has_row-true (rows_in state atom.relation) (cells_of a atom.terms) e))
      | false ↦ λ e. refl
    ] refl) (lacks_is a absents state h.1)

-- an answer is the terms' cells under the assignment of a pick
pub IsIn-answers_from : (terms : List Term) (body : Body) (state : State) (row : Row) → IsIn row (answers terms body state) → (pick : List Row) × IsIn pick (picks body.atoms state) × (rows_under (assignment_of body pick) body.atoms ≡ pick) × (holds (assignment_of body pick) body ≡ true) × (cells_of (assignment_of body pick) terms ≡ row) × Lacks (assignment_of body pick) body.absents state
IsIn-answers_from terms body state row h =
    let found = IsIn-filter_map_from (answer_of terms body state) row (picks body.atoms state) (IsIn-ascending_from row (filter_map (answer_of terms body state) (picks body.atoms state)) h) in
    let fits = cond_some (fits_pick body state (assignment_of body found.0) found.0) (cells_of (assignment_of body found.0) terms) row found.2 in
    let parts = and_parts (rows_eq (rows_under (assignment_of body found.0) body.atoms) found.0) (holds (assignment_of body found.0) body && lacks (assignment_of body found.0) body.absents state) fits.0 in
    let more = and_parts (holds (assignment_of body found.0) body) (lacks (assignment_of body found.0) body.absents state) parts.1 in
    (found.0, found.1, rows_eq-true _ _ parts.0, more.0, fits.1, Lacks-from (assignment_of body found.0) body.absents state more.1)

pub IsIn-answers : (terms : List Term) (body : Body) (state : State) (pick : List Row) → IsIn pick (picks body.atoms state) → rows_under (assignment_of body pick) body.atoms ≡ pick → holds (assignment_of body pick) body ≡ true → Lacks (assignment_of body pick) body.absents state → IsIn (cells_of (assignment_of body pick) terms) (answers terms body state)
IsIn-answers terms body state pick at same held none =
    let fits : fits_pick body state (assignment_of body pick) pick ≡ true = and_from _ _ (rw same (rows_eq_itself pick)) (and_from _ _ held (lacks_is (assignment_of body pick) body.absents state none)) in
    let answer : answer_of terms body state pick ≡ Some (cells_of (assignment_of body pick) terms) = ap (λ b. cond b (Some (cells_of (assignment_of body pick) terms)) None) fits in
    IsIn-ascending _ (filter_map (answer_of terms body state) (picks body.atoms state)) (IsIn-filter_map (answer_of terms body state) pick _ (picks body.atoms state) at answer)

-- there is an answer where the rows of an assignment that holds are a pick
pub some_answer_is : (body : Body) (state : State) (pick : List Row) → IsIn pick (picks body.atoms state) → rows_under (assignment_of body pick) body.atoms ≡ pick → holds (assignment_of body pick) body ≡ true → Lacks (assignment_of body pick) body.absents state → some_answer body state ≡ true
some_answer_is body state pick at same held none =
    any_is (λ p. fits_pick body state (assignment_of body p) p) pick (picks body.atoms state) at (and_from _ _ (rw same (rows_eq_itself pick)) (and_from _ _ held (lacks_is (assignment_of body pick) body.absents state none)))

pub some_answer-true : (body : Body) (state : State) → some_answer body state ≡ true → (pick : List Row) × IsIn pick (picks body.atoms state) × (rows_under (assignment_of body pick) body.atoms ≡ pick) × (holds (assignment_of body pick) body ≡ true) × Lacks (assignment_of body pick) body.absents state
some_answer-true body state h =
    let found = any-true (λ p. fits_pick body state (assignment_of body p) p) (picks body.atoms state) h in
    let parts = and_parts (rows_eq (rows_under (assignment_of body found.0) body.atoms) found.0) (holds (assignment_of body found.0) body && lacks (assignment_of body found.0) body.absents state) found.2 in
    let more = and_parts (holds (assignment_of body found.0) body) (lacks (assignment_of body found.0) body.absents state) parts.1 in
    (found.0, found.1, rows_eq-true _ _ parts.0, more.0, Lacks-from (assignment_of body found.0) body.absents state more.1)
