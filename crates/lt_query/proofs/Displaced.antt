-- The rows that have a row's key are answers of its body, and the answers are such rows.
use Rattle.std.proofs.Common.{◌≡◌, ℕ, suc, ◌+◌, ◌-◌, ◌≤◌, ◌<◌, Bool, true, false, List, [], ◌∷◌, ◌++◌, map, length, refl, sym, ap, subst, ◌∙◌, arith, inl, inr}
use Rattle.std.specs.List.{AllByRecursion, list_all}
use Rattle.std.specs.Prelude.{◌^◌, take, drop, not, filter, filter_map, flat_map, slice_index_or}
use Rattle.std.proofs.lemmas.Bool.{and_from, lt-ltb, eq-eqb}
use Rattle.std.proofs.lemmas.List.{map-append, take-append-drop, length-take-le, length-drop}
use Rattle.std.proofs.Math.Seq.{take-append_seam}
use Rattle.lt_face.specs.Lists.{IsIn}
use Rattle.lt_face.specs.Rows.{IsCell}
use Rattle.lt_face.proofs.RowLemmas.{ascending-filter}
use Rattle.lt_face.specs.State.{Row, State, Has, rows_in}
use Rattle.lt_face.proofs.Membership.{IsIn-append_left, IsIn-flat_map, IsIn-flat_map_from}
use Rattle.lt_model.specs.declared.normal.Term.{Term}
use Rattle.lt_model.specs.declared.normal.Term.TheVariants.{Var, Cell}
use Rattle.lt_model.specs.Answers.{Assignment, cell_of, cells_of, picks, answer_of, answers}
use Rattle.lt_model.specs.Fits.{IsWide}
use Rattle.lt_model.specs.State.{IsState}
use Rattle.lt_model.proofs.Laws.{same_is, itself}
use Rattle.lt_model.specs.Bound.{is_var, stands, is_known, are_bound}
use Rattle.lt_model.specs.Cells.{is_cell}
use Rattle.lt_model.specs.Effect.{same_row, fresh, key_terms, key_body, displaced_by, displaced}
use Rattle.lt_query.proofs.Ascending.{IsIn-ascending, IsIn-ascending_from, IsAscending-ascending, ascending_same}
use Rattle.lt_query.proofs.Distinct.{IsIn-filter, IsIn-filter_from}
use Rattle.lt_query.proofs.Wide.{state_row, state_rises}
use Rattle.lt_query.proofs.Given.{IsIn-answers_of, IsAnswer-from_answers}
use Rattle.lt_query.proofs.Picks.{any_is}

-- ---- the cells of a row's terms

-- a variable has the cell at its place behind the key
abbrev pub cells_behind : ℕ → Row → Assignment
cells_behind keys row v = slice_index_or (drop keys row) v 0

fresh_cells : (a : Assignment) (v : ℕ) (xs : Row) → ((i : ℕ) → i < length xs → a (v + i) ≡ slice_index_or xs i 0) → map (cell_of a) (fresh v (length xs)) ≡ xs
fresh_cells a v [] h = refl
fresh_cells a v (x ∷ xs) h =
    let here : v + 0 ≡ v = omega arith in
    let first : a v ≡ x = ap a (sym here) ∙ h 0 (omega arith) in
    let rest : map (cell_of a) (fresh (suc v) (length xs)) ≡ xs = fresh_cells a (suc v) xs (λ i less. let there : suc v + i ≡ v + suc i = omega arith in ap a there ∙ h (suc i) (omega arith)) in
    ap (λ (y : ℕ). y ∷ map (cell_of a) (fresh (suc v) (length xs))) first ∙ ap (λ (ys : Row). x ∷ ys) rest

constants : (a : Assignment) (xs : Row) → map (cell_of a) (map Cell xs) ≡ xs
constants a [] = refl
constants a (x ∷ xs) = ap (λ (ys : Row). x ∷ ys) (constants a xs)

key_cells : (a : Assignment) (keys : ℕ) (row : Row) → cells_of a (key_terms keys row) ≡ take keys row ++ map (cell_of a) (fresh 0 (length row - keys))
key_cells a keys row = map-append (cell_of a) (map Cell (take keys row)) (fresh 0 (length row - keys)) ∙ ap (λ (xs : Row). xs ++ map (cell_of a) (fresh 0 (length row - keys))) (constants a (take keys row))

-- another row of the key has these cells
pub other_cells : (keys : ℕ) (row other : Row) → keys ≤ length row → length other ≡ length row → take keys other ≡ take keys row → cells_of (cells_behind keys other) (key_terms keys row) ≡ other
other_cells keys row other less long same =
    let size : length (drop keys other) ≡ length row - keys = length-drop keys other ∙ ap (λ n. n - keys) long in
    let behind : map (cell_of (cells_behind keys other)) (fresh 0 (length row - keys)) ≡ drop keys other =
    subst (λ n. map (cell_of (cells_behind keys other)) (fresh 0 n) ≡ drop keys other) size (fresh_cells (cells_behind keys other) 0 (drop keys other) (λ i h. let there : 0 + i ≡ i = omega arith in ap (cells_behind keys other) there)) in
    key_cells (cells_behind keys other) keys row ∙ ap (λ (xs : Row). xs ++ map (cell_of (cells_behind keys other)) (fresh 0 (length row - keys))) (sym same) ∙ ap (λ (xs : Row). take keys other ++ xs) behind ∙ take-append-drop keys other

-- ---- the body binds all of them

known_among : (ts us : List Term) → ((t : Term) → IsIn t us → IsIn t ts) → list_all (is_known (stands ts)) us ≡ true
known_among ts [] h = refl
known_among ts (u ∷ us) h = and_from (is_known (stands ts) u) (list_all (is_known (stands ts)) us) (one u (h u (inl refl))) (known_among ts us (λ t k. h t (inr k)))
  where
    one : (u : Term) → IsIn u ts → is_known (stands ts) u ≡ true
    one (Var v) k = any_is (is_var v) (Var v) ts k (eq-eqb v v refl)
    one (Cell c) k = refl

pub key_bound : (relation keys : ℕ) (row : Row) → are_bound (key_body relation keys row) (key_terms keys row) ≡ true
key_bound relation keys row = known_among (key_terms keys row ++ []) (key_terms keys row) (λ t h. IsIn-append_left t (key_terms keys row) [] h)

cells_hold : (row : Row) → AllByRecursion IsCell row → list_all is_cell row ≡ true
cells_hold [] h = refl
cells_hold (x ∷ xs) h = and_from (is_cell x) (list_all is_cell xs) (and_from _ _ (lt-ltb 0 x (omega (arith, h.0.0))) (lt-ltb x (2 ^ 120) h.0.1)) (cells_hold xs h.1)

-- ---- answers

pub key_answer : (relation keys : ℕ) (state : State) (row other : Row) → keys ≤ length row → length other ≡ length row → take keys other ≡ take keys row → AllByRecursion IsCell other → Has state relation other → IsIn other (answers (key_terms keys row) (key_body relation keys row) state)
key_answer relation keys state row other less long same cells there =
    let a : Assignment = cells_behind keys other in
    let is : cells_of a (key_terms keys row) ≡ other = other_cells keys row other less long same in
    let held : list_all is_cell (cells_of a (key_terms keys row)) ≡ true = subst (λ (r : Row). list_all is_cell r ≡ true) (sym is) (cells_hold other cells) in
    IsIn-answers_of (key_terms keys row) (key_body relation keys row) state other (tt, tt) (key_bound relation keys row)
    (a, and_from _ _ (and_from _ _ held refl) refl, (subst (λ (r : Row). Has state relation r) (sym is) there, tt), is, tt)

-- what is answered is in the state, and has the key
pub answer_key : (relation keys : ℕ) (state : State) (row other : Row) → keys ≤ length row → IsIn other (answers (key_terms keys row) (key_body relation keys row) state) → Has state relation other × (take keys other ≡ take keys row)
answer_key relation keys state row other less h =
    let x = IsAnswer-from_answers (key_terms keys row) (key_body relation keys row) state other h in
    let front : Row = take keys row in
    let size : length front ≡ keys = length-take-le keys row less in
    let is : front ++ map (cell_of x.0) (fresh 0 (length row - keys)) ≡ other = sym (key_cells x.0 keys row) ∙ x.3 in (
      subst (λ (r : Row). Has state relation r) x.3 x.2.0,
      ap (take keys) (sym is) ∙ ap (λ n. take n (front ++ map (cell_of x.0) (fresh 0 (length row - keys)))) (sym size) ∙ take-append_seam front (map (cell_of x.0) (fresh 0 (length row - keys))),
    )

-- ---- displaced rows

-- a row of the state with the key of one of these, and another one, is displaced
pub is_displaced : (relation keys : ℕ) (state : State) (rows : List Row) (row other : Row) → IsIn row rows → keys ≤ length row → length other ≡ length row → take keys other ≡ take keys row → AllByRecursion IsCell other → Has state relation other → same_row other row ≡ false
    → IsIn other (displaced relation keys state rows)
is_displaced relation keys state rows row other there less long same cells has differ =
    IsIn-ascending other (flat_map (displaced_by relation keys state) rows)
    (IsIn-flat_map (displaced_by relation keys state) row other rows there
    (IsIn-filter (λ r. not (same_row r row)) other (answers (key_terms keys row) (key_body relation keys row) state) (key_answer relation keys state row other less long same cells has) (ap not differ)))

-- what is displaced is in the state, has the key of one of these, and is another row
pub displaced_has : (relation keys : ℕ) (state : State) (rows : List Row) (other : Row) → ((row : Row) → IsIn row rows → keys ≤ length row) → IsIn other (displaced relation keys state rows)
    → (row : Row) × IsIn row rows × Has state relation other × (take keys other ≡ take keys row) × (same_row other row ≡ false)
displaced_has relation keys state rows other long h =
    let found = IsIn-flat_map_from (displaced_by relation keys state) other rows (IsIn-ascending_from other (flat_map (displaced_by relation keys state) rows) h) in
    let kept = IsIn-filter_from (λ r. not (same_row r found.0)) other (answers (key_terms keys found.0) (key_body relation keys found.0) state) found.2 in
    let is = answer_key relation keys state found.0 other (long found.0 found.1) kept.0 in
    (found.0, found.1, is.0, is.1, not_true (same_row other found.0) kept.1)
  where
    not_true : (b : Bool) → not b ≡ true → b ≡ false
    not_true true e = absurd cc
    not_true false e = refl

-- the answers of a key's body are the rows of the relation with that key
pub key_rows : (relation keys : ℕ) (state : State) (row : Row) → IsState state → IsWide state relation (length row) → keys ≤ length row
    → answers (key_terms keys row) (key_body relation keys row) state ≡ filter (λ other. same_row (take keys other) (take keys row)) (rows_in state relation)
key_rows relation keys state row is wide less =
    let with_key : Row → Bool = λ other. same_row (take keys other) (take keys row) in
    ascending_same (answers (key_terms keys row) (key_body relation keys row) state) (filter with_key (rows_in state relation))
    (IsAscending-ascending (filter_map (answer_of (key_terms keys row) (key_body relation keys row) state) (picks (key_body relation keys row).atoms state))) (ascending-filter with_key (rows_in state relation) (state_rises state relation is))
    (
    λ q h.
    let k = answer_key relation keys state row q less h in
    IsIn-filter with_key q (rows_in state relation) k.0 (subst (λ (r : Row). same_row r (take keys row) ≡ true) (sym k.1) (itself (take keys row)))
    )
    (
    λ q h.
    let k = IsIn-filter_from with_key q (rows_in state relation) h in
    let r = state_row state relation (length row) q is wide k.0 in
    key_answer relation keys state row q less r.is_wide (same_is (take keys q) (take keys row) k.1) r.has_cells k.0
    )
