-- The rows that rows displace, found by comparing each of them with each row of the relation.
use Rattle.std.proofs.Common.{◌≡◌, ℕ, zero, suc, ◌+◌, ◌-◌, ◌≤◌, ◌&&◌, Bool, true, false, List, [], ◌∷◌, map, length, take, refl, sym, ap, subst, ◌∙◌, arith}
use Rattle.std.specs.Prelude.{◌==◌, not, filter, flat_map, nat_eq}
use Rattle.std.specs.Cmp.Lexicographic.{pointwise}
use Rattle.std.specs.List.{AllByRecursion}
use Rattle.std.proofs.lemmas.Bool.{and_parts, and_from, eqb-true, eq-eqb}
use Rattle.std.proofs.lemmas.List.{length-map, length-append, length-take-le}
use Rattle.lt_face.specs.Lists.{IsIn}
use Rattle.lt_face.specs.Rows.{IsCell}
use Rattle.lt_face.specs.State.{Row, State, Has, rows_in}
use Rattle.lt_face.proofs.Membership.{IsIn-flat_map, IsIn-flat_map_from}
use Rattle.lt_answers.proofs.SortedRows.{rows_tie}
use Rattle.lt_model.specs.declared.normal.Term.TheVariants.{Cell}
use Rattle.lt_model.specs.Answers.{answers}
use Rattle.lt_model.specs.Effect.{same_row, contend, fresh, key_terms, key_body, displaced_by, displaced}
use Rattle.lt_model.proofs.Laws.{same_is, itself}
use Rattle.lt_program.proofs.LaidRows.{HasCells}
use Rattle.lt_query.proofs.Ascending.{IsIn-ascending, IsIn-ascending_from, IsAscending-ascending, ascending_same}
use Rattle.lt_query.proofs.Displaced.{is_displaced, answer_key}
use Rattle.lt_query.proofs.Distinct.{IsIn-filter, IsIn-filter_from}
use Rattle.lt_query.proofs.Elements.{All_from}
use Rattle.lt_query.proofs.Wide.{answers_wide, each_in}
use Rattle.lt_reference.specs.Ready.{AreRows}
use Rattle.lt_reference.specs.Rivals.{is_rival, rivals_of}

-- ---- two rows

not_true : (b : Bool) → not b ≡ true → b ≡ false
not_true true e = absurd cc
not_true false e = refl

not_false : (b : Bool) → not b ≡ false → b ≡ true
not_false true e = refl
not_false false e = absurd cc

contend_is : (keys : ℕ) (a b : Row) → contend keys a b ≡ (pointwise nat_eq (take keys a) (take keys b) && not (pointwise nat_eq a b))
contend_is keys a b =
    ap (λ t. t && not (same_row a b)) (sym (rows_tie (take keys a) (take keys b)))
    ∙ ap (λ t. pointwise nat_eq (take keys a) (take keys b) && not t) (sym (rows_tie a b))

module _ (keys : ℕ) (a b x y : Row) (n : Bool) (first : x ≡ take keys a) (second : y ≡ take keys b) (told : n ≡ not (pointwise nat_eq x y)) where
  keys_told : n ≡ not (pointwise nat_eq (take keys a) (take keys b))
  keys_told = told ∙ (ap (λ (r : Row). not (pointwise nat_eq r y)) first ∙ ap (λ (r : Row). not (pointwise nat_eq (take keys a) r)) second)

  pub other_key : n ≡ true → false ≡ contend keys a b
  other_key e = sym (contend_is keys a b ∙ ap (λ t. t && not (pointwise nat_eq a b)) (not_true (pointwise nat_eq (take keys a) (take keys b)) (sym keys_told ∙ e)))

  pub same_key : (m : Bool) → n ≡ false → m ≡ not (pointwise nat_eq a b) → m ≡ contend keys a b
  same_key m e differ = differ ∙ sym (contend_is keys a b ∙ ap (λ t. t && not (pointwise nat_eq a b)) (not_false (pointwise nat_eq (take keys a) (take keys b)) (sym keys_told ∙ e)))

-- ---- rows of a state

pub cells_in : (state : State) (relation : ℕ) (row : Row) → HasCells state → Has state relation row → AllByRecursion IsCell row
cells_in [] relation row cells h = absurd h
cells_in (r ∷ state) zero row cells h = each_in (AllByRecursion IsCell) row r.rows cells.0 h
cells_in (r ∷ state) (suc relation) row cells h = cells_in state relation row cells.1 h

fresh_wide : (v n : ℕ) → length (fresh v n) ≡ n
fresh_wide v zero = refl
fresh_wide v (suc n) = ap suc (fresh_wide (suc v) n)

key_wide : (keys : ℕ) (row : Row) → keys ≤ length row → length (key_terms keys row) ≡ length row
key_wide keys row less =
    let front : length (map Cell (take keys row)) ≡ keys = length-map (take keys row) Cell ∙ length-take-le keys row less in
    let rest : length (fresh 0 (length row - keys)) ≡ length row - keys = fresh_wide 0 (length row - keys) in
    let all : length (key_terms keys row) ≡ length (map Cell (take keys row)) + length (fresh 0 (length row - keys)) = length-append (map Cell (take keys row)) (fresh 0 (length row - keys)) in
    all ∙ (ap (λ n. n + length (fresh 0 (length row - keys))) front ∙ (ap (λ n. keys + n) rest ∙ omega (arith, less)))

-- what is an answer of its key is as wide
answer_wide : (relation keys : ℕ) (state : State) (row other : Row) → keys ≤ length row → IsIn other (answers (key_terms keys row) (key_body relation keys row) state) → length other ≡ length row
answer_wide relation keys state row other less h =
    each_in (λ r. length r ≡ length (key_terms keys row)) other (answers (key_terms keys row) (key_body relation keys row) state) (answers_wide (key_terms keys row) (key_body relation keys row) state) h
    ∙ key_wide keys row less

-- ---- displaced rows

module _ (relation keys width : ℕ) (state : State) (rows : List Row) (cells : HasCells state) (less : keys ≤ width) (wide : AllByRecursion (λ row. length row ≡ width) rows) where
  long : (row : Row) → IsIn row rows → keys ≤ length row
  long row there = subst (λ n. keys ≤ n) (sym (each_in (λ r. length r ≡ width) row rows wide there)) less

  rival_displaced : (q : Row) → IsIn q (rivals_of keys rows (rows_in state relation)) → IsIn q (displaced relation keys state rows)
  rival_displaced q h =
      let found = IsIn-flat_map_from (λ row. filter (is_rival keys row) (rows_in state relation)) q rows (IsIn-ascending_from q (flat_map (λ row. filter (is_rival keys row) (rows_in state relation)) rows) h) in
      let row : Row = found.0 in
      let kept = IsIn-filter_from (is_rival keys row) q (rows_in state relation) found.2 in
      let parts = and_parts (length q == length row) (contend keys q row) kept.1 in
      let both = and_parts (same_row (take keys q) (take keys row)) (not (same_row q row)) parts.1 in
      is_displaced relation keys state rows row q found.1 (long row found.1) (eqb-true (length q) (length row) parts.0) (same_is (take keys q) (take keys row) both.0) (cells_in state relation q cells kept.0) kept.0 (not_true (same_row q row) both.1)

  displaced_rival : (q : Row) → IsIn q (displaced relation keys state rows) → IsIn q (rivals_of keys rows (rows_in state relation))
  displaced_rival q h =
      let found = IsIn-flat_map_from (displaced_by relation keys state) q rows (IsIn-ascending_from q (flat_map (displaced_by relation keys state) rows) h) in
      let row : Row = found.0 in
      let kept = IsIn-filter_from (λ r. not (same_row r row)) q (answers (key_terms keys row) (key_body relation keys row) state) found.2 in
      let is = answer_key relation keys state row q (long row found.1) kept.0 in
      let as_wide : length q ≡ length row = answer_wide relation keys state row q (long row found.1) kept.0 in
      let one_key : same_row (take keys q) (take keys row) ≡ true = subst (λ (r : Row). same_row r (take keys row) ≡ true) (sym is.1) (itself (take keys row)) in
      IsIn-ascending q (flat_map (λ row. filter (is_rival keys row) (rows_in state relation)) rows)
      (IsIn-flat_map (λ row. filter (is_rival keys row) (rows_in state relation)) row q rows found.1
      (IsIn-filter (is_rival keys row) q (rows_in state relation) is.0
      (and_from (length q == length row) (contend keys q row) (eq-eqb (length q) (length row) as_wide) (and_from (same_row (take keys q) (take keys row)) (not (same_row q row)) one_key kept.1))))

  pub rivals_are : rivals_of keys rows (rows_in state relation) ≡ displaced relation keys state rows
  rivals_are =
      ascending_same (rivals_of keys rows (rows_in state relation)) (displaced relation keys state rows)
      (IsAscending-ascending (flat_map (λ row. filter (is_rival keys row) (rows_in state relation)) rows)) (IsAscending-ascending (flat_map (displaced_by relation keys state) rows))
      rival_displaced displaced_rival

pub rivals_cells : (relation keys : ℕ) (state : State) (rows : List Row) → HasCells state → AreRows (rivals_of keys rows (rows_in state relation))
rivals_cells relation keys state rows cells =
    All_from (AllByRecursion IsCell) (rivals_of keys rows (rows_in state relation))
    (
    λ q h.
    let found = IsIn-flat_map_from (λ row. filter (is_rival keys row) (rows_in state relation)) q rows (IsIn-ascending_from q (flat_map (λ row. filter (is_rival keys row) (rows_in state relation)) rows) h) in
    cells_in state relation q cells (IsIn-filter_from (is_rival keys found.0) q (rows_in state relation) found.2).0
    )
