-- One more row of an atom's relation, and the ends of the walk.
use Rattle.std.proofs.Common.{◌≡◌, ℕ, ◌+◌, ◌<◌, ◌≤◌, Bool, true, false, cond, ◌||◌, List, [], ◌∷◌, ◌++◌, length, take, get_or, Option, Some, None, sym, ap, ◌∙◌, arith, append-nil}
use Rattle.std.specs.Prelude.{flat_map, nat_eq}
use Rattle.std.specs.Cmp.Lexicographic.{pointwise}
use Rattle.std.specs.Ordering.{is_eq}
use Rattle.std.specs.List.{cons_option, list_any}
use Rattle.std.proofs.lemmas.List.{take_more, take_all, flat_map_more}
use Rattle.std.proofs.lemmas.List.Folds.{list_any_more, list_any_at}
use Rattle.lt_face.specs.Rows.{row_cmp, has_row}
use Rattle.lt_face.specs.State.{Row, State, rows_in}
use Rattle.lt_model.specs.declared.normal.Term.{Term}
use Rattle.lt_model.specs.declared.normal.Atom.{Atom}
use Rattle.lt_model.specs.declared.normal.Test.{Test}
use Rattle.lt_model.specs.Answers.{Values, cells_of, give_all}
use Rattle.lt_join.specs.Values.{assigned}
use Rattle.lt_answers.proofs.SortedRows.{rows_tie}
use Rattle.lt_reference.specs.Values.{matched}
use Rattle.lt_reference.specs.Walk.{bears, found_from, some_from, leaf}
use Rattle.lt_reference.proofs.WholePicks.{row_found, row_some, found_rows, some_rows, row_found-missed, row_found-met, row_some-missed, row_some-met, found_end, some_end}

-- ---- a row among others

pub among_at : (rows : List Row) (row other : Row) (i : ℕ) → i < length rows → other ≡ get_or rows i other → pointwise nat_eq other row ≡ true → has_row rows row ≡ true
among_at rows row other i in_range is same =
    list_any_at (λ r. is_eq (row_cmp r row)) rows i other in_range (ap (λ r. is_eq (row_cmp r row)) (sym is) ∙ sym (rows_tie other row) ∙ same)

pub among_more : (rows : List Row) (row other : Row) (i : ℕ) → i < length rows → other ≡ get_or rows i other → has_row (take i rows) row ≡ false → pointwise nat_eq other row ≡ false → has_row (take (i + 1) rows) row ≡ false
among_more rows row other i in_range is so_far differs =
    list_any_more (λ r. is_eq (row_cmp r row)) rows i other in_range
    ∙ (ap (λ b. b || is_eq (row_cmp (get_or rows i other) row)) so_far
    ∙ (ap (λ r. is_eq (row_cmp r row)) (sym is) ∙ sym (rows_tie other row) ∙ differs))

-- ---- no atom is left

module _ (terms : List Term) (values all : Values) (tests : List Test) (absents : List Atom) (state : State) (b : Bool) (is : all ≡ give_all values tests) (told : b ≡ bears (assigned all) tests absents state) where
  bears_told : (c : Bool) → b ≡ c → bears (assigned (give_all values tests)) tests absents state ≡ c
  bears_told c e = ap (λ (w : Values). bears (assigned w) tests absents state) (sym is) ∙ sym told ∙ e

  pub leaf_met : (row : Row) → b ≡ true → row ≡ cells_of (assigned all) terms → Some row ≡ leaf terms values tests absents state
  leaf_met row met cells =
      ap (λ (r : Row). Some r) cells
      ∙ ap (λ (w : Values). Some (cells_of (assigned w) terms)) is
      ∙ sym (ap (λ c. cond c (Some (cells_of (assigned (give_all values tests)) terms)) None) (bears_told true met))

  pub leaf_missed : b ≡ false → None ≡ leaf terms values tests absents state
  leaf_missed off = sym (ap (λ c. cond c (Some (cells_of (assigned (give_all values tests)) terms)) None) (bears_told false off))

pub some_at_end : (values : Values) (atoms : List Atom) (tests : List Test) (absents : List Atom) (state : State) → length atoms ≡ 0 → bears (assigned (give_all values tests)) tests absents state ≡ some_from values atoms tests absents state
some_at_end values [] tests absents state h = sym (some_end values tests absents state)
some_at_end values (atom ∷ atoms) tests absents state h = absurd (omega arith)

pub found_at_end : (terms : List Term) (values : Values) (atoms : List Atom) (tests : List Test) (absents : List Atom) (state : State) (answer : Option Row) (old : List Row) → length atoms ≡ 0 → answer ≡ leaf terms values tests absents state → old ++ cons_option answer [] ≡ old ++ found_from terms values atoms tests absents state
found_at_end terms values [] tests absents state answer old h is = ap (λ o. old ++ cons_option o []) is ∙ ap (λ z. old ++ z) (sym (found_end terms values tests absents state))
found_at_end terms values (atom ∷ atoms) tests absents state answer old h is = absurd (omega arith)

-- ---- one more row

module _ (values : Values) (atom : Atom) (atoms : List Atom) (tests : List Test) (absents : List Atom) (state : State) (rows : List Row) (i : ℕ) (row : Row) (in_range : i < length rows) (is : row ≡ get_or rows i row) where
  more_rows : (terms : List Term) (begun old : List Row) → old ≡ begun ++ flat_map (row_found values atom atoms tests absents state terms) (take i rows)
      → old ++ row_found values atom atoms tests absents state terms row ≡ begun ++ flat_map (row_found values atom atoms tests absents state terms) (take (i + 1) rows)
  more_rows terms begun old so_far =
      ap (λ z. z ++ row_found values atom atoms tests absents state terms row) so_far
      ∙ (flat_map_more (row_found values atom atoms tests absents state terms) begun (take i rows) row
      ∙ ap (λ z. begun ++ flat_map (row_found values atom atoms tests absents state terms) z) (ap (λ r. take i rows ++ r ∷ []) is ∙ sym (take_more rows i row in_range)))

  pub found_met : (terms : List Term) (begun old new : List Row) (next : Values) → old ≡ begun ++ flat_map (row_found values atom atoms tests absents state terms) (take i rows) → matched values atom.terms row ≡ Some next
      → new ≡ old ++ found_from terms next atoms tests absents state → new ≡ begun ++ flat_map (row_found values atom atoms tests absents state terms) (take (i + 1) rows)
  found_met terms begun old new next so_far met grown =
      grown ∙ (ap (λ z. old ++ z) (sym (row_found-met values atom atoms tests absents state terms row next met)) ∙ more_rows terms begun old so_far)

  pub found_missed : (terms : List Term) (begun old : List Row) → old ≡ begun ++ flat_map (row_found values atom atoms tests absents state terms) (take i rows) → matched values atom.terms row ≡ None
      → old ≡ begun ++ flat_map (row_found values atom atoms tests absents state terms) (take (i + 1) rows)
  found_missed terms begun old so_far missed =
      sym (append-nil old) ∙ (ap (λ z. old ++ z) (sym (row_found-missed values atom atoms tests absents state terms row missed)) ∙ more_rows terms begun old so_far)

  more_some : (b : Bool) → list_any (row_some values atom atoms tests absents state) (take i rows) ≡ false → row_some values atom atoms tests absents state row ≡ false → list_any (row_some values atom atoms tests absents state) (take (i + 1) rows) ≡ false
  more_some b so_far none =
      list_any_more (row_some values atom atoms tests absents state) rows i row in_range
      ∙ (ap (λ c. c || row_some values atom atoms tests absents state (get_or rows i row)) so_far
      ∙ (ap (row_some values atom atoms tests absents state) (sym is) ∙ none))

  pub some_met : (next : Values) → list_any (row_some values atom atoms tests absents state) (take i rows) ≡ false → matched values atom.terms row ≡ Some next → some_from next atoms tests absents state ≡ false → list_any (row_some values atom atoms tests absents state) (take (i + 1) rows) ≡ false
  some_met next so_far met none = more_some true so_far (row_some-met values atom atoms tests absents state row next met ∙ none)

  pub some_missed : list_any (row_some values atom atoms tests absents state) (take i rows) ≡ false → matched values atom.terms row ≡ None → list_any (row_some values atom atoms tests absents state) (take (i + 1) rows) ≡ false
  some_missed so_far missed = more_some true so_far (row_some-missed values atom atoms tests absents state row missed)

  pub some_there : (all : List Atom) (next : Values) → all ≡ atom ∷ atoms → rows ≡ rows_in state atom.relation → matched values atom.terms row ≡ Some next → some_from next atoms tests absents state ≡ true → some_from values all tests absents state ≡ true
  some_there all next is_all are met there =
      ap (λ z. some_from values z tests absents state) is_all
      ∙ (some_rows values atom atoms tests absents state
      ∙ (ap (list_any (row_some values atom atoms tests absents state)) (sym are)
      ∙ list_any_at (row_some values atom atoms tests absents state) rows i row in_range (ap (row_some values atom atoms tests absents state) (sym is) ∙ (row_some-met values atom atoms tests absents state row next met ∙ there))))

-- ---- all rows

pub found_all : (terms : List Term) (values : Values) (atom : Atom) (atoms all : List Atom) (tests : List Test) (absents : List Atom) (state : State) (rows begun new : List Row) (i : ℕ) → all ≡ atom ∷ atoms → rows ≡ rows_in state atom.relation → length rows ≤ i
    → new ≡ begun ++ flat_map (row_found values atom atoms tests absents state terms) (take i rows) → new ≡ begun ++ found_from terms values all tests absents state
found_all terms values atom atoms all tests absents state rows begun new i is_all are done so_far =
    so_far
    ∙ ap (λ z. begun ++ z) (ap (flat_map (row_found values atom atoms tests absents state terms)) (take_all i rows done ∙ are) ∙ (sym (found_rows values atom atoms tests absents state terms) ∙ ap (λ z. found_from terms values z tests absents state) (sym is_all)))

pub some_all : (values : Values) (atom : Atom) (atoms all : List Atom) (tests : List Test) (absents : List Atom) (state : State) (rows : List Row) (i : ℕ) → all ≡ atom ∷ atoms → rows ≡ rows_in state atom.relation → length rows ≤ i
    → list_any (row_some values atom atoms tests absents state) (take i rows) ≡ false → false ≡ some_from values all tests absents state
some_all values atom atoms all tests absents state rows i is_all are done so_far =
    sym (ap (λ z. some_from values z tests absents state) is_all
    ∙ (some_rows values atom atoms tests absents state ∙ (ap (list_any (row_some values atom atoms tests absents state)) (sym (take_all i rows done ∙ are)) ∙ so_far)))
