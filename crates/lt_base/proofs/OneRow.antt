-- One row put into a relation and into its indexes, or taken out.
use Rattle.std.proofs.Common.{◌≡◌, ℕ, zero, suc, ◌+◌, ◌<◌, Bool, true, false, not, List, [], ◌∷◌, ◌++◌, length, map, take, drop, get_or, set, Some, refl, sym, ap, ◌∙◌, subst, arith}
use Rattle.std.specs.Bool.{beq}
use Rattle.std.specs.Prelude.{if◌then◌else◌}
use Rattle.std.specs.List.{AllByRecursion, slice_get}
use Rattle.lt_face.specs.Rows.{IsAscending, IsRow, has_row}
use Rattle.lt_face.specs.State.{Row, State, rows_in, permuted}
use Rattle.lt_face.proofs.RowLemmas.{without_row-absent}
use Rattle.lt_model.specs.declared.mark.Mark.{Mark}
use Rattle.lt_model.specs.Fits.{IsWide, FitMarks}
use Rattle.lt_model.specs.Marks.{Marks, write, change, lay, laid}
use Rattle.lt_over.specs.Edits.{edited, is_change}
use Rattle.lt_over.proofs.Overlays.{with_there}
use Rattle.lt_delta.specs.Columns.{IsPermuted}
use Rattle.lt_delta.proofs.Kept.{FitMarks-lay}
use Rattle.lt_base.specs.declared.index.Index.{Index}
use Rattle.lt_base.specs.Edited.{table_edited}
use Rattle.lt_base.specs.Indexed.{IsIndexed, index_edited}
use Rattle.lt_base.specs.Tables.{Table, relation_of, state_of, has_columns, has_index}
use Rattle.lt_base.proofs.Grown.{map_at}
use Rattle.lt_base.proofs.Kept.{written}
use Rattle.lt_base.proofs.Replaced.{place_in}
use Rattle.lt_base.proofs.States.{fits_here, rows_at}

-- ---- a row that changes nothing

not_false : (b : Bool) → not b ≡ false → b ≡ true
not_false true h = refl
not_false false h = absurd cc

pub stays_put : (rows : List Row) (row : Row) (plus : Bool) → IsAscending rows → is_change rows row plus ≡ false → edited rows row plus ≡ rows
stays_put rows row true up same = with_there rows row up (not_false (has_row rows row) same)
stays_put rows row false up same = without_row-absent rows row same

-- a row that is there where it is put in, or lacks where it is taken out, changes nothing
pub as_wanted : (rows : List Row) (row : Row) (plus : Bool) → beq (has_row rows row) plus ≡ true → is_change rows row plus ≡ false
as_wanted rows row plus is = go (has_row rows row) plus is
  where
    go : (there plus : Bool) → beq there plus ≡ true → (if plus then not there else there) ≡ false
    go true true e = refl
    go true false e = absurd cc
    go false true e = absurd cc
    go false false e = refl

-- ---- the indexes

pub index_keeps : (width : ℕ) (columns : List ℕ) (rows index : List Row) (row : Row) (plus : Bool) → IsPermuted width columns rows index → AllByRecursion (IsRow width) rows → IsRow width row → IsPermuted width columns (edited rows row plus) (edited index (permuted columns row) plus)
index_keeps width columns rows index row plus is wide fits = written width columns rows index is (record { relation = 0; row = row; plus = plus }) wide fits

pub indexes_edited : (width : ℕ) (rows : List Row) (row : Row) (plus : Bool) (others : List Index) → AllByRecursion (IsIndexed width rows) others → AllByRecursion (IsRow width) rows → IsRow width row
    → AllByRecursion (IsIndexed width (edited rows row plus)) (map (index_edited row plus) others)
indexes_edited width rows row plus [] all wide fits = tt
indexes_edited width rows row plus (index ∷ others) all wide fits =
    (record { wide = all.0.wide; same = index_keeps width index.columns rows index.rows.rows row plus all.0.same wide fits }, indexes_edited width rows row plus others all.1 wide fits)

pub edited_columns : (row : Row) (plus : Bool) (others : List Index) → map (λ (i : Index). i.columns) (map (index_edited row plus) others) ≡ map (λ (i : Index). i.columns) others
edited_columns row plus [] = refl
edited_columns row plus (index ∷ others) = ap (λ (l : List (List ℕ)). index.columns ∷ l) (edited_columns row plus others)

-- ---- a list whose elements are changed in place, one after another

pub not_yet : {X : Type 0} (f : X → X) (old now : List X) (i : ℕ) (x : X) → i < length old → now ≡ map f (take i old) ++ drop i old → x ≡ get_or now i x → x ≡ get_or old i x
not_yet f [] now i x lt is at = absurd (omega arith)
not_yet f (y ∷ old) now zero x lt is at = at ∙ ap (λ (l : List _). get_or l 0 x) is
not_yet f (y ∷ old) now (suc i) x lt is at = not_yet f old (map f (take i old) ++ drop i old) i x (omega arith) refl (at ∙ ap (λ (l : List _). get_or l (suc i) x) is)

pub one_more : {X : Type 0} (f : X → X) (old now : List X) (i : ℕ) (x new : X) → i < length old → now ≡ map f (take i old) ++ drop i old → x ≡ get_or now i x → new ≡ f x → set now i new ≡ map f (take (i + 1) old) ++ drop (i + 1) old
one_more f [] now i x new lt is at one = absurd (omega arith)
one_more f (y ∷ old) now zero x new lt is at one =
    let here : x ≡ y = at ∙ ap (λ (l : List _). get_or l 0 x) is in
    ap (λ (l : List _). set l 0 new) is ∙ ap (λ z. z ∷ old) (one ∙ ap f here)
one_more f (y ∷ old) now (suc i) x new lt is at one =
    let e : suc (i + 1) ≡ suc i + 1 = omega arith in
    ap (λ (l : List _). set l (suc i) new) is
    ∙ ap (λ (l : List _). f y ∷ l) (one_more f old (map f (take i old) ++ drop i old) i x new (omega arith) refl (at ∙ ap (λ (l : List _). get_or l (suc i) x) is) one)
    ∙ ap (λ n. map f (take n (y ∷ old)) ++ drop n (y ∷ old)) e

-- ---- a relation of a database

-- one of the relations is edited
pub state_edited : {X : Type 0} (f : X → Table) (xs : List X) (n : ℕ) (x y : X) (m : Mark) → x ≡ get_or xs n x → f y ≡ table_edited m.row m.plus (f x) → state_of (map f (set xs n y)) ≡ change n (write m) (state_of (map f xs))
state_edited f [] zero x y m is one = refl
state_edited f [] (suc n) x y m is one = refl
state_edited f (z ∷ xs) zero x y m is one = ap (λ (t : Table). relation_of t ∷ state_of (map f xs)) (one ∙ ap (λ w. table_edited m.row m.plus (f w)) is)
state_edited f (z ∷ xs) (suc n) x y m is one = ap (λ (s : State). relation_of (f z) ∷ s) (state_edited f xs n x y m is one)

pub indexes_stay : {X : Type 0} (f : X → Table) (xs : List X) (n : ℕ) (x y : X) (row : Row) (plus : Bool) → x ≡ get_or xs n x → f y ≡ table_edited row plus (f x) → (r : ℕ) (columns : List ℕ) → has_index (map f (set xs n y)) r columns ≡ has_index (map f xs) r columns
indexes_stay f [] zero x y row plus is one r columns = refl
indexes_stay f [] (suc n) x y row plus is one r columns = refl
indexes_stay f (z ∷ xs) zero x y row plus is one zero columns = ap (λ (t : Table). has_columns t columns) (one ∙ ap (λ w. table_edited row plus (f w)) is)
indexes_stay f (z ∷ xs) zero x y row plus is one (suc r) columns = refl
indexes_stay f (z ∷ xs) (suc n) x y row plus is one zero columns = refl
indexes_stay f (z ∷ xs) (suc n) x y row plus is one (suc r) columns = indexes_stay f xs n x y row plus is one r columns

-- a relation that a state says the width of is there
pub is_there : (state : State) (relation width : ℕ) → IsWide state relation width → relation < length state
is_there [] relation width is = absurd cc
is_there (r ∷ state) zero width is = omega arith
is_there (r ∷ state) (suc relation) width is = let e = is_there state relation width is in omega arith

-- ---- marks one by one

pub laid_next : (state : State) (marks : Marks) (i : ℕ) (m : Mark) → slice_get marks i ≡ Some m → laid state (take (i + 1) marks) ≡ laid (laid state (take i marks)) (m ∷ [])
laid_next state [] i m at = absurd cc
laid_next state (n ∷ marks) zero m at = let e : n ≡ m = cc in ap (lay state) e
laid_next state (n ∷ marks) (suc i) m at =
    let e : suc i + 1 ≡ suc (i + 1) = omega arith in
    ap (λ k. laid state (take k (n ∷ marks))) e ∙ laid_next (lay state n) marks i m at

pub fits_next : (state : State) (before marks : Marks) → FitMarks state marks → FitMarks (laid state before) marks
fits_next state [] marks fit = fit
fits_next state (m ∷ before) marks fit = fits_next (lay state m) before marks (FitMarks-lay state m marks fit)

-- a mark's row is as wide as its relation
pub fits_one : {X : Type 0} (f : X → Table) (xs : List X) (tables : List Table) (x : X) (m : Mark) → map f xs ≡ tables → x ≡ get_or xs m.relation x → FitMarks (state_of tables) (m ∷ []) → IsRow (f x).width m.row
fits_one f xs tables x m are at fit =
    let lt = place_in f xs tables m.relation are (is_there (state_of tables) m.relation (length m.row) fit.0.is_wide) in
    (fits_here f xs m.relation x (m ∷ []) lt at (subst (λ (t : List Table). FitMarks (state_of t) (m ∷ [])) (sym are) fit)).0 refl

-- the rows of the relation at a place
pub rows_there : {X : Type 0} (f : X → Table) (xs : List X) (tables : List Table) (n : ℕ) (x : X) → map f xs ≡ tables → n < length (state_of tables) → x ≡ get_or xs n x → rows_in (state_of tables) n ≡ (f x).rows
rows_there f xs tables n x are lt at =
    ap (λ (t : List Table). rows_in (state_of t) n) (sym are) ∙ rows_at (map f xs) n (f x) (sym (map_at f xs n x (place_in f xs tables n are lt) at))

-- a table of which the rows stay
pub table_stays : (t : Table) (row : Row) (plus : Bool) → edited t.rows row plus ≡ t.rows → t ≡ table_edited row plus t
table_stays t row plus same = ap (λ (rows : List Row). record { width = t.width; rows = rows; others = t.others }) (sym same)
