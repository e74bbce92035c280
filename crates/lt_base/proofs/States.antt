-- The state of a database, and marks laid on it.
use Rattle.std.specs.Prelude.{◌≡◌, ◌≢◌, ℕ, zero, suc, ◌+◌, ◌<◌, ◌≤◌, false, if◌then◌else◌, List, [], ◌∷◌, ◌++◌, length, map, take, Option, Some, None, slice_get, option_map, IfSome}
use Rattle.std.specs.List.{AllByRecursion}
use Rattle.std.proofs.Common.{refl, sym, ap, ◌∙◌, subst, arith, get_or}
use Rattle.std.proofs.lemmas.Bool.{ne_eqb, eq-eqb}
use Rattle.std.proofs.lemmas.List.{map-append}
use Rattle.lt_face.specs.Lists.{IsIn}
use Rattle.lt_face.specs.Rows.{IsRow}
use Rattle.lt_face.specs.State.{Row, Relation, State, rows_in, IsIndexOf}
use Rattle.lt_model.specs.declared.mark.Mark.{Mark}
use Rattle.lt_model.specs.Fits.{FitMarks}
use Rattle.lt_model.specs.Marks.{Marks, change, write, laid}
use Rattle.lt_delta.specs.Laying.{rows_laid}
use Rattle.lt_base.specs.Tables.{Table, relation_of, state_of, has_columns, has_index}
use Rattle.lt_base.specs.Shown.{table_laid, tables_laid}
use Rattle.lt_base.proofs.Grown.{map_at, taken_more}

pub at_state : (tables : List Table) (n : ℕ) (t : Table) → Some t ≡ slice_get tables n → slice_get (state_of tables) n ≡ Some (relation_of t)
at_state [] n t h = absurd cc
at_state (x ∷ tables) zero t h = let e : t ≡ x = cc in ap (λ (z : Table). Some (relation_of z)) (sym e)
at_state (x ∷ tables) (suc n) t h = at_state tables n t h

pub past_state : (tables : List Table) (n : ℕ) → None ≡ slice_get tables n → slice_get (state_of tables) n ≡ None
past_state [] n h = refl
past_state (x ∷ tables) zero h = absurd cc
past_state (x ∷ tables) (suc n) h = past_state tables n h

pub index_at : (tables : List Table) (n : ℕ) (t : Table) (columns : List ℕ) → Some t ≡ slice_get tables n → has_index tables n columns ≡ has_columns t columns
index_at [] n t columns h = absurd cc
index_at (x ∷ tables) zero t columns h = let e : t ≡ x = cc in ap (λ (z : Table). has_columns z columns) (sym e)
index_at (x ∷ tables) (suc n) t columns h = index_at tables n t columns h

pub index_past : (tables : List Table) (n : ℕ) (columns : List ℕ) → None ≡ slice_get tables n → has_index tables n columns ≡ false
index_past [] n columns h = refl
index_past (x ∷ tables) zero columns h = absurd cc
index_past (x ∷ tables) (suc n) columns h = index_past tables n columns h

pub rows_at : (tables : List Table) (n : ℕ) (t : Table) → Some t ≡ slice_get tables n → rows_in (state_of tables) n ≡ t.rows
rows_at tables n t h = rw (at_state tables n t h) refl

-- an index of one relation is one in the state of all
pub index_in : (tables : List Table) (n : ℕ) (t : Table) (columns : List ℕ) (width : ℕ) (rows : List Row) → Some t ≡ slice_get tables n → IsIndexOf (relation_of t ∷ []) 0 columns width rows → IsIndexOf (state_of tables) n columns width rows
index_in tables n t columns width rows h is =
    let e = rows_at tables n t h in
    record {
      wide = is.wide;
      rows_wide = λ row k. is.rows_wide row (subst (IsIn row) e k);
      there = λ row k. is.there row (subst (IsIn row) e k);
      from = λ r k. let old = is.from r k in (old.0, subst (IsIn old.0) (sym e) old.1, old.2);
    }

-- ---- marks

untouched : (n : ℕ) (rows : List Row) (marks : Marks) → AllByRecursion (λ (m : Mark). m.relation ≢ n) marks → rows_laid n rows marks ≡ rows
untouched n rows [] off = refl
untouched n rows (m ∷ marks) off = rw (ne_eqb m.relation n off.0) (untouched n rows marks off.1)

pub not_named : (n : ℕ) (t : Table) (marks : Marks) → AllByRecursion (λ (m : Mark). m.relation ≢ n) marks → table_laid n t marks ≡ t
not_named n t marks off = ap (λ (rows : List Row). record { width = t.width; rows = rows; others = t.others }) (untouched n t.rows marks off)

pub fits_here : {X : Type 0} (f : X → Table) (xs : List X) (i : ℕ) (x : X) (marks : Marks) → i < length xs → x ≡ get_or xs i x → FitMarks (state_of (map f xs)) marks → AllByRecursion (λ (m : Mark). m.relation ≡ i → IsRow (f x).width m.row) marks
fits_here f xs i x [] lt is fits = tt
fits_here f xs i x (m ∷ marks) lt is fits = (λ e. record { is_wide = wide e; has_cells = fits.0.has_cells }, fits_here f xs i x marks lt is fits.1)
  where
    wide : m.relation ≡ i → length m.row ≡ (f x).width
    wide e =
        let here = at_state (map f xs) i (f x) (sym (map_at f xs i x lt is)) in
        let said : option_map (λ (r : Relation). r.width) (slice_get (state_of (map f xs)) i) ≡ Some (length m.row) = subst (λ n. option_map (λ (r : Relation). r.width) (slice_get (state_of (map f xs)) n) ≡ Some (length m.row)) e fits.0.is_wide in
        let both : Some (f x).width ≡ Some (length m.row) = ap (option_map (λ (r : Relation). r.width)) (sym here) ∙ said in
        cc

end_laid : (n : ℕ) (ts : List Table) (t : Table) (marks : Marks) → tables_laid n (ts ++ t ∷ []) marks ≡ tables_laid n ts marks ++ table_laid (n + length ts) t marks ∷ []
end_laid n [] t marks = let e : n + 0 ≡ n = omega arith in ap (λ k. table_laid k t marks ∷ []) (sym e)
end_laid n (x ∷ ts) t marks =
    let e : (n + 1) + length ts ≡ n + suc (length ts) = omega arith in
    ap (λ (l : List Table). table_laid n x marks ∷ l) (end_laid (n + 1) ts t marks ∙ ap (λ k. tables_laid (n + 1) ts marks ++ table_laid k t marks ∷ []) e)

taken_long : {X : Type 0} (xs : List X) (i : ℕ) → i ≤ length xs → length (take i xs) ≡ i
taken_long xs zero le = refl
taken_long [] (suc i) le = absurd (omega arith)
taken_long (x ∷ xs) (suc i) le = let e = taken_long xs i (omega arith) in omega arith

map_long : {X Y : Type 0} (f : X → Y) (xs : List X) → length (map f xs) ≡ length xs
map_long f [] = refl
map_long f (x ∷ xs) = let e = map_long f xs in omega arith

pub laid_more : {X : Type 0} (f : X → Table) (out xs : List X) (i : ℕ) (new x : X) (marks : Marks) → i < length xs → x ≡ get_or xs i x → f new ≡ table_laid i (f x) marks → map f out ≡ tables_laid 0 (map f (take i xs)) marks
    → map f (out ++ new ∷ []) ≡ tables_laid 0 (map f (take (i + 1) xs)) marks
laid_more {X = X} f out xs i new x marks lt is one before =
    let count : 0 + length (map f (take i xs)) ≡ i = omega (arith, map_long f (take i xs), taken_long xs i (omega arith)) in
    map-append f out (new ∷ [])
    ∙ ap (λ (l : List Table). l ++ f new ∷ []) before
    ∙ ap (λ (t : Table). tables_laid 0 (map f (take i xs)) marks ++ t ∷ []) (one ∙ ap (λ k. table_laid k (f x) marks) (sym count))
    ∙ sym (end_laid 0 (map f (take i xs)) (f x) marks)
    ∙ ap (λ (l : List Table). tables_laid 0 l marks) (sym (map-append f (take i xs) (x ∷ [])))
    ∙ ap (λ (l : List X). tables_laid 0 (map f l) marks) (sym (taken_more xs i x lt is))

none_changed : (n : ℕ) (ts : List Table) (m : Mark) → m.relation < n → state_of (tables_laid n ts (m ∷ [])) ≡ state_of ts
none_changed n [] m lt = refl
none_changed n (t ∷ ts) m lt =
    let off : m.relation ≢ n = λ h. absurd (omega arith) in
    ap (λ b. record { width = t.width; rows = if b then write m t.rows else t.rows } ∷ state_of (tables_laid (n + 1) ts (m ∷ []))) (ne_eqb m.relation n off)
    ∙ ap (λ (s : State). relation_of t ∷ s) (none_changed (n + 1) ts m (omega arith))

-- one mark changes the relation of its number
one_changed : (n : ℕ) (ts : List Table) (m : Mark) (k : ℕ) → m.relation ≡ n + k → state_of (tables_laid n ts (m ∷ [])) ≡ change k (write m) (state_of ts)
one_changed n [] m k e = refl
one_changed n (t ∷ ts) m zero e =
    let here : m.relation ≡ n = omega arith in
    ap (λ b. record { width = t.width; rows = if b then write m t.rows else t.rows } ∷ state_of (tables_laid (n + 1) ts (m ∷ []))) (eq-eqb m.relation n here)
    ∙ ap (λ (s : State). record { width = t.width; rows = write m t.rows } ∷ s) (none_changed (n + 1) ts m (omega arith))
one_changed n (t ∷ ts) m (suc k) e =
    let off : m.relation ≢ n = λ h. absurd (omega arith) in
    ap (λ b. record { width = t.width; rows = if b then write m t.rows else t.rows } ∷ state_of (tables_laid (n + 1) ts (m ∷ []))) (ne_eqb m.relation n off)
    ∙ ap (λ (s : State). relation_of t ∷ s) (one_changed (n + 1) ts m k (omega arith))

laid_again : (n : ℕ) (ts : List Table) (m : Mark) (marks : Marks) → tables_laid n ts (m ∷ marks) ≡ tables_laid n (tables_laid n ts (m ∷ [])) marks
laid_again n [] m marks = refl
laid_again n (t ∷ ts) m marks = ap (λ (l : List Table). table_laid n t (m ∷ marks) ∷ l) (laid_again (n + 1) ts m marks)

laid_none : (n : ℕ) (ts : List Table) → tables_laid n ts [] ≡ ts
laid_none n [] = refl
laid_none n (t ∷ ts) = ap (λ (l : List Table). t ∷ l) (laid_none (n + 1) ts)

-- the state of the laid relations is the laid state
pub state_laid : (ts : List Table) (marks : Marks) → state_of (tables_laid 0 ts marks) ≡ laid (state_of ts) marks
state_laid ts [] = ap state_of (laid_none 0 ts)
state_laid ts (m ∷ marks) =
    ap state_of (laid_again 0 ts m marks)
    ∙ state_laid (tables_laid 0 ts (m ∷ [])) marks
    ∙ ap (λ (s : State). laid s marks) (one_changed 0 ts m m.relation (omega arith))

pub indexes_kept : (n : ℕ) (ts : List Table) (marks : Marks) (relation : ℕ) (columns : List ℕ) → has_index (tables_laid n ts marks) relation columns ≡ has_index ts relation columns
indexes_kept n [] marks relation columns = refl
indexes_kept n (t ∷ ts) marks zero columns = refl
indexes_kept n (t ∷ ts) marks (suc relation) columns = indexes_kept (n + 1) ts marks relation columns

pub some_weaker : {X : Type 0} (P Q : X → Type 0) → ((x : X) → P x → Q x) → (o : Option X) → IfSome o P → IfSome o Q
some_weaker P Q f None h = h
some_weaker P Q f (Some x) h = f x h
