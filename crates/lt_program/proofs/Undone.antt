-- Edits of a state, and what takes them back.
use Rattle.std.proofs.Common.{◌≡◌, ℕ, zero, suc, ◌+◌, ◌<◌, ◌≤◌, Bool, true, false, not, ◌&&◌, List, [], ◌∷◌, ◌++◌, length, take, get_or, Some, None, refl, sym, ap, ◌∙◌, subst, arith}
use Rattle.std.specs.Prelude.{◌==◌, reverse, unwrap_or, if◌then◌else◌}
use Rattle.std.specs.List.{AllByRecursion}
use Rattle.std.specs.Ordering.{is_eq}
use Rattle.std.proofs.lemmas.Bool.{eqb-true}
use Rattle.std.proofs.lemmas.List.{reverse-append}
use Rattle.std.proofs.Math.Seq.{take-suc}
use Rattle.lt_face.specs.Rows.{row_cmp, has_row}
use Rattle.lt_face.specs.State.{Row, State, rows_in}
use Rattle.lt_face.proofs.RowLemmas.{each_at}
use Rattle.lt_model.specs.declared.mark.Mark.{Mark}
use Rattle.lt_model.specs.Effect.{marks_on, displacing}
use Rattle.lt_model.specs.Fits.{IsMarkOf, FitMarks}
use Rattle.lt_model.specs.Laws.{later, mark_on}
use Rattle.lt_model.specs.Marks.{Marks, AreMarks, and_then, lay, laid}
use Rattle.lt_model.specs.State.{IsState}
use Rattle.lt_model.proofs.Composition.{states_same, same_widths, laid_twice}
use Rattle.lt_model.proofs.Laws.{same_is, laid_has}
use Rattle.lt_delta.proofs.Kept.{IsState-laid, FitMarks-lay}
use Rattle.lt_delta.proofs.Merges.{after_none}
use Rattle.lt_base.specs.Tables.{Table, state_of}
use Rattle.lt_program.specs.declared.part.Found.{Found}
use Rattle.lt_program.specs.declared.part.Found.TheVariants.{Rows, Both, Keyed, Truth}
use Rattle.lt_program.specs.Kept.{IsOrdered, displaced_rows, second_rows, replaced_by}
use Rattle.lt_program.specs.Undo.{undone, IsBack, IsWritten}
use Rattle.lt_program.proofs.LaterMarks.{rises, FitMarks-laid}
use Rattle.lt_program.proofs.MarkedRows.{AreMarks-map}
use Rattle.lt_program.proofs.ReadingMarked.{long_laid}

-- the edit that takes this one back
abbrev pub opposite : Mark → Mark
opposite m = record { relation = m.relation; row = m.row; plus = not m.plus }

-- ---- one edit

abbrev is_on : Mark → ℕ → Row → Bool
is_on m relation row = m.relation == relation && is_eq (row_cmp m.row row)

both : (a b : Bool) → (a && b) ≡ true → (a ≡ true) × (b ≡ true)
both true b h = (refl, h)
both false b h = absurd cc

module _ (s : State) (is : IsState s) where
  -- marks that say what the state has leave it as it is
  unchanged : (marks : Marks) → FitMarks s marks → ((relation : ℕ) (row : Row) → unwrap_or (mark_on marks relation row) (has_row (rows_in s relation) row) ≡ has_row (rows_in s relation) row) → laid s marks ≡ s
  unchanged marks fits same =
      states_same (laid s marks) s (same_widths s marks) (rises (laid s marks) (IsState-laid s marks is fits)) (rises s is)
      (λ relation row h. laid_has s marks relation row (omega (arith, h, long_laid s marks)) ∙ same relation row)

  -- whether the state has the row of the mark
  abbrev has : Mark → Bool
  has m = has_row (rows_in s m.relation) m.row

  told : (m : Mark) (sign : Bool) (relation : ℕ) (row : Row) → has m ≡ sign → (b : Bool) → is_on m relation row ≡ b → unwrap_or (if b then Some sign else None) (has_row (rows_in s relation) row) ≡ has_row (rows_in s relation) row
  told m sign relation row there false e = refl
  told m sign relation row there true e =
      let parts = both (m.relation == relation) (is_eq (row_cmp m.row row)) e in
      sym there
      ∙ ap (λ (n : ℕ). has_row (rows_in s n) m.row) (eqb-true m.relation relation parts.0)
      ∙ ap (has_row (rows_in s relation)) (same_is m.row row parts.1)

  -- the state has what the edit makes
  pub edit_idle : (m : Mark) → FitMarks s (m ∷ []) → has m ≡ m.plus → laid s (m ∷ []) ≡ s
  edit_idle m fits there = unchanged (m ∷ []) fits (λ relation row. told m m.plus relation row there (is_on m relation row) refl)

  -- the state hasn't, and the opposite edit is made after it
  pub edit_back : (m : Mark) → FitMarks s (m ∷ []) → has m ≡ not m.plus → laid (laid s (m ∷ [])) (opposite m ∷ []) ≡ s
  edit_back m fits there =
      unchanged (m ∷ (opposite m ∷ [])) (fits.0, (record { is_wide = fits.0.is_wide; has_cells = fits.0.has_cells }, tt))
      (λ relation row. ap (λ o. unwrap_or o (has_row (rows_in s relation) row)) (last (is_on m relation row) (not m.plus) m.plus) ∙ told m (not m.plus) relation row there (is_on m relation row) refl)
    where
      last : (b p q : Bool) → later (later None (if b then Some p else None)) (if b then Some q else None) ≡ (if b then Some p else None)
      last true p q = refl
      last false p q = refl

-- ---- edits that were noted

-- whether an edit changes the rows
abbrev changes : List Row → Row → Bool → Bool
changes rows row plus = if plus then not (has_row rows row) else has_row rows row

turned : (plus there : Bool) → (if plus then not there else there) ≡ true → there ≡ not plus
turned true true e = absurd cc
turned true false e = refl
turned false there e = e

kept : (plus there : Bool) → (if plus then not there else there) ≡ false → there ≡ plus
kept true true e = refl
kept true false e = absurd cc
kept false there e = e

each_pushed : {X : Type 0} (P : X → Type 0) (xs : List X) (x : X) → AllByRecursion P xs → P x → AllByRecursion P (xs ++ x ∷ [])
each_pushed P [] x all one = (one, tt)
each_pushed P (y ∷ xs) x all one = (all.0, each_pushed P xs x all.1 one)

module _ (base s t : State) (m : Mark) (is : IsState s) (fits : FitMarks s (m ∷ [])) (made : t ≡ laid s (m ∷ [])) where
  back_changed : (edits : Marks) → changes (rows_in s m.relation) m.row m.plus ≡ true → IsBack base s edits → IsBack base t (edits ++ opposite m ∷ [])
  back_changed edits changed back = subst (λ (u : State). IsBack base u (edits ++ opposite m ∷ [])) (sym made) (record {
    fits = each_pushed (IsMarkOf (lay s m)) edits (opposite m) (FitMarks-lay s m edits back.fits) (FitMarks-lay s m (opposite m ∷ []) (record { is_wide = fits.0.is_wide; has_cells = fits.0.has_cells }, tt)).0;
    back =
        ap (laid (lay s m)) (reverse-append edits (opposite m ∷ []))
        ∙ ap (λ (u : State). laid u (reverse edits)) (edit_back s is m fits (turned m.plus (has_row (rows_in s m.relation) m.row) changed))
        ∙ back.back;
  })

  back_idle : (edits : Marks) → changes (rows_in s m.relation) m.row m.plus ≡ false → IsBack base s edits → IsBack base t edits
  back_idle edits changed back = subst (λ (u : State). IsBack base u edits) (sym (made ∙ edit_idle s is m fits (kept m.plus (has_row (rows_in s m.relation) m.row) changed))) back

  -- the opposite of an edit that changed something was noted behind the others
  pub back_noted : (edits noted : Marks) (changed logs : Bool) → changed ≡ changes (rows_in s m.relation) m.row m.plus → (changed ≡ false → noted ≡ edits) → (changed ≡ true → logs ≡ true → noted ≡ edits ++ opposite m ∷ []) → logs ≡ true → IsBack base s edits → IsBack base t noted
  back_noted edits noted true logs is_change idle some on back = subst (IsBack base t) (sym (some refl on)) (back_changed edits (sym is_change) back)
  back_noted edits noted false logs is_change idle some on back = subst (IsBack base t) (sym (idle refl)) (back_idle edits (sym is_change) back)

-- ---- rows written one by one

abbrev pub mark_on_row : ℕ → Bool → Row → Mark
mark_on_row relation plus row = record { relation = relation; row = row; plus = plus }

one_of : (s : State) (relation : ℕ) (plus : Bool) (rows : List Row) (i : ℕ) (d : Row) → FitMarks s (marks_on relation plus rows) → i < length rows → IsMarkOf s (mark_on_row relation plus (get_or rows i d))
one_of s relation plus [] i d fits lt = absurd (omega arith)
one_of s relation plus (row ∷ rows) zero d fits lt = fits.0
one_of s relation plus (row ∷ rows) (suc i) d fits lt = one_of s relation plus rows i d fits.1 (omega arith)

pushed : (s : State) (relation : ℕ) (plus : Bool) (rows : List Row) (row : Row) → laid s (marks_on relation plus (rows ++ row ∷ [])) ≡ lay (laid s (marks_on relation plus rows)) (mark_on_row relation plus row)
pushed s relation plus [] row = refl
pushed s relation plus (x ∷ rows) row = pushed (lay s (mark_on_row relation plus x)) relation plus rows row

module _ (s t : State) (relation : ℕ) (plus : Bool) (rows : List Row) (i : ℕ) (row : Row) (lt : i < length rows) (is : row ≡ get_or rows i row) (done : t ≡ laid s (marks_on relation plus (take i rows))) where
  pub row_fits : FitMarks s (marks_on relation plus rows) → FitMarks t (mark_on_row relation plus row ∷ [])
  row_fits fits =
      subst (λ (u : State). FitMarks u (mark_on_row relation plus row ∷ [])) (sym done)
      (FitMarks-laid s (marks_on relation plus (take i rows)) (mark_on_row relation plus row ∷ []) (subst (λ (r : Row). IsMarkOf s (mark_on_row relation plus r)) (sym is) (one_of s relation plus rows i row fits lt), tt))

  pub row_written : (u : State) → u ≡ laid t (mark_on_row relation plus row ∷ []) → u ≡ laid s (marks_on relation plus (take (i + 1) rows))
  row_written u made =
      let one : i + 1 ≡ suc i = omega arith in
      let whole : take (i + 1) rows ≡ take i rows ++ row ∷ [] = ap (λ n. take n rows) one ∙ take-suc rows i row lt ∙ ap (λ (r : Row). take i rows ++ r ∷ []) (sym is) in
      made ∙ ap (λ (v : State). lay v (mark_on_row relation plus row)) done ∙ sym (pushed s relation plus (take i rows) row) ∙ ap (λ (rs : List Row). laid s (marks_on relation plus rs)) (sym whole)

-- one list of marks after the other
pub written_then : (a b : Marks) (logs : Bool) (old mid new : List Table) (e f g : Marks) → IsState (state_of old) → AreMarks a → IsWritten a logs old mid e f → IsWritten b logs mid new f g → IsWritten (and_then a b) logs old new e g
written_then a b logs old mid new e f g is up first second = record {
  state = second.state ∙ ap (λ (s : State). laid s b) first.state ∙ laid_twice (state_of old) a b (rises (state_of old) is) up;
  indexes = λ relation columns. second.indexes relation columns ∙ first.indexes relation columns;
  back = λ on base begun. second.back on base (first.back on base begun);
}

-- the state behind marks, and others that fit it
pub state_behind : (a : Marks) (logs : Bool) (old new : List Table) (e f : Marks) → IsState (state_of old) → FitMarks (state_of old) a → IsWritten a logs old new e f → IsState (state_of new)
state_behind a logs old new e f is fits written = subst IsState (sym written.state) (IsState-laid (state_of old) a is fits)

pub fits_behind : (a b : Marks) (logs : Bool) (old new : List Table) (e f : Marks) → FitMarks (state_of old) b → IsWritten a logs old new e f → FitMarks (state_of new) b
fits_behind a b logs old new e f fits written = subst (λ (s : State). FitMarks s b) (sym written.state) (FitMarks-laid (state_of old) a b fits)

pub written_none : (logs : Bool) (tables : List Table) (edits : Marks) → IsWritten [] logs tables tables edits edits
written_none logs tables edits = record { state = refl; indexes = λ relation columns. refl; back = λ on base begun. begun }

-- rows that come where none is displaced
pub coming_is : (relation : ℕ) (outcome : Found) → IsOrdered outcome → displacing relation (displaced_rows outcome) (second_rows outcome) ≡ replaced_by relation outcome
coming_is relation (Rows rows) ordered = refl
coming_is relation (Both gone come) ordered = after_none (marks_on relation true come) (AreMarks-map relation true come ordered.second)
coming_is relation (Keyed gone come displaced) ordered = refl
coming_is relation (Truth truth) ordered = refl

-- ---- edits made, the last one first

pub undone_one : (s t : State) (edits : Marks) (k left : ℕ) (m : Mark) → k + 1 ≡ left → left ≤ length edits → m ≡ get_or edits k m → t ≡ laid s (mark_on_row m.relation m.plus m.row ∷ []) → undone t (take k edits) ≡ undone s (take left edits)
undone_one s t edits k left m one le is made =
    let e : left ≡ suc k = omega arith in
    let lt : k < length edits = omega arith in
    let whole : take left edits ≡ take k edits ++ m ∷ [] = ap (λ n. take n edits) e ∙ take-suc edits k m lt ∙ ap (λ (x : Mark). take k edits ++ x ∷ []) (sym is) in
    ap (λ (u : State). laid u (reverse (take k edits))) made
    ∙ ap (laid s) (sym (reverse-append (take k edits) (m ∷ [])))
    ∙ ap (undone s) (sym whole)

pub edit_fits : (s : State) (edits : Marks) (k : ℕ) (m : Mark) → FitMarks s edits → k < length edits → m ≡ get_or edits k m → FitMarks s (mark_on_row m.relation m.plus m.row ∷ [])
edit_fits s edits k m fits lt is = let one = subst (IsMarkOf s) (sym is) (each_at (IsMarkOf s) edits k m fits lt) in (record { is_wide = one.is_wide; has_cells = one.has_cells }, tt)
