-- A state with marks that fit it laid on it is a state again.
use Rattle.std.proofs.Common.{◌≡◌, ℕ, zero, suc, true, false, cond, List, [], ◌∷◌, length, Some, refl, sym, subst}
use Rattle.lt_face.specs.Rows.{IsRow, IsRowSet, with_row, without_row}
use Rattle.lt_face.specs.State.{Row, State}
use Rattle.lt_face.proofs.RowLemmas.{IsRowSet-with_row, IsRowSet-without_row, each_weaker}
use Rattle.lt_model.specs.declared.mark.Mark.{Mark}
use Rattle.lt_model.specs.Fits.{IsWide, IsMarkOf, FitMarks}
use Rattle.lt_model.specs.Marks.{Marks, write, change, lay, laid}
use Rattle.lt_model.specs.State.{IsState}

-- a change of rows changes no width
pub IsWide-change : (n : ℕ) (f : List Row → List Row) (state : State) (r w : ℕ) → IsWide state r w → IsWide (change n f state) r w
IsWide-change n f [] r w h = h
IsWide-change zero f (relation ∷ state) zero w h = h
IsWide-change zero f (relation ∷ state) (suc r) w h = h
IsWide-change (suc n) f (relation ∷ state) zero w h = h
IsWide-change (suc n) f (relation ∷ state) (suc r) w h = IsWide-change n f state r w h

some_is : (x y : ℕ) → Some x ≡ Some y → x ≡ y
some_is x y e = cc

IsState-change : (n : ℕ) (f : List Row → List Row) (state : State) (w : ℕ) → IsWide state n w → ((rows : List Row) → IsRowSet w rows → IsRowSet w (f rows)) → IsState state → IsState (change n f state)
IsState-change n f [] w wide keeps all = tt
IsState-change zero f (relation ∷ state) w wide keeps all =
    let same : relation.width ≡ w = some_is relation.width w wide in
    (subst (λ n. IsRowSet n (f relation.rows)) (sym same) (keeps relation.rows (subst (λ n. IsRowSet n relation.rows) same all.0)), all.1)
IsState-change (suc n) f (relation ∷ state) w wide keeps all = (all.0, IsState-change n f state w wide keeps all.1)

pub IsRowSet-write : (m : Mark) (w : ℕ) (rows : List Row) → IsRow w m.row → IsRowSet w rows → IsRowSet w (write m rows)
IsRowSet-write m w rows row set =
    elim m.plus as (λ b. IsRowSet w (cond b (with_row rows m.row) (without_row rows m.row))) [ true ↦ IsRowSet-with_row w rows m.row set row | false ↦ IsRowSet-without_row w rows m.row set ]

IsState-lay : (state : State) (m : Mark) → IsMarkOf state m → IsState state → IsState (lay state m)
IsState-lay state m fits all =
    IsState-change m.relation (write m) state (length m.row) fits.is_wide (λ rows set. IsRowSet-write m (length m.row) rows (record { is_wide = refl; has_cells = fits.has_cells }) set) all

pub FitMarks-lay : (state : State) (m : Mark) (marks : Marks) → FitMarks state marks → FitMarks (lay state m) marks
FitMarks-lay state m marks all =
    each_weaker (IsMarkOf state) (IsMarkOf (lay state m)) (λ n h. record { is_wide = IsWide-change m.relation (write m) state n.relation (length n.row) h.is_wide; has_cells = h.has_cells }) marks all

pub IsState-laid : (state : State) (marks : Marks) → IsState state → FitMarks state marks → IsState (laid state marks)
IsState-laid state [] all fits = all
IsState-laid state (m ∷ marks) all fits = IsState-laid (lay state m) marks (IsState-lay state m fits.0 all) (FitMarks-lay state m marks fits.1)
