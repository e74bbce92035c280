-- Marks laid on a relation's rows are those rows in the laid state.
use Rattle.std.proofs.Common.{◌≡◌, ◌≢◌, ℕ, zero, suc, ◌<◌, List, [], ◌∷◌, ◌+◌, take, Some, length, inl, inr, refl, sym, ap, ◌∙◌, arith}
use Rattle.std.specs.Prelude.{if◌then◌else◌}
use Rattle.std.specs.List.{slice_get}
use Rattle.std.proofs.lemmas.Bool.{eq-eqb, ne_eqb}
use Rattle.std.proofs.lemmas.Bool.Decides.{eqb_tells}
use Rattle.std.proofs.lemmas.List.Sums.{fold_more}
use Rattle.std.proofs.lemmas.Option.{slice_get_within, get_or_from_slice_get}
use Rattle.lt_face.specs.State.{Row, State, rows_in}
use Rattle.lt_model.specs.declared.mark.Mark.{Mark}
use Rattle.lt_model.specs.Marks.{Marks, change, write, lay, laid}
use Rattle.lt_model.proofs.Laws.{change_length}
use Rattle.lt_delta.specs.Laying.{row_laid, rows_laid}

changed_at : (n : ℕ) (f : List Row → List Row) (state : State) → n < length state → rows_in (change n f state) n ≡ f (rows_in state n)
changed_at n f [] h = absurd (omega arith)
changed_at zero f (relation ∷ state) h = refl
changed_at (suc n) f (relation ∷ state) h = changed_at n f state (omega arith)

changed_off : (n k : ℕ) (f : List Row → List Row) (state : State) → n ≢ k → rows_in (change n f state) k ≡ rows_in state k
changed_off n k f [] h = refl
changed_off zero zero f (relation ∷ state) h = absurd (h refl)
changed_off zero (suc k) f (relation ∷ state) h = refl
changed_off (suc n) zero f (relation ∷ state) h = refl
changed_off (suc n) (suc k) f (relation ∷ state) h = changed_off n k f state (λ e. h (ap suc e))

row_in : (state : State) (m : Mark) (relation : ℕ) → relation < length state → rows_in (lay state m) relation ≡ row_laid relation (rows_in state relation) m
row_in state m relation h = elim (eqb_tells m.relation relation) [
  | inl e ↦ ap (λ (n : ℕ). rows_in (change n (write m) state) relation) e.1 ∙ changed_at relation (write m) state h ∙ ap (λ b. if b then write m (rows_in state relation) else rows_in state relation) (sym e.0)
  | inr e ↦ changed_off m.relation relation (write m) state e.1 ∙ ap (λ b. if b then write m (rows_in state relation) else rows_in state relation) (sym e.0)
]

pub rows_in_laid : (state : State) (marks : Marks) (relation : ℕ) → relation < length state → rows_in (laid state marks) relation ≡ rows_laid relation (rows_in state relation) marks
rows_in_laid state [] relation h = refl
rows_in_laid state (m ∷ marks) relation h =
    rows_in_laid (lay state m) marks relation (omega (arith, h, change_length m.relation (write m) state))
    ∙ ap (λ (rows : List Row). rows_laid relation rows marks) (row_in state m relation h)

-- ---- marks laid one by one

one_more : (relation : ℕ) (rows done : List Row) (marks : Marks) (i : ℕ) (m : Mark) → slice_get marks i ≡ Some m → done ≡ rows_laid relation rows (take i marks) → row_laid relation done m ≡ rows_laid relation rows (take (i + 1) marks)
one_more relation rows done marks i m at before =
    ap (λ (rs : List Row). row_laid relation rs m) before
    ∙ ap (row_laid relation (rows_laid relation rows (take i marks))) (sym (get_or_from_slice_get marks i m m at))
    ∙ sym (fold_more (row_laid relation) rows marks i m (slice_get_within marks i m at))

-- a mark of the relation is written
pub row_written : (relation : ℕ) (rows done new : List Row) (marks : Marks) (i : ℕ) (m : Mark) → slice_get marks i ≡ Some m → m.relation ≡ relation → done ≡ rows_laid relation rows (take i marks) → new ≡ write m done → new ≡ rows_laid relation rows (take (i + 1) marks)
row_written relation rows done new marks i m at same before step =
    step
    ∙ ap (λ b. if b then write m done else done) (sym (eq-eqb m.relation relation same))
    ∙ one_more relation rows done marks i m at before

-- and any other is passed by
pub row_passed : (relation : ℕ) (rows done : List Row) (marks : Marks) (i : ℕ) (m : Mark) → slice_get marks i ≡ Some m → m.relation ≢ relation → done ≡ rows_laid relation rows (take i marks) → done ≡ rows_laid relation rows (take (i + 1) marks)
row_passed relation rows done marks i m at differs before =
    ap (λ b. if b then write m done else done) (sym (ne_eqb m.relation relation differs))
    ∙ one_more relation rows done marks i m at before
