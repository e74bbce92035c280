-- Rows that changed, and rows of which a sense that is tight may be asked.
use Rattle.std.proofs.Common.{◌≡◌, ℕ, zero, suc, ◌<◌, true, not, List, [], ◌∷◌, length, Some, refl, sym, ap, ◌∙◌, inl, inr, subst, arith}
use Rattle.std.specs.Prelude.{slice_get, option_map, if◌then◌else◌}
use Rattle.std.specs.List.{AllByRecursion}
use Rattle.std.proofs.lemmas.Bool.{cases_Bool}
use Rattle.lt_face.specs.Keys.{end_key}
use Rattle.lt_face.specs.Lists.{IsIn}
use Rattle.lt_face.specs.Rows.{IsCell, IsRow, has_row}
use Rattle.lt_face.specs.State.{Row, Relation, State, Has, rows_in}
use Rattle.lt_face.proofs.RowLemmas.{each_weaker}
use Rattle.lt_model.specs.Fits.{IsWide, FitMarks}
use Rattle.lt_model.specs.Marks.{Marks, laid}
use Rattle.lt_model.specs.State.{IsState}
use Rattle.lt_model.proofs.Composition.{same_widths}
use Rattle.lt_delta.proofs.Kept.{IsState-laid}
use Rattle.lt_query.specs.Runnable.{AreWide}
use Rattle.lt_query.proofs.Elements.{All_at}
use Rattle.lt_base.specs.Changed.{differ_on}
use Rattle.lt_base.proofs.Apart.{has_from}
use Rattle.lt_sense.specs.Done.{AreAskable}
use Rattle.lt_sense.specs.Gathered.{IsAskable}
use Rattle.lt_sense.specs.Kept.{Sense}
use Rattle.lt_sense.specs.Sense.{IsTight}
use Rattle.lt_sense.specs.Spans.{AreBelowEnd}
use Rattle.lt_sense.specs.declared.covering.Hit.{Hit}
use Rattle.lt_restate.specs.Bases.{widths, IsBase, AreAlike, IsRowOf, AreRowsOf}

-- ---- widths

some_is : (x y : ℕ) → Some x ≡ Some y → x ≡ y
some_is x y e = cc

width_get : (state : State) (n : ℕ) → slice_get (widths state) n ≡ option_map (λ (r : Relation). r.width) (slice_get state n)
width_get [] n = refl
width_get (r ∷ state) zero = refl
width_get (r ∷ state) (suc n) = width_get state n

-- of the same relations, each is as wide in the one as in the other
pub wide_alike : (s t : State) → widths s ≡ widths t → (n w : ℕ) → IsWide s n w → IsWide t n w
wide_alike s t same n w wide = sym (width_get t n) ∙ ap (λ (ws : List ℕ). slice_get ws n) (sym same) ∙ width_get s n ∙ wide

pub row_alike : (s t : State) → widths s ≡ widths t → (n : ℕ) (row : Row) → IsRowOf s n row → IsRowOf t n row
row_alike s t same n row h = record { is_wide = wide_alike s t same n (length row) h.is_wide; has_cells = h.has_cells }

-- states made of one by marks have the same relations
pub laid_relations : (snapshot s t : State) (a b : Marks) → s ≡ laid snapshot a → t ≡ laid snapshot b → widths t ≡ widths s
laid_relations snapshot s t a b first second = ap widths second ∙ same_widths snapshot b ∙ sym (same_widths snapshot a) ∙ ap widths (sym first)

some_wide : (state : State) (n w : ℕ) → AreWide state → IsWide state n w → 0 < w
some_wide [] n w all wide = absurd cc
some_wide (r ∷ state) zero w all wide = (let e = some_is r.width w wide in let le = all.0.0 in omega (arith, e, le))
some_wide (r ∷ state) (suc n) w all wide = some_wide state n w all.1 wide

-- ---- rows of a state

pub row_has : (state : State) (n : ℕ) (row : Row) → IsState state → Has state n row → IsRowOf state n row
row_has [] n row all there = absurd there
row_has (r ∷ state) zero row all there = (let is = All_at (IsRow r.width) row r.rows all.0.each there in record { is_wide = ap Some (sym is.is_wide); has_cells = is.has_cells })
row_has (r ∷ state) (suc n) row all there = (let is = row_has state n row all.1 there in record { is_wide = is.is_wide; has_cells = is.has_cells })

as_wide : (x y : ℕ) (state : State) (n : ℕ) → IsWide state n x → IsWide state n y → x ≡ y
as_wide x y state n one other = some_is x y (sym one ∙ other)

-- it is as wide as any row that its relation can have
pub long_alike : (state : State) (n : ℕ) (row other : Row) → IsState state → Has state n other → IsRowOf state n row → length other ≡ length row
long_alike state n row other all there is = as_wide (length other) (length row) state n (row_has state n other all there).is_wide is.is_wide

pub base_wide : (base : State) → IsBase base → (n : ℕ) (row : Row) → IsRowOf base n row → 0 < length row
base_wide base is n row h = some_wide base n (length row) is.wide h.is_wide

-- ---- of states with marks laid on them

-- rows of a relation are as wide as a row that it can have
pub laid_wide : (base : State) → IsBase base → (past : Marks) → FitMarks base past → (n : ℕ) (row other : Row) → IsRowOf base n row → Has (laid base past) n other → length other ≡ length row
laid_wide base is past fits n row other h there = long_alike (laid base past) n row other (IsState-laid base past is.is_state fits) there (row_alike base (laid base past) (sym (same_widths base past)) n row h)

module _ (old new : State) (alike : AreAlike old new) (past marks : Marks) (fits : FitMarks old past) (fit : FitMarks new marks) where
  of_old : (n : ℕ) (row : Row) → Has (laid old past) n row → IsRowOf old n row
  of_old n row there = row_alike (laid old past) old (same_widths old past) n row (row_has (laid old past) n row (IsState-laid old past alike.base.is_state fits) there)

  of_new : (n : ℕ) (row : Row) → Has (laid new marks) n row → IsRowOf old n row
  of_new n row there = row_alike (laid new marks) old (same_widths new marks ∙ alike.relations) n row (row_has (laid new marks) n row (IsState-laid new marks alike.is_state fit) there)

  -- a row on which they differ is one that its relation can have
  pub changed_row : (n : ℕ) (row : Row) → differ_on (laid old past) (laid new marks) n row ≡ true → IsRowOf old n row
  changed_row n row differs = elim (cases_Bool (has_row (rows_in (laid old past) n) row)) [
    | inl there ↦ of_old n row (has_from (rows_in (laid old past) n) row there)
    | inr gone ↦ of_new n row (has_from (rows_in (laid new marks) n) row (sym (ap (λ b. if b then not (has_row (rows_in (laid new marks) n) row) else has_row (rows_in (laid new marks) n) row) gone) ∙ differs))
  ]

-- ---- of a sense

below_end : (c : ℕ) → IsCell c → c < end_key
below_end c is = (let lt = is.1 in omega (arith, lt))

pub cells_below : (row : Row) → AllByRecursion IsCell row → AreBelowEnd row
cells_below row cells = each_weaker IsCell (λ c. c < end_key) below_end row cells

each_hit : (P : Hit → Type 0) (hits : List Hit) → ((hit : Hit) → IsIn hit hits → P hit) → AllByRecursion P hits
each_hit P [] f = tt
each_hit P (h ∷ hits) f = (f h (inl refl), each_hit P hits (λ hit there. f hit (inr there)))

module _ (base : State) (past : Marks) (is : IsBase base) (fits : FitMarks base past) (sense : Sense) (tight : IsTight sense (laid base past)) where
  -- a sense that is tight on the base with marks laid on it may be asked of any row that a relation can have
  pub tight_askable : (n : ℕ) (row : Row) → IsRowOf base n row → IsAskable sense n row
  tight_askable n row h = record {
    some = base_wide base is n row h;
    below = cells_below row h.has_cells;
    hits = each_hit (λ (hit : Hit). hit.relation ≡ n → length hit.row ≡ length row) sense.hits (λ hit there same.
        laid_wide base is past fits n row hit.row h (subst (λ k. Has (laid base past) k hit.row) same (All_at (λ (k : Hit). Has (laid base past) k.relation k.row) hit sense.hits tight.hits there)));
  }

  pub all_askable : (changes : List (ℕ × Row)) → AreRowsOf base changes → AreAskable sense changes
  all_askable changes rows = each_weaker (λ (z : ℕ × Row). IsRowOf base z.0 z.1) (λ (z : ℕ × Row). IsAskable sense z.0 z.1) (λ z h. tight_askable z.0 z.1 h) changes rows

-- ---- of rows that changed

module _ (old new : State) (alike : AreAlike old new) (past marks : Marks) (fits : FitMarks old past) (fit : FitMarks new marks) (t : State) (is_new : laid new marks ≡ t) (n : ℕ) (row : Row) (differs : differ_on (laid old past) t n row ≡ true) where
  pub row_of_change : IsRowOf old n row
  row_of_change = changed_row old new alike past marks fits fit n row (ap (λ (s : State). differ_on (laid old past) s n row) is_new ∙ differs)

  pub change_askable : (sense : Sense) → IsTight sense (laid old past) → IsAskable sense n row
  change_askable sense tight = tight_askable old past alike.base fits sense tight n row row_of_change
