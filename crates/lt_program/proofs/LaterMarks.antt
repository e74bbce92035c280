-- A database with the first of a program's marks laid on it, and those that came later.
use Rattle.std.proofs.Common.{◌≡◌, ℕ, List, [], ◌∷◌, length, Some, None, refl, sym, ap, ◌∙◌, subst}
use Rattle.std.specs.List.{AllByRecursion}
use Rattle.std.specs.declared.cmp.Ordering.TheVariants.{Less, Equal, Greater}
use Rattle.lt_face.specs.Rows.{IsCell, by_order}
use Rattle.lt_face.specs.State.{Row, State}
use Rattle.lt_model.specs.declared.mark.Mark.{Mark}
use Rattle.lt_model.specs.Fits.{IsWide, IsMarkOf, FitMarks}
use Rattle.lt_model.specs.Laws.{Rises}
use Rattle.lt_model.specs.Marks.{Marks, AreMarks, mark_cmp, with_mark, and_then, lay, laid}
use Rattle.lt_model.specs.State.{IsState}
use Rattle.lt_model.proofs.Composition.{AreMarks-and_then, laid_twice}
use Rattle.lt_delta.proofs.Composes.{associative}
use Rattle.lt_delta.proofs.Kept.{FitMarks-lay}
use Rattle.lt_delta.proofs.MarkOrder.{tied_row}
use Rattle.lt_base.specs.Tables.{Table, state_of, has_index}
use Rattle.lt_program.specs.declared.course.Laid.{Laid}
use Rattle.lt_program.specs.Tally.{IsLaidOn, IsLaidUpTo, those}

-- ---- what is so of rows, of both lists of marks

module _ (P : Mark → Type 0) (same : (m n : Mark) → m.relation ≡ n.relation → m.row ≡ n.row → P m → P n) where
  one_taken : (marks : Marks) (m : Mark) → AllByRecursion P (with_mark marks m) → AllByRecursion P marks × P m
  one_taken [] m all = (tt, all.0)
  one_taken (n ∷ marks) m all =
      elim (mark_cmp n m) as (λ o. mark_cmp n m ≡ o → AllByRecursion P (by_order o (n ∷ with_mark marks m) (m ∷ marks) (m ∷ (n ∷ marks))) → AllByRecursion P (n ∷ marks) × P m) [
        | Less ↦ λ e h. let rest = one_taken marks m h.1 in ((h.0, rest.0), rest.1)
        | Equal ↦ λ e h. let tied = tied_row n m e in ((same m n (sym tied.0) (sym tied.1) h.0, h.1), h.0)
        | Greater ↦ λ e h. (h.1, h.0)
      ] refl all

  each_of_both : (a b : Marks) → AllByRecursion P (and_then a b) → AllByRecursion P a × AllByRecursion P b
  each_of_both a [] all = (all, tt)
  each_of_both a (m ∷ b) all =
      let rest = each_of_both (with_mark a m) b all in
      let taken = one_taken a m rest.0 in
      (taken.0, (taken.1, rest.1))

-- marks that fit are lists that fit
pub both_fit : (state : State) (a b : Marks) → FitMarks state (and_then a b) → FitMarks state a × FitMarks state b
both_fit state a b fits =
    each_of_both (IsMarkOf state)
    (λ m n relation row h. record {
      is_wide = subst (λ (r : Row). IsWide state n.relation (length r)) row (subst (λ k. IsWide state k (length m.row)) relation h.is_wide);
      has_cells = subst (AllByRecursion IsCell) row h.has_cells;
    })
    a b fits

-- ---- states

pub rises : (state : State) → IsState state → Rises state
rises [] all = tt
rises (relation ∷ state) all = (all.0.rises, rises state all.1)

pub FitMarks-laid : (state : State) (first marks : Marks) → FitMarks state marks → FitMarks (laid state first) marks
FitMarks-laid state [] marks fits = fits
FitMarks-laid state (m ∷ first) marks fits = FitMarks-laid (lay state m) first marks (FitMarks-lay state m marks fits)

-- ---- what is laid

pub laid_begun : (base tables : List Table) (marks : Marks) → AreMarks marks → IsLaidOn base marks tables → IsLaidUpTo base marks (record { tables = tables; later = None })
laid_begun base tables marks up on = record { first = marks; on = on; joined = refl; first_up = up; later_up = tt }

module _ (base : List Table) (marks : Marks) (l : Laid) (is : IsLaidUpTo base marks l) where
  -- more marks came
  pub laid_followed : (all more : Marks) → all ≡ and_then (those l.later) more → IsLaidUpTo base (and_then marks more) (record { tables = l.tables; later = Some all })
  laid_followed all more same = record {
    first = is.first;
    on = is.on;
    joined =
        ap (λ (m : Marks). and_then m more) is.joined
        ∙ associative is.first (those l.later) more is.first_up is.later_up
        ∙ ap (and_then is.first) (sym same);
    first_up = is.first_up;
    later_up = subst AreMarks (sym same) (AreMarks-and_then (those l.later) more is.later_up);
  }

  pub later_fits : FitMarks (state_of base) marks → FitMarks (state_of l.tables) (those l.later)
  later_fits fits =
      subst (λ (s : State). FitMarks s (those l.later)) (sym is.on.state)
      (FitMarks-laid (state_of base) is.first (those l.later)
      (both_fit (state_of base) is.first (those l.later) (subst (FitMarks (state_of base)) is.joined fits)).1)

  -- once they are laid, too, all are
  pub laid_finished : (tables : List Table) → Rises (state_of base) → state_of tables ≡ laid (state_of l.tables) (those l.later) → ((relation : ℕ) (columns : List ℕ) → has_index tables relation columns ≡ has_index l.tables relation columns) → IsLaidOn base marks tables
  laid_finished tables up state indexes = record {
    state =
        state
        ∙ ap (λ (s : State). laid s (those l.later)) is.on.state
        ∙ laid_twice (state_of base) is.first (those l.later) up is.first_up
        ∙ ap (laid (state_of base)) (sym is.joined);
    indexes = λ relation columns. indexes relation columns ∙ is.on.indexes relation columns;
  }
