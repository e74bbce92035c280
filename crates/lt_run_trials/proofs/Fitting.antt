-- The programs of the tests fit the two relations, also after each other.
use Rattle.std.proofs.Common.{◌≡◌, ◌≤◌, List, [], ◌∷◌, refl, sym, ap, subst, ◌∙◌, arith}
use Rattle.std.specs.List.{AllByRecursion}
use Rattle.lt_face.specs.State.{Row, State}
use Rattle.lt_face.proofs.RowLemmas.{each_weaker}
use Rattle.lt_model.specs.declared.normal.Stmt.{Stmt}
use Rattle.lt_model.specs.Fits.{Fits, FitMarks}
use Rattle.lt_model.specs.Marks.{Marks, laid}
use Rattle.lt_model.proofs.Composition.{same_widths}
use Rattle.lt_delta.proofs.Kept.{IsState-laid}
use Rattle.lt_query.specs.Laws.{FittingHasWidths}
use Rattle.lt_query.specs.Planned.{HaveWidths}
use Rattle.lt_query.specs.Runnable.{AreWide}
use Rattle.lt_program.proofs.IndexesMade.{widths_all}
use Rattle.lt_reference.specs.Run.{IsFitting, lists}
use Rattle.lt_reference.specs.Walk.{bare}
use Rattle.lt_reference.proofs.BareStates.{laid-plain}
use Rattle.lt_run_trials.specs.Fitting.{AreBoth, FitsBoth, AreRowsOfBoth}
use Rattle.lt_batch.proofs.Widths.{widths-laid}

-- programs that fit both fit a state that has both
pub all_fit : (s : State) (programs : List (List Stmt)) → AreBoth s → AllByRecursion FitsBoth programs → AllByRecursion (Fits s) programs
all_fit s programs both fit = each_weaker FitsBoth (Fits s) (λ program fits. fits s both) programs fit

-- the atoms of programs that fit a state are as wide as its relations
pub all_have_widths : (s : State) (programs : List (List Stmt)) → FittingHasWidths → AreWide s → AllByRecursion (Fits s) programs → AllByRecursion HaveWidths programs
all_have_widths s programs law wide fit = each_weaker (Fits s) HaveWidths (λ program fits. widths_all s program law wide fits.each) programs fit

-- marks leave both there
pub both_laid : (state : State) (marks : Marks) → AreBoth state → AreBoth (laid state marks)
both_laid state marks both = same_widths state marks ∙ both

pub both_marked : (base old new : State) (marks : Marks) → old ≡ base → new ≡ laid old marks → AreBoth base → AreBoth new
both_marked base old new marks same is both = subst AreBoth (sym is) (both_laid old marks (subst AreBoth (sym same) both))

-- ---- rows

abbrev pub can_run : (rows read : List (List Row)) (program : List Stmt) → AreRowsOfBoth rows → FitsBoth program → read ≡ rows → IsFitting read program
can_run rows read program are fits same = record {
  state = are.state;
  has = are.has ∙ sym same;
  is_state = are.is_snapshot.is_state;
  narrow = are.is_snapshot.narrow;
  fits = fits are.state are.are_both;
}

-- both without rows
pub no_rows : AreRowsOfBoth ([] ∷ [] ∷ [])
no_rows = record {
  state = record { width = 1; rows = [] } ∷ record { width = 2; rows = [] } ∷ [];
  has = refl;
  is_snapshot = record {
    is_state = (record { rises = tt; each = tt }, (record { rises = tt; each = tt }, tt));
    narrow = (omega arith, (omega arith, tt));
  };
  are_both = refl;
}

lists-bare : (rows : List (List Row)) → lists (bare rows) ≡ rows
lists-bare [] = refl
lists-bare (one ∷ rows) = ap (λ (rest : List (List Row)). one ∷ rest) (lists-bare rows)

-- the rows with the marks of a run laid on them
pub rows_laid : (old new : List (List Row)) (marks : Marks) (are : AreRowsOfBoth old) → FitMarks are.state marks → bare new ≡ laid (bare old) marks → AreRowsOfBoth new
rows_laid old new marks are fit is = record {
  state = laid are.state marks;
  has =
      sym (lists-bare (lists (laid are.state marks)))
      ∙ (ap lists (sym (laid-plain are.state marks))
      ∙ (ap (λ (rows : List (List Row)). lists (laid (bare rows) marks)) are.has
      ∙ (ap lists (sym is)
      ∙ lists-bare new)));
  is_snapshot = record {
    is_state = IsState-laid are.state marks are.is_snapshot.is_state fit;
    narrow = widths-laid (λ w. w ≤ 8) are.state marks are.is_snapshot.narrow;
  };
  are_both = both_laid are.state marks are.are_both;
}
