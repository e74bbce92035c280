-- Whole runs of programs on earlier states.
use Rattle.std.proofs.Common.{◌≡◌, ℕ, Bool, true, List, [], Option, Some, None, refl, ap, ◌∙◌, inl, inr, subst, sym}
use Rattle.std.specs.Prelude.{◌⊎◌, is_some}
use Rattle.lt_face.specs.State.{Row, State, AgreeOn}
use Rattle.lt_model.specs.declared.normal.Stmt.{Stmt}
use Rattle.lt_model.specs.Fits.{FitMarks}
use Rattle.lt_model.specs.Laws.{mark_on, later}
use Rattle.lt_model.specs.Marks.{Marks, and_then, laid}
use Rattle.lt_model.proofs.Composition.{AreMarks-and_then, mark_on-and_then, same_widths}
use Rattle.lt_base.specs.Tables.{state_of}
use Rattle.lt_program.specs.Tally.{TallyView, has_ended}
use Rattle.lt_restate.specs.Bases.{widths}
use Rattle.lt_restate.specs.Walked.{is_named}
use Rattle.lt_batch.specs.Folding.{IsKeptSince}
use Rattle.lt_batch.proofs.Runs.{agree_laid}

-- one that was just made, before anything is written
pub kept_at_once : (program : List Stmt) (s : State) (tally : TallyView) → tally.program ≡ program → state_of tally.base ≡ s → has_ended tally ≡ true → IsKeptSince program s [] tally
kept_at_once program s tally is base ended = record {
  program = is;
  ended = ended;
  relations = ap widths (sym base);
  ascending = tt;
  marked = λ relation row. inl (subst (λ (t : State). AgreeOn (state_of tally.base) t relation row) base (λ h. h, λ h. h));
}

-- after more marks
pub kept_later : (program : List Stmt) (s : State) (since marks : Marks) (tally : TallyView) → FitMarks s marks → IsKeptSince program s since tally → IsKeptSince program (laid s marks) (and_then since marks) tally
kept_later program s since marks tally fit h = record {
  program = h.program;
  ended = h.ended;
  relations = same_widths s marks ∙ h.relations;
  ascending = AreMarks-and_then since marks h.ascending;
  marked = λ relation row. go relation row (mark_on marks relation row) refl (h.marked relation row);
}
  where
    go : (relation : ℕ) (row : Row) (x : Option Bool) → mark_on marks relation row ≡ x → AgreeOn (state_of tally.base) s relation row ⊎ (is_named since relation row ≡ true)
        → AgreeOn (state_of tally.base) (laid s marks) relation row ⊎ (is_named (and_then since marks) relation row ≡ true)
    go relation row (Some plus) e was = inr (ap is_some (mark_on-and_then since marks relation row h.ascending ∙ ap (λ (o : Option Bool). later o (mark_on since relation row)) e))
    go relation row None e (inl agree) =
        let same : AgreeOn s (laid s marks) relation row = agree_laid s [] marks tt fit relation row (sym e) in
        inl (λ there. same.0 (agree.0 there), λ there. agree.1 (same.1 there))
    go relation row None e (inr named) = inr (ap is_some (mark_on-and_then since marks relation row h.ascending ∙ ap (λ (o : Option Bool). later o (mark_on since relation row)) e) ∙ named)
