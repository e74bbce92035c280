-- Where states with marks laid on them differ.
use Rattle.std.proofs.Common.{◌≡◌, ℕ, Bool, true, false, not, [], ◌∷◌, Option, Some, None, refl, sym, ap, ◌∙◌, inl, inr}
use Rattle.std.specs.Prelude.{◌||◌, if◌then◌else◌, unwrap_or, is_some, ◌⊎◌}
use Rattle.std.proofs.lemmas.Bool.{or_left, or_right}
use Rattle.lt_face.specs.Rows.{has_row}
use Rattle.lt_face.specs.State.{Row, State, rows_in}
use Rattle.lt_model.specs.Fits.{FitMarks}
use Rattle.lt_model.specs.Marks.{Marks, laid}
use Rattle.lt_model.specs.Laws.{mark_on}
use Rattle.lt_base.specs.Changed.{differ_on}
use Rattle.lt_base.proofs.Apart.{with_marks}
use Rattle.lt_restate.specs.Walked.{is_named, is_among}

-- whether two truths differ
abbrev apart : Bool → Bool → Bool
apart a b = if a then not b else b

differ_is : (s t : State) (a b : Bool) (relation : ℕ) (row : Row) → has_row (rows_in s relation) row ≡ a → has_row (rows_in t relation) row ≡ b → differ_on s t relation row ≡ apart a b
differ_is s t a b relation row e f = ap (λ x. apart x (has_row (rows_in t relation) row)) e ∙ ap (apart a) f

module _ (sb sn : State) (relation : ℕ) (row : Row) where
  had : Bool
  had = has_row (rows_in sb relation) row

  has : Bool
  has = has_row (rows_in sn relation) row

  laid_differ : (past marks : Marks) → FitMarks sb past → FitMarks sn marks → differ_on (laid sb past) (laid sn marks) relation row ≡ apart (unwrap_or (mark_on past relation row) had) (unwrap_or (mark_on marks relation row) has)
  unfolding had has
  laid_differ past marks fit fits = differ_is (laid sb past) (laid sn marks) _ _ relation row (with_marks sb past relation row fit) (with_marks sn marks relation row fits)

  -- a row on which the states differ is marked by one of the runs, or where the bases differ
  pub marked_somewhere : (past marks old_on new_on : Marks) → FitMarks sb past → FitMarks sn marks → (differ_on sb sn relation row ≡ true → (is_named old_on relation row ≡ true) ⊎ (is_named new_on relation row ≡ true))
      → differ_on (laid sb past) (laid sn marks) relation row ≡ true → is_among (old_on ∷ new_on ∷ past ∷ marks ∷ []) relation row ≡ true
  unfolding had has
  marked_somewhere past marks old_on new_on fit fits bases differs = go (mark_on past relation row) (mark_on marks relation row) refl refl
    where
      go : (p m : Option Bool) → mark_on past relation row ≡ p → mark_on marks relation row ≡ m → is_among (old_on ∷ new_on ∷ past ∷ marks ∷ []) relation row ≡ true
      go (Some p) m e f = or_right (is_named old_on relation row) (is_named new_on relation row || (is_named past relation row || (is_named marks relation row || false))) (or_right (is_named new_on relation row) (is_named past relation row || (is_named marks relation row || false)) (or_left (is_named past relation row) (is_named marks relation row || false) (ap is_some e)))
      go None (Some m) e f = or_right (is_named old_on relation row) (is_named new_on relation row || (is_named past relation row || (is_named marks relation row || false))) (or_right (is_named new_on relation row) (is_named past relation row || (is_named marks relation row || false)) (or_right (is_named past relation row) (is_named marks relation row || false) (or_left (is_named marks relation row) false (ap is_some f))))
      go None None e f =
          let plain : differ_on (laid sb past) (laid sn marks) relation row ≡ differ_on sb sn relation row =
          laid_differ past marks fit fits ∙ ap (λ (o : Option Bool). apart (unwrap_or o had) (unwrap_or (mark_on marks relation row) has)) e ∙ ap (λ (o : Option Bool). apart had (unwrap_or o has)) f in
          elim (bases (sym plain ∙ differs)) [
            | inl h ↦ or_left (is_named old_on relation row) (is_named new_on relation row || (is_named past relation row || (is_named marks relation row || false))) h
            | inr h ↦ or_right (is_named old_on relation row) (is_named new_on relation row || (is_named past relation row || (is_named marks relation row || false))) (or_left (is_named new_on relation row) (is_named past relation row || (is_named marks relation row || false)) h)
          ]
