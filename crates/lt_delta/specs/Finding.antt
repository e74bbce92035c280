-- The place of a row among marks.
use Rattle.std.specs.Prelude.{◌≡◌, ℕ, zero, suc, ◌≤◌, Bool, true, false, [], ◌∷◌, length, take, drop}
use Rattle.std.specs.List.{AllByRecursion}
use Rattle.std.specs.Ordering.{is_lt, is_eq}
use Rattle.lt_face.specs.State.{Row}
use Rattle.lt_model.specs.declared.mark.Mark.{Mark}
use Rattle.lt_model.specs.Marks.{Marks, mark_cmp}

-- whether the mark is on a row before this one
abbrev pub is_before : ℕ → Row → Mark → Bool
is_before relation row m = is_lt (mark_cmp m (record { relation = relation; row = row; plus = false }))

-- the marks before this place are on rows before this one, and the others aren't
pub record IsPlaceFor (marks : Marks) (relation : ℕ) (row : Row) (i : ℕ) : Type 0 where
  pub within : i ≤ length marks
  pub before : AllByRecursion (λ m. is_before relation row m ≡ true) (take i marks)
  pub after : AllByRecursion (λ m. is_before relation row m ≡ false) (drop i marks)

-- the mark at the place is on the row of m
abbrev pub tied_at : Marks → ℕ → Mark → Bool
tied_at [] i m = false
tied_at (n ∷ marks) zero m = is_eq (mark_cmp n m)
tied_at (n ∷ marks) (suc i) m = tied_at marks i m
