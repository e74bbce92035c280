-- Marks on ascending rows of one relation.
use Rattle.std.proofs.Common.{◌≡◌, ℕ, Bool, List, [], ◌∷◌, ◌≤◌, map, length, take, ap, ◌∙◌}
use Rattle.std.specs.List.{AllByRecursion}
use Rattle.std.specs.Cmp.{tied_itself}
use Rattle.std.specs.declared.cmp.Ordering.TheVariants.{Less, Greater}
use Rattle.std.proofs.lemmas.Cmp.{nat_cmp_total}
use Rattle.std.proofs.lemmas.List.{take_all}
use Rattle.lt_face.specs.Rows.{row_cmp, by_order, IsAscending}
use Rattle.lt_face.specs.State.{Row}
use Rattle.lt_model.specs.declared.mark.Mark.{Mark}
use Rattle.lt_model.specs.Marks.{Marks, AreMarks, mark_cmp, and_then}
use Rattle.lt_delta.proofs.Merges.{after_none}

module _ (relation : ℕ) (plus : Bool) where
  abbrev mark : Row → Mark
  mark row = record { relation = relation; row = row; plus = plus }

  above : (row : Row) (rows : List Row) → AllByRecursion (λ s. row_cmp row s ≡ Less) rows → AllByRecursion (λ n. mark_cmp (mark row) n ≡ Less) (map mark rows)
  above row [] all = tt
  above row (s ∷ rows) all = (ap (λ o. by_order o Less (row_cmp row s) Greater) (tied_itself nat_cmp_total relation) ∙ all.0, above row rows all.1)

  pub AreMarks-map : (rows : List Row) → IsAscending rows → AreMarks (map mark rows)
  AreMarks-map [] up = tt
  AreMarks-map (row ∷ rows) up = (above row rows up.0, AreMarks-map rows up.1)

  pub marked_all : (rows : List Row) (i : ℕ) (list marks : Marks) → IsAscending rows → length rows ≤ i → list ≡ map mark (take i rows) → marks ≡ and_then [] list → marks ≡ map mark rows
  marked_all rows i list marks up done so_far all =
      let whole : list ≡ map mark rows = so_far ∙ ap (map mark) (take_all i rows done) in
      all ∙ (ap (and_then []) whole ∙ after_none (map mark rows) (AreMarks-map rows up))
