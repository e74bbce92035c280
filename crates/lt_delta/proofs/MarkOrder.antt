-- The order of marks is total, and marks that tie are on one row.
use Rattle.std.proofs.Common.{◌≡◌, refl, ap, ◌∙◌, subst}
use Rattle.std.specs.Ordering.{nat_cmp, ordering_then, ordering_reverse}
use Rattle.std.specs.declared.cmp.Ordering.{Ordering}
use Rattle.std.specs.declared.cmp.Ordering.TheVariants.{Less, Equal, Greater}
use Rattle.std.specs.Cmp.{IsTotalOrder}
use Rattle.std.specs.FinMap.{nat_cmp-IsAntisymmetric}
use Rattle.std.proofs.lemmas.Cmp.{nat_cmp_total, on_total, then_total}
use Rattle.lt_face.specs.Rows.{row_cmp, by_order}
use Rattle.lt_face.proofs.RowLemmas.{rows_total, rows_exact}
use Rattle.lt_model.specs.declared.mark.Mark.{Mark}
use Rattle.lt_model.specs.Marks.{mark_cmp}

then_by : (o x : Ordering) → ordering_then o x ≡ by_order o Less x Greater
then_by Less x = refl
then_by Equal x = refl
then_by Greater x = refl

pub mark_total : IsTotalOrder mark_cmp
mark_total =
    subst IsTotalOrder (λ i a b. then_by (nat_cmp a.relation b.relation) (row_cmp a.row b.row) i)
    (then_total (on_total (λ (m : Mark). m.relation) nat_cmp_total) (on_total (λ (m : Mark). m.row) rows_total))

both_equal : (o x : Ordering) → by_order o Less x Greater ≡ Equal → (o ≡ Equal) × (x ≡ Equal)
both_equal Less x h = absurd cc
both_equal Equal x h = (refl, h)
both_equal Greater x h = absurd cc

-- marks that tie are on one row
pub tied_row : (a b : Mark) → mark_cmp a b ≡ Equal → (a.relation ≡ b.relation) × (a.row ≡ b.row)
tied_row a b h =
    let k = both_equal (nat_cmp a.relation b.relation) (row_cmp a.row b.row) h in
    (nat_cmp-IsAntisymmetric a.relation b.relation k.0, rows_exact a.row b.row k.1)

pub mark_back : (a b : Mark) → mark_cmp a b ≡ Greater → mark_cmp b a ≡ Less
mark_back a b h = mark_total.antisymm b a ∙ ap ordering_reverse h

pub mark_turned : (a b : Mark) → mark_cmp a b ≡ Less → mark_cmp b a ≡ Greater
mark_turned a b h = mark_total.antisymm b a ∙ ap ordering_reverse h
