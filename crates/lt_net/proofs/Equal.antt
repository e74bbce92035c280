-- `same_marks` decides whether two lists of marks are equal.
use Rattle.std.proofs.Common.{◌≡◌, Bool, true, false, ◌&&◌, List, refl, ap}
use Rattle.std.specs.Bool.{Decides, beq, ◌==◌}
use Rattle.std.specs.Prelude.{nat_eq}
use lib.Pointwise.{pointwise, pointwise_decides, bytes_decides}
use Rattle.std.proofs.lemmas.Bool.Decides.{Decides-eqb, Decides-and, Decides-like}
use Rattle.lt_model.specs.declared.mark.Mark.{Mark}
use Rattle.lt_net.specs.Same.{same_mark, same_marks}

mark_from : (a b : Mark) → a.relation ≡ b.relation → a.row ≡ b.row → a.plus ≡ b.plus → a ≡ b
mark_from a b p q r = λ i. record { relation = p i; row = q i; plus = r i }

beq_is : (a b : Bool) → Decides (beq a b) (a ≡ b)
beq_is true true = (λ e. refl, λ e. refl)
beq_is true false = (λ e. cc, λ e. cc)
beq_is false true = (λ e. cc, λ e. cc)
beq_is false false = (λ e. refl, λ e. refl)

pub mark_decides : (a b : Mark) → Decides (same_mark a b) (a ≡ b)
mark_decides a b =
    Decides-like {P = ((a.relation ≡ b.relation) × (a.row ≡ b.row)) × (a.plus ≡ b.plus)} (same_mark a b)
    (λ h. mark_from a b h.0.0 h.0.1 h.1)
    (λ e. ((ap (λ (m : Mark). m.relation) e, ap (λ (m : Mark). m.row) e), ap (λ (m : Mark). m.plus) e))
    (Decides-and ((a.relation == b.relation) && pointwise nat_eq a.row b.row) (beq a.plus b.plus)
    (Decides-and (a.relation == b.relation) (pointwise nat_eq a.row b.row) (Decides-eqb a.relation b.relation) (bytes_decides a.row b.row))
    (beq_is a.plus b.plus))

pub marks_decides : (as' bs : List Mark) → Decides (same_marks as' bs) (as' ≡ bs)
unfolding same_marks
marks_decides as' bs = pointwise_decides mark_decides as' bs
