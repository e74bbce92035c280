-- Cells at which the same marks stand.
use Rattle.std.proofs.Common.{◌≡◌, Bool, true, false, ◌&&◌, ◌||◌, List, [], ◌∷◌, refl}
use Rattle.lt_model.specs.declared.mark.Mark.{Mark}
use Rattle.lt_net.specs.Same.{same_marks}
use Rattle.lt_net.specs.Net.{Cell, same_cell, has_cell, same_at}
use Rattle.lt_net.proofs.Equal.{marks_decides}
use Rattle.lt_net.proofs.Jobs.{same_itself}

pub first_has : (c : Cell) (cs : List Cell) → has_cell c (c ∷ cs) ≡ true
first_has c cs = rw (same_itself c)

or_right : (a b : Bool) → b ≡ true → (a || b) ≡ true
or_right true b e = refl
or_right false b e = e

pub later_has : (x c : Cell) (cs : List Cell) → has_cell x cs ≡ true → has_cell x (c ∷ cs) ≡ true
later_has x c cs e = or_right (same_cell x c) (has_cell x cs) e

and_both : (a b : Bool) → a ≡ true → b ≡ true → (a && b) ≡ true
and_both true b e f = f
and_both false b e f = e

pub same_each : (f g : Cell → List Mark) (cs : List Cell) → ((x : Cell) → has_cell x cs ≡ true → f x ≡ g x) → same_at f g cs ≡ true
same_each f g [] h = refl
same_each f g (c ∷ cs) h =
    and_both (same_marks (f c) (g c)) (same_at f g cs) ((marks_decides (f c) (g c)).1 (h c (first_has c cs)))
    (same_each f g cs (λ x k. h x (later_has x c cs k)))
