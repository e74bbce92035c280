-- One after another is associative, and what fits a state goes on to fit it.
use Rattle.std.proofs.Common.{◌≡◌, Bool, [], ◌∷◌, Option, Some, None, refl, sym, ap, ◌∙◌}
use Rattle.std.specs.List.{AllByRecursion}
use Rattle.std.specs.declared.cmp.Ordering.TheVariants.{Less, Equal, Greater}
use Rattle.lt_face.specs.Rows.{by_order}
use Rattle.lt_model.specs.declared.mark.Mark.{Mark}
use Rattle.lt_model.specs.Marks.{Marks, AreMarks, mark_cmp, with_mark, and_then}
use Rattle.lt_model.specs.Laws.{later}
use Rattle.lt_model.proofs.Composition.{AreMarks-and_then}
use Rattle.lt_delta.proofs.Words.{word, word_after, marks_same}

later_later : (x y z : Option Bool) → later x (later y z) ≡ later (later x y) z
later_later None y z = refl
later_later (Some p) y z = refl

pub associative : (a b c : Marks) → AreMarks a → AreMarks b → and_then (and_then a b) c ≡ and_then a (and_then b c)
associative a b c up down =
    marks_same (and_then (and_then a b) c) (and_then a (and_then b c))
    (AreMarks-and_then (and_then a b) c (AreMarks-and_then a b up))
    (AreMarks-and_then a (and_then b c) up)
    (λ k.
    word_after (and_then a b) c k (AreMarks-and_then a b up)
    ∙ ap (later (word c k)) (word_after a b k up)
    ∙ later_later (word c k) (word b k) (word a k)
    ∙ ap (λ o. later o (word a k)) (sym (word_after b c k down))
    ∙ sym (word_after a (and_then b c) k up))

each_with_mark : (P : Mark → Type 0) (marks : Marks) (m : Mark) → AllByRecursion P marks → P m → AllByRecursion P (with_mark marks m)
each_with_mark P [] m all one = (one, tt)
each_with_mark P (n ∷ marks) m all one =
    elim (mark_cmp n m) as (λ o. AllByRecursion P (by_order o (n ∷ with_mark marks m) (m ∷ marks) (m ∷ (n ∷ marks)))) [
      | Less ↦ (all.0, each_with_mark P marks m all.1 one)
      | Equal ↦ (one, all.1)
      | Greater ↦ (one, all)
    ]

-- a fact of each mark of both lists
pub each_after : (P : Mark → Type 0) (a b : Marks) → AllByRecursion P a → AllByRecursion P b → AllByRecursion P (and_then a b)
each_after P a [] all more = all
each_after P a (m ∷ b) all more = each_after P (with_mark a m) b (each_with_mark P a m all more.0) more.1
