-- Two lists of marks that say the same of each row are one.
use Rattle.std.proofs.Common.{◌≡◌, ◌≢◌, inl, inr, ℕ, Bool, false, ◌&&◌, [], ◌∷◌, Option, Some, None, refl, sym, ap, ◌∙◌}
use Rattle.std.specs.Prelude.{◌==◌, if◌then◌else◌}
use Rattle.std.specs.List.{AllByRecursion}
use Rattle.std.specs.Ordering.{is_eq, nat_cmp}
use Rattle.std.specs.declared.cmp.Ordering.{Ordering}
use Rattle.std.specs.declared.cmp.Ordering.TheVariants.{Less, Equal, Greater}
use Rattle.std.proofs.lemmas.Cmp.{nat_cmp_total, alike_right}
use Rattle.std.specs.Cmp.{tied_itself}
use Rattle.std.specs.FinMap.{nat_cmp-IsAntisymmetric}
use Rattle.std.proofs.lemmas.Bool.Decides.{eqb_tells}
use Rattle.lt_face.specs.Rows.{row_cmp, by_order}
use Rattle.lt_model.specs.declared.mark.Mark.{Mark}
use Rattle.lt_model.specs.Marks.{Marks, AreMarks, mark_cmp, and_then}
use Rattle.lt_model.specs.Laws.{later, mark_on}
use Rattle.lt_model.proofs.Composition.{mark_on-and_then, AreMarks-and_then}
use Rattle.lt_delta.proofs.MarkOrder.{mark_total, tied_row, mark_back, mark_turned}
use Rattle.lt_delta.proofs.Merges.{above_lower}

-- the sign of the last mark that ties with k
abbrev sign_at : Mark → Mark → Option Bool
sign_at k m = if is_eq (mark_cmp m k) then Some m.plus else None

abbrev pub word : Marks → Mark → Option Bool
word [] k = None
word (m ∷ marks) k = later (word marks k) (sign_at k m)

eq_both : (o x : Ordering) → is_eq (by_order o Less x Greater) ≡ (is_eq o && is_eq x)
eq_both Less x = refl
eq_both Equal x = refl
eq_both Greater x = refl

is_equal : (a b : ℕ) → is_eq (nat_cmp a b) ≡ (a == b)
is_equal a b = elim (eqb_tells a b) [
  | inl h ↦ ap is_eq (ap (nat_cmp a) (sym h.1) ∙ tied_itself nat_cmp_total a) ∙ sym h.0
  | inr h ↦ differ (nat_cmp a b) refl h.1 ∙ sym h.0
]
  where
    differ : (o : Ordering) → nat_cmp a b ≡ o → a ≢ b → is_eq o ≡ false
    differ Less e ne = refl
    differ Equal e ne = absurd (ne (nat_cmp-IsAntisymmetric a b e))
    differ Greater e ne = refl

-- the mark on a row is the word on it
pub mark_on-word : (marks : Marks) (k : Mark) → mark_on marks k.relation k.row ≡ word marks k
mark_on-word [] k = refl
mark_on-word (m ∷ marks) k =
    let same : is_eq (mark_cmp m k) ≡ (m.relation == k.relation && is_eq (row_cmp m.row k.row)) = eq_both (nat_cmp m.relation k.relation) (row_cmp m.row k.row) ∙ ap (λ b. b && is_eq (row_cmp m.row k.row)) (is_equal m.relation k.relation) in
    ap (λ o. later o (if m.relation == k.relation && is_eq (row_cmp m.row k.row) then Some m.plus else None)) (mark_on-word marks k)
    ∙ ap (λ b. later (word marks k) (if b then Some m.plus else None)) (sym same)

-- nothing is said of a row below all marks
pub silent_below : (k : Mark) (marks : Marks) → AllByRecursion (λ n. mark_cmp k n ≡ Less) marks → word marks k ≡ None
silent_below k [] above = refl
silent_below k (m ∷ marks) above = rw (silent_below k marks above.1, mark_turned k m above.0) refl

-- the word is of the row alone
word_tied : (a b : Mark) (marks : Marks) → mark_cmp a b ≡ Equal → word marks a ≡ word marks b
word_tied a b [] tied = refl
word_tied a b (m ∷ marks) tied = rw (word_tied a b marks tied, alike_right mark_total a b m tied) refl

speaks : (o : Option Bool) (b : Bool) → later o (Some b) ≡ None → ⊥
speaks None b e = cc
speaks (Some p) b e = cc

itself : (m : Mark) → mark_cmp m m ≡ Equal
itself m = tied_itself mark_total m

own_word : (x : Mark) (xs : Marks) → AreMarks (x ∷ xs) → word (x ∷ xs) x ≡ Some x.plus
own_word x xs up = rw (silent_below x xs up.0, itself x) refl

later_none : (o : Option Bool) → later o None ≡ o
later_none None = refl
later_none (Some p) = refl

-- a mark that doesn't tie with k says nothing of it
passed : (x k : Mark) (xs : Marks) (o : Ordering) → mark_cmp x k ≡ o → is_eq o ≡ false → word (x ∷ xs) k ≡ word xs k
passed x k xs o h off = ap (λ b. later (word xs k) (if b then Some x.plus else None)) (ap is_eq h ∙ off) ∙ later_none (word xs k)

mark_from : (a b : Mark) → a.relation ≡ b.relation → a.row ≡ b.row → a.plus ≡ b.plus → a ≡ b
mark_from a b p q r = λ i. record { relation = p i; row = q i; plus = r i }

pub marks_same : (xs ys : Marks) → AreMarks xs → AreMarks ys → ((k : Mark) → word xs k ≡ word ys k) → xs ≡ ys
marks_same [] [] up down same = refl
marks_same [] (y ∷ ys) up down same = absurd (let e = own_word y ys down in let k = same y in cc)
marks_same (x ∷ xs) [] up down same = absurd (let e = own_word x xs up in let k = same x in cc)
marks_same (x ∷ xs) (y ∷ ys) up down same =
    elim (mark_cmp x y) as (λ o. mark_cmp x y ≡ o → x ∷ xs ≡ y ∷ ys) [
      | Less ↦ λ e. absurd (let a = own_word x xs up in let b = silent_below x (y ∷ ys) (e, above_lower x y ys e down.0) in let k = same x in cc)
      | Greater ↦ λ e. absurd (let f = mark_back x y e in let a = own_word y ys down in let b = silent_below y (x ∷ xs) (f, above_lower y x xs f up.0) in let k = same y in cc)
      | Equal ↦ λ e.
          let one : x ≡ y = heads e in
          ap (λ (z : Mark). z ∷ xs) one ∙ ap (λ (zs : Marks). y ∷ zs) (marks_same xs ys up.1 down.1 (λ k. tails k e (mark_cmp x k) refl))
    ] refl
  where
    heads : mark_cmp x y ≡ Equal → x ≡ y
    heads e =
        let row = tied_row x y e in
        let said : Some x.plus ≡ Some y.plus = sym (own_word x xs up) ∙ same x ∙ word_tied x y (y ∷ ys) e ∙ own_word y ys down in
        let plus : x.plus ≡ y.plus = cc in
        mark_from x y row.0 row.1 plus

    tails : (k : Mark) → mark_cmp x y ≡ Equal → (o : Ordering) → mark_cmp x k ≡ o → word xs k ≡ word ys k
    tails k e Less h = sym (passed x k xs Less h refl) ∙ same k ∙ passed y k ys Less (sym (mark_total.congr x y k e) ∙ h) refl
    tails k e Equal h =
        let g : mark_cmp y k ≡ Equal = sym (mark_total.congr x y k e) ∙ h in
        sym (word_tied x k xs h) ∙ silent_below x xs up.0 ∙ sym (silent_below y ys down.0) ∙ word_tied y k ys g
    tails k e Greater h = sym (passed x k xs Greater h refl) ∙ same k ∙ passed y k ys Greater (sym (mark_total.congr x y k e) ∙ h) refl

-- ---- what lists after lists say

pub word_after : (a b : Marks) (k : Mark) → AreMarks a → word (and_then a b) k ≡ later (word b k) (word a k)
word_after a b k up =
    sym (mark_on-word (and_then a b) k) ∙ mark_on-and_then a b k.relation k.row up
    ∙ ap (λ o. later o (mark_on a k.relation k.row)) (mark_on-word b k)
    ∙ ap (later (word b k)) (mark_on-word a k)

-- a list, put in order
pub word_of_list : (list : Marks) (k : Mark) → word (and_then [] list) k ≡ word list k
word_of_list list k = word_after [] list k tt ∙ later_none (word list k)

-- lists that say the same are the same in order
pub listed_alike : (xs ys : Marks) → ((k : Mark) → word xs k ≡ word ys k) → and_then [] xs ≡ and_then [] ys
listed_alike xs ys same = marks_same (and_then [] xs) (and_then [] ys) (AreMarks-and_then [] xs tt) (AreMarks-and_then [] ys tt) (λ k. word_of_list xs k ∙ same k ∙ sym (word_of_list ys k))
