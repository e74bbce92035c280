-- Marks put at the end of a list that is in order, and lists sorted by a stable sort.
use Rattle.std.proofs.Common.{◌≡◌, ◌≢◌, ℕ, zero, suc, ◌+◌, ◌-◌, ◌<◌, Bool, true, false, not, ◌&&◌, [], ◌∷◌, ◌++◌, length, get_or, take, Option, Some, None, refl, sym, ap, ◌∙◌, arith}
use mathlib.Core.Bool.{true≢false}
use Rattle.std.specs.Prelude.{set}
use Rattle.std.specs.List.{AllByRecursion, filter}
use Rattle.std.specs.List.Sorted.{IsSorted, IsStable, ties}
use Rattle.std.specs.Ordering.{is_lt, is_eq, ordering_reverse}
use Rattle.std.proofs.lemmas.Cmp.{alike_right}
use Rattle.std.specs.declared.cmp.Ordering.{Ordering}
use Rattle.std.specs.declared.cmp.Ordering.TheVariants.{Less, Equal, Greater}
use Rattle.std.proofs.lemmas.List.Sorted.{ranks_by, sorted_far}
use Rattle.lt_model.specs.declared.mark.Mark.{Mark}
use Rattle.lt_model.specs.Marks.{Marks, AreMarks, mark_cmp, with_mark, and_then}
use Rattle.lt_model.specs.Laws.{later}
use Rattle.lt_delta.specs.LastRow.{ends_tied}
use Rattle.lt_delta.proofs.MarkOrder.{mark_total, mark_back}
use Rattle.lt_delta.proofs.Words.{word, listed_alike}

less_if : (o : Ordering) → o ≢ Greater → o ≢ Equal → o ≡ Less
less_if Less h k = refl
less_if Equal h k = absurd (k refl)
less_if Greater h k = absurd (h refl)

below_next : (a b m : Mark) → mark_cmp a b ≡ Less → mark_cmp b m ≢ Greater → mark_cmp a m ≡ Less
below_next a b m less fits = go (mark_cmp b m) refl
  where
    go : (o : Ordering) → mark_cmp b m ≡ o → mark_cmp a m ≡ Less
    go Less e = mark_total.trans a b m less e
    go Equal e = sym (alike_right mark_total b m a e) ∙ less
    go Greater e = absurd (fits e)

not_equal : (o : Ordering) → is_eq o ≡ false → o ≢ Equal
not_equal o h e = cc

is_equal : (o : Ordering) → is_eq o ≡ true → o ≡ Equal
is_equal Less h = cc
is_equal Equal h = refl
is_equal Greater h = cc

-- the new mark goes to the end where the last one is on another row
pub put_end : (marks : Marks) (m : Mark) → AreMarks marks → AllByRecursion (λ n. mark_cmp n m ≢ Greater) marks → ends_tied marks m ≡ false → with_mark marks m ≡ marks ++ m ∷ []
put_end [] m up none_above apart = refl
put_end (n ∷ []) m up none_above apart = rw (less_if (mark_cmp n m) none_above.0 (not_equal (mark_cmp n m) apart)) refl
put_end (n ∷ (o ∷ marks)) m up none_above apart =
    let less : mark_cmp n m ≡ Less = below_next n o m up.0.0 none_above.1.0 in
    rw less (ap (λ (t : Marks). n ∷ t) (put_end (o ∷ marks) m up.1 none_above.1 apart))

-- and in the last one's place where that is on the same row
pub put_over : (marks : Marks) (m : Mark) (last : ℕ) → last ≡ length marks - 1 → AreMarks marks → AllByRecursion (λ n. mark_cmp n m ≢ Greater) marks → ends_tied marks m ≡ true → with_mark marks m ≡ set marks last m
put_over [] m last is up none_above tied = absurd cc
put_over (n ∷ []) m zero is up none_above tied = rw (is_equal (mark_cmp n m) tied) refl
put_over (n ∷ []) m (suc last) is up none_above tied = absurd (omega arith)
put_over (n ∷ (o ∷ marks)) m zero is up none_above tied = absurd (omega arith)
put_over (n ∷ (o ∷ marks)) m (suc last) is up none_above tied =
    let less : mark_cmp n m ≡ Less = below_next n o m up.0.0 none_above.1.0 in
    rw less (ap (λ (t : Marks). n ∷ t) (put_over (o ∷ marks) m last (omega arith) up.1 none_above.1 tied))

-- the last of them, by its place
pub ends_at : (marks : Marks) (m last : Mark) (at : ℕ) → at + 1 ≡ length marks → last ≡ get_or marks at last → ends_tied marks m ≡ is_eq (mark_cmp last m)
ends_at [] m last at here is = absurd (omega arith)
ends_at (n ∷ []) m last zero here is = ap (λ (x : Mark). is_eq (mark_cmp x m)) (sym is)
ends_at (n ∷ []) m last (suc at) here is = absurd (omega arith)
ends_at (n ∷ (o ∷ marks)) m last zero here is = absurd (omega arith)
ends_at (n ∷ (o ∷ marks)) m last (suc at) here is = ends_at (o ∷ marks) m last at (omega arith) is

-- ---- a stable sort keeps what a list says of each row

tie_is : (o : Ordering) → (not (is_lt (ordering_reverse o)) && not (is_lt o)) ≡ is_eq o
tie_is Less = refl
tie_is Equal = refl
tie_is Greater = refl

below : Mark → Mark → Bool
below a b = is_lt (mark_cmp a b)

tied : (k m : Mark) → ties (λ a b. is_lt (mark_cmp a b)) k m ≡ is_eq (mark_cmp m k)
tied k m = ap (λ o. not (is_lt o) && not (is_lt (mark_cmp m k))) (mark_total.antisymm k m) ∙ tie_is (mark_cmp m k)

later_none : (o : Option Bool) → later o None ≡ o
later_none None = refl
later_none (Some p) = refl

tied_or_passed : (m : Mark) (xs : Marks) (k : Mark) → word (filter (ties (λ a b. is_lt (mark_cmp a b)) k) xs) k ≡ word xs k → (b : Bool) → is_eq (mark_cmp m k) ≡ b → word (filter (ties (λ a b. is_lt (mark_cmp a b)) k) (m ∷ xs)) k ≡ word (m ∷ xs) k
tied_or_passed m xs k more true h = rw (tied k m, h) (rw h (ap (λ o. later o (Some m.plus)) more))
tied_or_passed m xs k more false h = rw (tied k m, h) (more ∙ sym (later_none (word xs k)))

-- only the marks on its row say something of a row
word_of_tied : (xs : Marks) (k : Mark) → word (filter (ties (λ a b. is_lt (mark_cmp a b)) k) xs) k ≡ word xs k
word_of_tied [] k = refl
word_of_tied (m ∷ xs) k = tied_or_passed m xs k (word_of_tied xs k) (is_eq (mark_cmp m k)) refl

pub sorted_says_same : (xs ys : Marks) → IsStable mark_cmp xs ys → and_then [] ys ≡ and_then [] xs
sorted_says_same xs ys stable =
    listed_alike ys xs (λ k. sym (word_of_tied ys k) ∙ ap (λ (zs : Marks). word zs k) (stable k) ∙ word_of_tied xs k)

all_taken : (P : Mark → Type 0) (xs : Marks) (n : ℕ) → ((k : ℕ) (d : Mark) → k < n → k < length xs → P (get_or xs k d)) → AllByRecursion P (take n xs)
all_taken P xs zero at = tt
all_taken P [] (suc n) at = tt
all_taken P (x ∷ xs) (suc n) at = (at 0 x (omega arith) (omega arith), all_taken P xs n (λ k d lt in_range. at (suc k) d (omega arith) (omega arith)))

not_above : (a b : Mark) → is_lt (mark_cmp b a) ≡ false → mark_cmp a b ≢ Greater
not_above a b h above = let k = mark_back a b above in absurd (true≢false (sym (ap is_lt k) ∙ h))

get_or-default : (xs : Marks) (n : ℕ) (d e : Mark) → n < length xs → get_or xs n d ≡ get_or xs n e
get_or-default [] n d e h = absurd (omega arith)
get_or-default (x ∷ xs) zero d e h = refl
get_or-default (x ∷ xs) (suc n) d e h = get_or-default xs n d e (omega arith)

-- in a sorted list nothing before a place is above the mark there
pub sorted_before : (xs : Marks) (n : ℕ) (m : Mark) → IsSorted mark_cmp xs → n < length xs → m ≡ get_or xs n m → AllByRecursion (λ a. mark_cmp a m ≢ Greater) (take n xs)
sorted_before xs n m up in_range is =
    all_taken (λ a. mark_cmp a m ≢ Greater) xs n (λ k d lt within.
    let far : is_lt (mark_cmp (get_or xs n d) (get_or xs k d)) ≡ false = sorted_far (λ a b. is_lt (mark_cmp a b)) (ranks_by mark_total (λ (a : Mark). a)) xs up k n d (omega arith) in_range in
    let here : get_or xs n d ≡ m = get_or-default xs n d m in_range ∙ sym is in
    not_above (get_or xs k d) m (ap (λ (a : Mark). is_lt (mark_cmp a (get_or xs k d))) (sym here) ∙ far))
