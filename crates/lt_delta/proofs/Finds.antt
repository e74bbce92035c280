-- The mark at the place of a row.
use Rattle.std.proofs.Common.{◌≡◌, ◌≢◌, ℕ, zero, suc, ◌<◌, ◌≤◌, Bool, true, false, List, [], ◌∷◌, map, length, get_or, take, drop, Option, Some, None, refl, sym, ap, ◌∙◌, arith}
use mathlib.Core.Bool.{true≢false}
use Rattle.std.specs.Prelude.{if◌then◌else◌}
use Rattle.std.specs.List.{AllByRecursion}
use Rattle.std.specs.List.Sorted.{IsPartitionedBy, IsPartitionPoint}
use Rattle.std.specs.Ordering.{is_lt, is_eq}
use Rattle.std.specs.declared.cmp.Ordering.{Ordering}
use Rattle.std.specs.declared.cmp.Ordering.TheVariants.{Less, Equal, Greater}
use Rattle.std.proofs.lemmas.List.{get_or-map, length-map}
use Rattle.lt_face.specs.State.{Row}
use Rattle.lt_model.specs.declared.mark.Mark.{Mark}
use Rattle.lt_model.specs.Marks.{Marks, AreMarks, mark_cmp}
use Rattle.lt_model.specs.Laws.{later, mark_on}
use Rattle.lt_delta.specs.Finding.{is_before, IsPlaceFor}
use Rattle.lt_delta.proofs.MarkOrder.{mark_total, mark_back}
use Rattle.lt_delta.proofs.Words.{word, mark_on-word, silent_below}

not_less : (o : Ordering) → is_lt o ≡ false → o ≢ Less
not_less o h e = absurd (true≢false (sym (ap is_lt e) ∙ h))

-- marks above one that isn't before k are above k
above_key : (m k : Mark) (marks : Marks) → is_lt (mark_cmp m k) ≡ false → AllByRecursion (λ n. mark_cmp m n ≡ Less) marks → AllByRecursion (λ n. mark_cmp k n ≡ Less) marks
above_key m k [] h above = tt
above_key m k (n ∷ marks) h above = (go (mark_cmp m k) refl, above_key m k marks h above.1)
  where
    go : (o : Ordering) → mark_cmp m k ≡ o → mark_cmp k n ≡ Less
    go Less e = absurd (not_less (mark_cmp m k) h e)
    go Equal e = sym (mark_total.congr m k n e) ∙ above.0
    go Greater e = mark_total.trans k m n (mark_back m k e) above.0

pub less_is : (o : Ordering) → is_lt o ≡ true → o ≡ Less
less_is Less h = refl
less_is Equal h = absurd (true≢false (sym h))
less_is Greater h = absurd (true≢false (sym h))

passed : (x k : Mark) (xs : Marks) → mark_cmp x k ≡ Less → word (x ∷ xs) k ≡ word xs k
passed x k xs e = ap (λ o. later (word xs k) (if is_eq o then Some x.plus else None)) e ∙ none (word xs k)
  where
    none : (o : Option Bool) → later o None ≡ o
    none None = refl
    none (Some p) = refl

-- the mark at the place says what there is to say, if anything does
at_place : (marks : Marks) (k : Mark) (i : ℕ) → AreMarks marks → AllByRecursion (λ m. is_lt (mark_cmp m k) ≡ true) (take i marks) → AllByRecursion (λ m. is_lt (mark_cmp m k) ≡ false) (drop i marks)
    → (m : Mark) → i < length marks → m ≡ get_or marks i m → word marks k ≡ word (m ∷ []) k
at_place [] k i up before after m lt is = absurd (omega arith)
at_place (x ∷ xs) k zero up before after m lt is =
    rw (silent_below k xs (above_key x k xs after.0 up.0)) (ap (λ (n : Mark). if is_eq (mark_cmp n k) then Some n.plus else None) (sym is))
at_place (x ∷ xs) k (suc i) up before after m lt is =
    passed x k xs (less_is (mark_cmp x k) before.0) ∙ at_place xs k i up.1 before.1 after m (omega arith) is

past_end : (marks : Marks) (k : Mark) (i : ℕ) → length marks ≤ i → AllByRecursion (λ m. is_lt (mark_cmp m k) ≡ true) (take i marks) → word marks k ≡ None
past_end [] k i le before = refl
past_end (x ∷ xs) k zero le before = absurd (omega arith)
past_end (x ∷ xs) k (suc i) le before = passed x k xs (less_is (mark_cmp x k) before.0) ∙ past_end xs k i (omega arith) before.1

key : ℕ → Row → Mark
key relation row = record { relation = relation; row = row; plus = false }

pub sign_there : (marks : Marks) (relation : ℕ) (row : Row) (i : ℕ) (m : Mark) → AreMarks marks → IsPlaceFor marks relation row i → i < length marks → m ≡ get_or marks i m → mark_on (m ∷ []) relation row ≡ mark_on marks relation row
unfolding key
sign_there marks relation row i m up place lt is =
    mark_on-word (m ∷ []) (key relation row) ∙ sym (at_place marks (key relation row) i up place.before place.after m lt is) ∙ sym (mark_on-word marks (key relation row))

pub sign_nowhere : (marks : Marks) (relation : ℕ) (row : Row) (i : ℕ) → IsPlaceFor marks relation row i → length marks ≤ i → None ≡ mark_on marks relation row
unfolding key
sign_nowhere marks relation row i place le = sym (mark_on-word marks (key relation row) ∙ past_end marks (key relation row) i le place.before)

-- ---- the search

before_lower : (a b k : Mark) → mark_cmp a b ≡ Less → is_lt (mark_cmp b k) ≡ true → is_lt (mark_cmp a k) ≡ true
before_lower a b k less h = ap is_lt (mark_total.trans a b k less (less_is (mark_cmp b k) h))

each_got : (x : Mark) (d : Mark) (ys : Marks) (n : ℕ) → AllByRecursion (λ m. mark_cmp x m ≡ Less) ys → n < length ys → mark_cmp x (get_or ys n d) ≡ Less
each_got x d [] n all h = absurd (omega arith)
each_got x d (y ∷ ys) zero all h = all.0
each_got x d (y ∷ ys) (suc n) all h = each_got x d ys n all.1 (omega arith)

parted : (marks : Marks) (k : Mark) → AreMarks marks → (i j : ℕ) (d : Mark) → i ≤ j → j < length marks → is_lt (mark_cmp (get_or marks j d) k) ≡ true → is_lt (mark_cmp (get_or marks i d) k) ≡ true
parted [] k up i j d le within h = absurd (omega arith)
parted (x ∷ xs) k up zero zero d le within h = h
parted (x ∷ xs) k up zero (suc j) d le within h = before_lower x (get_or xs j d) k (each_got x d xs j up.0 (omega arith)) h
parted (x ∷ xs) k up (suc i) zero d le within h = absurd (omega arith)
parted (x ∷ xs) k up (suc i) (suc j) d le within h = parted xs k up.1 i j d (omega arith) (omega arith) h

pub all_owned : {X : Type 0} (f : X → Mark) (P : Mark → Type 0) (xs : List X) (i : ℕ) → i ≤ length xs → ((k : ℕ) (d : X) → 0 ≤ k → k < i → P (f (get_or xs k d))) → AllByRecursion P (take i (map f xs))
all_owned f P xs zero le at = tt
all_owned f P [] (suc i) le at = tt
all_owned f P (x ∷ xs) (suc i) le at = (at 0 x (omega arith) (omega arith), all_owned f P xs i (omega arith) (λ k d low lt. at (suc k) d (omega arith) (omega arith)))

all_owned_after : {X : Type 0} (f : X → Mark) (P : Mark → Type 0) (xs : List X) (i : ℕ) → ((k : ℕ) (d : X) → i ≤ k → k < length xs → P (f (get_or xs k d))) → AllByRecursion P (drop i (map f xs))
all_owned_after f P [] zero at = tt
all_owned_after f P [] (suc i) at = tt
all_owned_after f P (x ∷ xs) zero at = (at 0 x (omega arith) (omega arith), all_owned_after f P xs zero (λ k d le lt. at (suc k) d (omega arith) (omega arith)))
all_owned_after f P (x ∷ xs) (suc i) at = all_owned_after f P xs i (λ k d le lt. at (suc k) d (omega arith) (omega arith))

pub parted_owners : {X : Type 0} (f : X → Mark) (xs : List X) (relation : ℕ) (row : Row) → AreMarks (map f xs) → IsPartitionedBy (λ x. is_before relation row (f x)) xs
parted_owners f xs relation row up i j d le within h =
    let b : is_lt (mark_cmp (get_or (map f xs) j (f d)) (record { relation = relation; row = row; plus = false })) ≡ true = ap (λ (m : Mark). is_before relation row m) (get_or-map f xs j d (f d) within) ∙ h in
    let within_map : j < length (map f xs) = omega (arith, length-map xs f) in
    let a = parted (map f xs) (record { relation = relation; row = row; plus = false }) up i j (f d) le within_map b in
    let lt : i < length xs = omega arith in
    ap (λ (m : Mark). is_before relation row m) (sym (get_or-map f xs i d (f d) lt)) ∙ a

-- what `partition_point` told of owners is so of what they own
pub place_found : {X : Type 0} (f : X → Mark) (xs : List X) (relation : ℕ) (row : Row) (i : ℕ) → AreMarks (map f xs) → i ≤ length xs
    → (IsPartitionedBy (λ x. is_before relation row (f x)) xs → IsPartitionPoint (λ x. is_before relation row (f x) ≡ true) (λ x. is_before relation row (f x) ≡ false) xs i)
    → IsPlaceFor (map f xs) relation row i
place_found f xs relation row i up within point =
    let parts = point (parted_owners f xs relation row up) in
    record {
      within = omega (arith, within, length-map xs f);
      before = all_owned f (λ m. is_before relation row m ≡ true) xs i within parts.0;
      after = all_owned_after f (λ m. is_before relation row m ≡ false) xs i parts.1;
    }
