-- A mark put among others at its place.
use Rattle.std.proofs.Common.{◌≡◌, ℕ, zero, suc, ◌-◌, ◌<◌, ◌≤◌, true, false, List, [], ◌∷◌, ◌++◌, map, length, get_or, take, drop, Some, refl, sym, ap, ◌∙◌, subst, arith, drop_of_length-le}
use mathlib.Core.Bool.{true≢false}
use Rattle.std.specs.Prelude.{set}
use Rattle.std.specs.List.{AllByRecursion, insert, slice_get}
use Rattle.std.specs.Ordering.{is_lt, is_eq}
use Rattle.std.specs.declared.cmp.Ordering.{Ordering}
use Rattle.std.specs.declared.cmp.Ordering.TheVariants.{Less, Equal, Greater}
use Rattle.std.proofs.lemmas.List.{map-append, map-set, take-map, drop-map, take_all, length-map, get_or-map}
use Rattle.lt_face.specs.State.{Row}
use Rattle.lt_model.specs.declared.mark.Mark.{Mark}
use Rattle.lt_model.specs.Marks.{Marks, AreMarks, mark_cmp, with_mark, and_then}
use Rattle.lt_delta.specs.Finding.{is_before, IsPlaceFor, tied_at}
use Rattle.lt_delta.proofs.Finds.{less_is, parted_owners, all_owned}
use Rattle.lt_delta.proofs.Owners.{owned_at}

pub equal_is : (o : Ordering) → is_eq o ≡ true → o ≡ Equal
equal_is Less h = absurd (true≢false (sym h))
equal_is Equal h = refl
equal_is Greater h = absurd (true≢false (sym h))

pub above_is : (o : Ordering) → is_lt o ≡ false → is_eq o ≡ false → o ≡ Greater
above_is Less h k = absurd (true≢false h)
above_is Equal h k = absurd (true≢false k)
above_is Greater h k = refl

-- the mark goes between those before its row and the others, where none of them is on it
put_between : (marks : Marks) (m : Mark) (i : ℕ) → AllByRecursion (λ n. is_before m.relation m.row n ≡ true) (take i marks) → AllByRecursion (λ n. is_before m.relation m.row n ≡ false) (drop i marks) → tied_at marks i m ≡ false → with_mark marks m ≡ insert marks i m
put_between [] m zero before after apart = refl
put_between [] m (suc i) before after apart = refl
put_between (n ∷ marks) m zero before after apart = rw (above_is (mark_cmp n m) after.0 apart) refl
put_between (n ∷ marks) m (suc i) before after apart = rw (less_is (mark_cmp n m) before.0) (ap (λ (t : Marks). n ∷ t) (put_between marks m i before.1 after apart))

-- and in the place of the one that is on its row
put_in_place : (marks : Marks) (m : Mark) (i : ℕ) → AllByRecursion (λ n. is_before m.relation m.row n ≡ true) (take i marks) → tied_at marks i m ≡ true → with_mark marks m ≡ set marks i m
put_in_place [] m i before tied = absurd (true≢false (sym tied))
put_in_place (n ∷ marks) m zero before tied = rw (equal_is (mark_cmp n m) tied) refl
put_in_place (n ∷ marks) m (suc i) before tied = rw (less_is (mark_cmp n m) before.0) (ap (λ (t : Marks). n ∷ t) (put_in_place marks m i before.1 tied))

-- ---- the mark at the place

pub tied_past : (marks : Marks) (i : ℕ) (m : Mark) → length marks ≤ i → tied_at marks i m ≡ false
tied_past [] i m le = refl
tied_past (n ∷ marks) zero m le = absurd (omega arith)
tied_past (n ∷ marks) (suc i) m le = tied_past marks i m (omega arith)

pub tied_there : (marks : Marks) (i : ℕ) (m n : Mark) → i < length marks → n ≡ get_or marks i n → tied_at marks i m ≡ is_eq (mark_cmp n m)
tied_there [] i m n lt is = absurd (omega arith)
tied_there (x ∷ marks) zero m n lt is = ap (λ (y : Mark). is_eq (mark_cmp y m)) (sym is)
tied_there (x ∷ marks) (suc i) m n lt is = tied_there marks i m n (omega arith) is

-- ---- the same of owners

module _ {X : Type 0} (f : X → Mark) (xs : List X) (x : X) (i : ℕ) where
  pub owner_inserted : map f (insert xs i x) ≡ insert (map f xs) i (f x)
  owner_inserted =
      map-append f (take i xs) (x ∷ drop i xs)
      ∙ ap (λ (l : Marks). l ++ f x ∷ map f (drop i xs)) (sym (take-map f i xs))
      ∙ ap (λ (l : Marks). take i (map f xs) ++ f x ∷ l) (sym (drop-map f i xs))

  pub owner_put : IsPlaceFor (map f xs) (f x).relation (f x).row i → tied_at (map f xs) i (f x) ≡ false → map f (insert xs i x) ≡ with_mark (map f xs) (f x)
  owner_put place apart = owner_inserted ∙ sym (put_between (map f xs) (f x) i place.before place.after apart)

  pub owner_set : IsPlaceFor (map f xs) (f x).relation (f x).row i → tied_at (map f xs) i (f x) ≡ true → map f (set xs i x) ≡ with_mark (map f xs) (f x)
  owner_set place tied = map-set f xs i x ∙ sym (put_in_place (map f xs) (f x) i place.before tied)

-- ---- marks put one after another

after_next : (a b : Marks) (m : Mark) → and_then a (b ++ m ∷ []) ≡ with_mark (and_then a b) m
after_next a [] m = refl
after_next a (n ∷ b) m = after_next (with_mark a n) b m

pub owner_next : {X : Type 0} (f : X → Mark) (new done first given : List X) (x : X) → map f new ≡ with_mark (map f done) (f x) → map f done ≡ and_then (map f first) (map f given) → map f new ≡ and_then (map f first) (map f (given ++ x ∷ []))
owner_next f new done first given x step before =
    step
    ∙ ap (λ (l : Marks). with_mark l (f x)) before
    ∙ sym (after_next (map f first) (map f given) (f x))
    ∙ ap (and_then (map f first)) (sym (map-append f given (x ∷ [])))

-- ---- the place at the end

module _ {X : Type 0} (f : X → Mark) (xs : List X) where
  -- where the last is before a row, all are
  pub last_before : (m : Mark) (last : X) → AreMarks (map f xs) → 0 < length xs → last ≡ get_or xs (length xs - 1) last → is_before m.relation m.row (f last) ≡ true → AllByRecursion (λ n. is_before m.relation m.row n ≡ true) (map f xs)
  last_before m last up some at h =
      subst (AllByRecursion (λ n. is_before m.relation m.row n ≡ true)) (take_all (length xs) (map f xs) (omega (arith, length-map xs f)))
      (all_owned f (λ n. is_before m.relation m.row n ≡ true) xs (length xs) (omega arith) (λ k d low lt.
      let within : length xs - 1 < length xs = omega arith in
      let same : f (get_or xs (length xs - 1) d) ≡ f last = sym (get_or-map f xs (length xs - 1) d (f d) within) ∙ sym (owned_at f xs (length xs - 1) last (f d) within at) in
      parted_owners f xs m.relation m.row up k (length xs - 1) d (omega arith) within (ap (is_before m.relation m.row) same ∙ h)))

  pub place_end : (relation : ℕ) (row : Row) (i : ℕ) → i ≡ length xs → AllByRecursion (λ n. is_before relation row n ≡ true) (map f xs) → IsPlaceFor (map f xs) relation row i
  place_end relation row i is all =
      let long : length (map f xs) ≤ i = omega (arith, is, length-map xs f) in
      record {
        within = omega (arith, is, length-map xs f);
        before = subst (AllByRecursion (λ n. is_before relation row n ≡ true)) (sym (take_all i (map f xs) long)) all;
        after = subst (AllByRecursion (λ n. is_before relation row n ≡ false)) (sym (drop_of_length-le (map f xs) long)) tt;
      }

-- ---- what is known of each place

pub before_each : (marks : Marks) (relation : ℕ) (row : Row) (i : ℕ) → IsPlaceFor marks relation row i → (p : ℕ) (m : Mark) → slice_get marks p ≡ Some m → p < i → is_before relation row m ≡ true
before_each marks relation row i place = go marks i place.before
  where
    go : (marks : Marks) (i : ℕ) → AllByRecursion (λ m. is_before relation row m ≡ true) (take i marks) → (p : ℕ) (m : Mark) → slice_get marks p ≡ Some m → p < i → is_before relation row m ≡ true
    go [] i all p m at lt = absurd cc
    go (x ∷ marks) zero all p m at lt = absurd (omega arith)
    go (x ∷ marks) (suc i) all zero m at lt = let e : x ≡ m = cc in subst (λ (n : Mark). is_before relation row n ≡ true) e all.0
    go (x ∷ marks) (suc i) all (suc p) m at lt = go marks i all.1 p m at (omega arith)

pub after_each : (marks : Marks) (relation : ℕ) (row : Row) (i : ℕ) → IsPlaceFor marks relation row i → (p : ℕ) (m : Mark) → slice_get marks p ≡ Some m → i ≤ p → is_before relation row m ≡ false
after_each marks relation row i place = go marks i place.after
  where
    go : (marks : Marks) (i : ℕ) → AllByRecursion (λ m. is_before relation row m ≡ false) (drop i marks) → (p : ℕ) (m : Mark) → slice_get marks p ≡ Some m → i ≤ p → is_before relation row m ≡ false
    go [] i all p m at le = absurd cc
    go (x ∷ marks) zero all zero m at le = let e : x ≡ m = cc in subst (λ (n : Mark). is_before relation row n ≡ false) e all.0
    go (x ∷ marks) zero all (suc p) m at le = go marks zero all.1 p m at (omega arith)
    go (x ∷ marks) (suc i) all zero m at le = absurd (omega arith)
    go (x ∷ marks) (suc i) all (suc p) m at le = go marks i all p m at (omega arith)
