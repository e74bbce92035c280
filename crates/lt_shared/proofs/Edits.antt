-- Edits of one entry of a list.
use Rattle.std.proofs.Common.{◌≡◌, ℕ, zero, suc, ◌+◌, ◌<◌, Bool, true, false, ◌||◌, length, get_or, take, drop, set, List, [], ◌∷◌, ◌++◌, refl, sym, ap, ◌∙◌, subst, arith, append_assoc, Result, Ok, Err, OnErr}
use Rattle.std.specs.List.{insert, remove, list_any}
use Rattle.lt_shared.specs.declared.entry.Put.TheVariants.{Was, Fits, Halves}
use Rattle.lt_shared.specs.declared.entry.Taken.TheVariants.{Missing, Out, Last}
use Rattle.lt_shared.specs.Entries.{joined, IsPlace, IsPut, IsTaken, two_for}
use Rattle.lt_shared.proofs.Joins.{joined-append, joined-at, has-at, with-at, without-at}

pub two_for-length : {X : Type 0} (xs : List X) (at : ℕ) (a b : X) → at < length xs → length (two_for xs at a b) ≡ suc (length xs)
two_for-length [] at a b lt = absurd (omega arith)
two_for-length (x ∷ xs) zero a b lt = refl
two_for-length (x ∷ xs) (suc at) a b lt = ap suc (two_for-length xs at a b (omega arith))

pub set-insert : {X : Type 0} (xs : List X) (at : ℕ) (a b : X) → at < length xs → set (insert xs (suc at) b) at a ≡ two_for xs at a b
set-insert [] at a b lt = absurd (omega arith)
set-insert (x ∷ xs) zero a b lt = refl
set-insert (x ∷ xs) (suc at) a b lt = ap (λ t. x ∷ t) (set-insert xs at a b (omega arith))

pub two_for-set : {X : Type 0} (xs : List X) (at : ℕ) (a b y : X) → two_for (set xs at y) at a b ≡ two_for xs at a b
two_for-set [] zero a b y = refl
two_for-set [] (suc at) a b y = refl
two_for-set (x ∷ xs) zero a b y = refl
two_for-set (x ∷ xs) (suc at) a b y = ap (λ t. x ∷ t) (two_for-set xs at a b y)

pub joined-set : {X : Type 0} (f : X → List (List ℕ)) (xs : List X) (at : ℕ) (y : X) → at < length xs → joined f (set xs at y) ≡ joined f (take at xs) ++ (f y ++ joined f (drop (suc at) xs))
joined-set f [] at y lt = absurd (omega arith)
joined-set f (x ∷ xs) zero y lt = refl
joined-set f (x ∷ xs) (suc at) y lt = ap (λ t. f x ++ t) (joined-set f xs at y (omega arith)) ∙ sym (append_assoc (f x) (joined f (take at xs)) (f y ++ joined f (drop (suc at) xs)))

pub joined-two : {X : Type 0} (f : X → List (List ℕ)) (xs : List X) (at : ℕ) (a b : X) → joined f (two_for xs at a b) ≡ joined f (take at xs) ++ ((f a ++ f b) ++ joined f (drop (suc at) xs))
joined-two f xs at a b =
    joined-append f (take at xs) (a ∷ (b ∷ drop (suc at) xs)) ∙ ap (λ t. joined f (take at xs) ++ t) (sym (append_assoc (f a) (f b) (joined f (drop (suc at) xs))))

joined-remove : {X : Type 0} (f : X → List (List ℕ)) (xs : List X) (at : ℕ) → at < length xs → joined f (remove xs at) ≡ joined f (take at xs) ++ joined f (drop (suc at) xs)
joined-remove f [] at lt = absurd (omega arith)
joined-remove f (x ∷ xs) zero lt = refl
joined-remove f (x ∷ xs) (suc at) lt = ap (λ t. f x ++ t) (joined-remove f xs at (omega arith)) ∙ sym (append_assoc (f x) (joined f (take at xs)) (joined f (drop (suc at) xs)))

-- another entry with the same rows changes nothing
pub joined-same : {X : Type 0} (f : X → List (List ℕ)) (xs : List X) (at : ℕ) (x y : X) → at < length xs → x ≡ get_or xs at x → f y ≡ f x → joined f (set xs at y) ≡ joined f xs
joined-same f xs at x y lt is e =
    joined-set f xs at y lt ∙ ap (λ t. joined f (take at xs) ++ (t ++ joined f (drop (suc at) xs))) e ∙ sym (joined-at f xs at x lt is)

-- ---- a row put into the entry at its place

pub put-was : {X Y : Type 0} (f : X → List (List ℕ)) (h : Y → List (List ℕ)) (xs : List X) (at : ℕ) (x y : X) (row : List ℕ) → IsPlace f xs row at → x ≡ get_or xs at x
    → IsPut f Was (f x) (f y) row → IsPut h Was (joined f xs) (joined f (set xs at y)) row
put-was f h xs at x y row place is put = record {
  rows = joined-set f xs at y place.within ∙ ap (λ t. joined f (take at xs) ++ (t ++ joined f (drop (suc at) xs))) put.rows ∙ sym (with-at f xs row at x place is);
  was = put.was ∙ sym (has-at f xs row at x place is);
  kept = joined-same f xs at x y place.within is put.kept;
}

pub put-fits : {X Y : Type 0} (f : X → List (List ℕ)) (h : Y → List (List ℕ)) (xs : List X) (at : ℕ) (x y : X) (row : List ℕ) → IsPlace f xs row at → x ≡ get_or xs at x
    → IsPut f Fits (f x) (f y) row → IsPut h Fits (joined f xs) (joined f (set xs at y)) row
put-fits f h xs at x y row place is put = record {
  rows = joined-set f xs at y place.within ∙ ap (λ t. joined f (take at xs) ++ (t ++ joined f (drop (suc at) xs))) put.rows ∙ sym (with-at f xs row at x place is);
  was = put.was ∙ sym (has-at f xs row at x place is);
  kept = tt;
}

-- the row was there, and the list is as it was
pub put-still : {X Y : Type 0} (f : X → List (List ℕ)) (h : Y → List (List ℕ)) (xs : List X) (at : ℕ) (x : X) (y : List (List ℕ)) (row : List ℕ) → IsPlace f xs row at → x ≡ get_or xs at x
    → IsPut f Was (f x) y row → IsPut h Was (joined f xs) (joined f xs) row
put-still f h xs at x y row place is put = record {
  rows = joined-at f xs at x place.within is ∙ ap (λ t. joined f (take at xs) ++ (t ++ joined f (drop (suc at) xs))) (sym put.kept ∙ put.rows) ∙ sym (with-at f xs row at x place is);
  was = put.was ∙ sym (has-at f xs row at x place is);
  kept = refl;
}

-- the entry became two, for which there was room
pub put-two : {X Y : Type 0} (f : X → List (List ℕ)) (h : Y → List (List ℕ)) (xs : List X) (at : ℕ) (x a b : X) (y : List (List ℕ)) (row : List ℕ) → IsPlace f xs row at → x ≡ get_or xs at x
    → IsPut f (Halves a b) (f x) y row → IsPut h Fits (joined f xs) (joined f (two_for xs at a b)) row
put-two f h xs at x a b y row place is put = record {
  rows = joined-two f xs at a b ∙ ap (λ t. joined f (take at xs) ++ (t ++ joined f (drop (suc at) xs))) put.rows ∙ sym (with-at f xs row at x place is);
  was = put.was ∙ sym (has-at f xs row at x place is);
  kept = tt;
}

-- the entry became two, and so did the list
pub put-halves : {X Y : Type 0} (f : X → List (List ℕ)) (h : Y → List (List ℕ)) (xs : List X) (at : ℕ) (x a b : X) (y new : List (List ℕ)) (first second : List X) (v w : Y) (row : List ℕ) → IsPlace f xs row at → x ≡ get_or xs at x
    → IsPut f (Halves a b) (f x) y row → first ++ second ≡ two_for xs at a b → h v ≡ joined f first → h w ≡ joined f second → new ≡ joined f xs → IsPut h (Halves v w) (joined f xs) new row
put-halves f h xs at x a b y new first second v w row place is put all hv hw same = record {
  rows = ap (λ t. t ++ h w) hv ∙ ap (λ t. joined f first ++ t) hw ∙ sym (joined-append f first second) ∙ ap (joined f) all
      ∙ joined-two f xs at a b ∙ ap (λ t. joined f (take at xs) ++ (t ++ joined f (drop (suc at) xs))) put.rows ∙ sym (with-at f xs row at x place is);
  was = put.was ∙ sym (has-at f xs row at x place is);
  kept = same;
}

-- one of the elements is so
pub any-at : {X : Type 0} (p : X → Bool) (xs : List X) (at : ℕ) (x : X) → at < length xs → x ≡ get_or xs at x → p x ≡ true → list_any p xs ≡ true
any-at p [] at x lt is h = absurd (omega arith)
any-at p (y ∷ ys) zero x lt is h = rw (← is) (rw h refl)
any-at p (y ∷ ys) (suc at) x lt is h = rw (any-at p ys at x (omega arith) is h) (or_true (p y))
  where
    or_true : (b : Bool) → (b || true) ≡ true
    or_true true = refl
    or_true false = refl

-- ---- a row taken out of the entry at its place

pub take-missing : {X : Type 0} (f : X → List (List ℕ)) (xs : List X) (at : ℕ) (x y : X) (row : List ℕ) → IsPlace f xs row at → x ≡ get_or xs at x
    → IsTaken Missing (f x) (f y) row → IsTaken Missing (joined f xs) (joined f (set xs at y)) row
take-missing f xs at x y row place is taken = record {
  rows = joined-set f xs at y place.within ∙ ap (λ t. joined f (take at xs) ++ (t ++ joined f (drop (suc at) xs))) taken.rows ∙ sym (without-at f xs row at x place is);
  was = taken.was ∙ sym (has-at f xs row at x place is);
  kept = joined-same f xs at x y place.within is taken.kept;
}

pub take-out : {X : Type 0} (f : X → List (List ℕ)) (xs : List X) (at : ℕ) (x y : X) (row : List ℕ) → IsPlace f xs row at → x ≡ get_or xs at x
    → IsTaken Out (f x) (f y) row → IsTaken Out (joined f xs) (joined f (set xs at y)) row
take-out f xs at x y row place is taken = record {
  rows = joined-set f xs at y place.within ∙ ap (λ t. joined f (take at xs) ++ (t ++ joined f (drop (suc at) xs))) taken.rows ∙ sym (without-at f xs row at x place is);
  was = taken.was ∙ sym (has-at f xs row at x place is);
  kept = tt;
}

-- the row was missing, and the list is as it was
pub take-still : {X : Type 0} (f : X → List (List ℕ)) (xs : List X) (at : ℕ) (x : X) (y : List (List ℕ)) (row : List ℕ) → IsPlace f xs row at → x ≡ get_or xs at x
    → IsTaken Missing (f x) y row → IsTaken Missing (joined f xs) (joined f xs) row
take-still f xs at x y row place is taken = record {
  rows = joined-at f xs at x place.within is ∙ ap (λ t. joined f (take at xs) ++ (t ++ joined f (drop (suc at) xs))) (sym taken.kept ∙ taken.rows) ∙ sym (without-at f xs row at x place is);
  was = taken.was ∙ sym (has-at f xs row at x place is);
  kept = refl;
}

-- the entry is to go, and others stay
pub take-entry : {X : Type 0} (f : X → List (List ℕ)) (xs : List X) (at : ℕ) (x : X) (y : List (List ℕ)) (row : List ℕ) → IsPlace f xs row at → x ≡ get_or xs at x
    → IsTaken Last (f x) y row → IsTaken Out (joined f xs) (joined f (remove xs at)) row
take-entry f xs at x y row place is taken = record {
  rows = joined-append f (take at xs) (drop (suc at) xs) ∙ ap (λ t. joined f (take at xs) ++ (t ++ joined f (drop (suc at) xs))) taken.rows ∙ sym (without-at f xs row at x place is);
  was = taken.was ∙ sym (has-at f xs row at x place is);
  kept = tt;
}

pub remove-length : {X : Type 0} (xs : List X) (at : ℕ) → at < length xs → length (remove xs at) + 1 ≡ length xs
remove-length [] at lt = absurd (omega arith)
remove-length (x ∷ xs) zero lt = omega arith
remove-length (x ∷ xs) (suc at) lt = let e = remove-length xs at (omega arith) in omega arith

-- the same, where the entry was edited in its place first
pub put-two-in : {X Y : Type 0} (f : X → List (List ℕ)) (h : Y → List (List ℕ)) (xs : List X) (at : ℕ) (x a b z : X) (y : List (List ℕ)) (row : List ℕ) → IsPlace f xs row at → x ≡ get_or xs at x
    → IsPut f (Halves a b) (f x) y row → IsPut h Fits (joined f xs) (joined f (two_for (set xs at z) at a b)) row
put-two-in f h xs at x a b z y row place is put =
    subst (λ t. IsPut h Fits (joined f xs) (joined f t) row) (sym (two_for-set xs at a b z)) (put-two f h xs at x a b y row place is put)

remove-set : {X : Type 0} (xs : List X) (at : ℕ) (z : X) → remove (set xs at z) at ≡ remove xs at
remove-set [] zero z = refl
remove-set [] (suc at) z = refl
remove-set (x ∷ xs) zero z = refl
remove-set (x ∷ xs) (suc at) z = ap (λ t. x ∷ t) (remove-set xs at z)

pub take-entry-in : {X : Type 0} (f : X → List (List ℕ)) (xs : List X) (at : ℕ) (x z : X) (y : List (List ℕ)) (row : List ℕ) → IsPlace f xs row at → x ≡ get_or xs at x
    → IsTaken Last (f x) y row → IsTaken Out (joined f xs) (joined f (remove (set xs at z) at)) row
take-entry-in f xs at x z y row place is taken =
    subst (λ t. IsTaken Out (joined f xs) (joined f t) row) (sym (remove-set xs at z)) (take-entry f xs at x y row place is taken)

-- what an error says of a list, whose entry is as it was
pub on_err : {A E : Type 0} (r : Result A E) (P : Type 0) → P → OnErr r P
on_err (Ok a) P p = tt
on_err (Err e) P p = p
