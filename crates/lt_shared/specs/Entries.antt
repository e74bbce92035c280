-- Ascending rows that are kept in entries, one entry behind another.
use Rattle.std.specs.Prelude.{◌≡◌, ◌<◌, ◌≤◌, ℕ, suc, Bool, true, false, List, [], ◌∷◌, ◌++◌, length, take, drop, get_or, Option, Some, None, ⊤}
use Rattle.std.specs.List.{AllByRecursion, list_any}
use Rattle.std.specs.declared.cmp.Ordering.TheVariants.{Less, Greater}
use Rattle.std.specs.Ordering.{is_lt}
use Rattle.lt_face.specs.Rows.{row_cmp, has_row, with_row, without_row}
use Rattle.lt_shared.specs.declared.entry.Put.{Put}
use Rattle.lt_shared.specs.declared.entry.Put.TheVariants.{Was, Fits, Halves}
use Rattle.lt_shared.specs.declared.entry.Taken.{Taken}
use Rattle.lt_shared.specs.declared.entry.Taken.TheVariants.{Missing, Out, Last}

-- the rows of all entries
abbrev pub joined : {X : Type 0} → (X → List (List ℕ)) → List X → List (List ℕ)
joined f [] = []
joined f (x ∷ xs) = f x ++ joined f xs

-- the rows of a list of lists of entries
abbrev pub below_rows : {X : Type 0} → (X → List (List ℕ)) → List (List X) → List (List ℕ)
below_rows f levels = joined (λ level. joined f level) levels

-- the row is the first
abbrev pub IsFirst : List (List ℕ) → List ℕ → Type 0
IsFirst [] r = ⊥
IsFirst (x ∷ xs) r = x ≡ r

-- what is as great as the row q, if anything, lies in the entry at this place
pub record IsPlace {X : Type 0} (f : X → List (List ℕ)) (entries : List X) (q : List ℕ) (at : ℕ) : Type 0 where
  pub within : at < length entries
  pub before : AllByRecursion (λ r. row_cmp r q ≡ Less) (joined f (take at entries))
  pub after : AllByRecursion (λ r. row_cmp r q ≡ Greater) (joined f (drop (suc at) entries))

-- all rows are below q
abbrev pub AreAllBelow : List ℕ → List (List ℕ) → Type 0
AreAllBelow q rows = AllByRecursion (λ r. row_cmp r q ≡ Less) rows

-- no row is below q
abbrev pub AreNoneBelow : List ℕ → List (List ℕ) → Type 0
AreNoneBelow q rows = AllByRecursion (λ r. is_lt (row_cmp r q) ≡ false) rows

-- what is at least q begins in the entry at this place, or behind it
pub record IsNear {X : Type 0} (f : X → List (List ℕ)) (entries : List X) (q : List ℕ) (at : ℕ) : Type 0 where
  pub within : at < length entries
  pub before : AllByRecursion (λ r. row_cmp r q ≡ Less) (joined f (take at entries))
  pub after : AllByRecursion (λ r. is_lt (row_cmp r q) ≡ false) (joined f (drop (suc at) entries))

-- what a search in the entry at this place found, else the first row of the next entry
abbrev pub IsOrNext : {X : Type 0} → (X → List (List ℕ)) → List X → ℕ → Option (List ℕ) → Option (List ℕ) → Type 0
IsOrNext f entries at (Some r) result = result ≡ Some r
IsOrNext f entries at None (Some r) = (suc at < length entries) × ((y : _) × (y ≡ get_or entries (suc at) y) × IsFirst (f y) r)
IsOrNext f entries at None None = length entries ≤ suc at

-- the rows of an entry after a put, or of the two that are to stand in its place
abbrev pub put_rows : {X : Type 0} → (X → List (List ℕ)) → Put X → List (List ℕ) → List (List ℕ)
put_rows f Was now = now
put_rows f Fits now = now
put_rows f (Halves a b) now = f a ++ f b

abbrev pub was_there : {X : Type 0} → Put X → Bool
was_there Was = true
was_there Fits = false
was_there (Halves a b) = false

-- it is so where two entries are to stand in the place of the one
abbrev pub IfHalves : {X : Type 0} → Put X → (X → X → Type 0) → Type 0
IfHalves Was P = ⊤
IfHalves Fits P = ⊤
IfHalves (Halves a b) P = P a b

-- it is so unless the row went into the entry
abbrev pub UnlessFits : {X : Type 0} → Put X → Type 0 → Type 0
UnlessFits Was P = P
UnlessFits Fits P = ⊤
UnlessFits (Halves a b) P = P

-- what a put of a row does to the rows of an entry
pub record IsPut {X : Type 0} (f : X → List (List ℕ)) (put : Put X) (old new : List (List ℕ)) (row : List ℕ) : Type 0 where
  pub rows : put_rows f put new ≡ with_row old row
  pub was : was_there put ≡ has_row old row
  pub kept : UnlessFits put (new ≡ old)

-- the rows of an entry after a row was taken out, or none where the entry is to go
abbrev pub taken_rows : Taken → List (List ℕ) → List (List ℕ)
taken_rows Missing now = now
taken_rows Out now = now
taken_rows Last now = []

abbrev pub was_taken : Taken → Bool
was_taken Missing = false
was_taken Out = true
was_taken Last = true

-- it is so unless the row went out of the entry
abbrev pub UnlessOut : Taken → Type 0 → Type 0
UnlessOut Missing P = P
UnlessOut Out P = ⊤
UnlessOut Last P = P

-- what taking a row out does to the rows of an entry
pub record IsTaken (taken : Taken) (old new : List (List ℕ)) (row : List ℕ) : Type 0 where
  pub rows : taken_rows taken new ≡ without_row old row
  pub was : was_taken taken ≡ has_row old row
  pub kept : UnlessOut taken (new ≡ old)

-- the list with two elements in the place of one
abbrev pub two_for : {X : Type 0} → List X → ℕ → X → X → List X
two_for xs at a b = take at xs ++ (a ∷ (b ∷ drop (suc at) xs))

-- a list was parted in two, neither of them empty
pub record AreParts (old first second : ℕ) : Type 0 where
  pub some_first : 0 < first
  pub some_second : 0 < second
  pub bound_first : first ≤ old
  pub bound_second : second ≤ old

-- the list has at most one entry more, and that only where it had room and one of its entries was full
pub record Grows {X : Type 0} (limit : ℕ) (full : X → Bool) (old new : List X) : Type 0 where
  pub least : length old ≤ length new
  pub most : length new ≤ suc (length old)
  pub room : length old < length new → length old < limit
  pub cause : length old < length new → list_any full old ≡ true

-- the list has no more entries, and still one
pub record Shrinks {X : Type 0} (old new : List X) : Type 0 where
  pub least : 0 < length new
  pub most : length new ≤ length old

-- the rows of lists of entries, and of one more list
abbrev pub level_rows : {X : Type 0} → (X → List (List ℕ)) → List (List X) → List X → List (List ℕ)
level_rows f levels group = joined (λ level. joined f level) levels ++ joined f group
