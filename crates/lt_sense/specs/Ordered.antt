-- How many orders of columns the gaps of a relation have, and what is said of lists that are put in order.
use Rattle.std.specs.Prelude.{◌≡◌, ◌≤◌, ◌+◌, ℕ, Bool, false, not, ◌&&◌, ◌||◌, ◌==◌, if◌then◌else◌, List, [], ◌∷◌, length}
use Rattle.std.specs.List.{AllByRecursion, list_any}
use Rattle.std.specs.Ordering.{nat_cmp, is_eq, is_gt, then_cmp}
use Rattle.std.specs.declared.cmp.Ordering.{Ordering}
use Rattle.lt_face.specs.Rows.{row_cmp}
use Rattle.lt_face.specs.State.{Row}
use Rattle.lt_sense.specs.declared.covering.KeptGap.{KeptGap}
use Rattle.lt_face.specs.Lists.{AreInOrder}

-- by relation, then by the order of its columns
abbrev pub family_cmp : KeptGap → KeptGap → Ordering
family_cmp = then_cmp (λ a b. nat_cmp a.relation b.relation) (λ a b. row_cmp a.columns b.columns)

-- whether a gap is of the relation and of its order of columns
abbrev pub is_of_family : KeptGap → KeptGap → Bool
is_of_family a b = is_eq (family_cmp a b)

-- how many orders of columns of the relation there are: the last gap of each counts
abbrev pub orders_of : ℕ → List KeptGap → ℕ
orders_of relation [] = 0
orders_of relation (gap ∷ gaps) = (if gap.relation == relation && not (list_any (is_of_family gap) gaps) then 1 else 0) + orders_of relation gaps

-- they cover the same rows
abbrev pub CoverAlike : {X : Type 0} → (X → ℕ → Row → Bool) → List X → List X → Type 0
CoverAlike covers one other = (relation : ℕ) (row : Row) → list_any (λ x. covers x relation row) one ≡ list_any (λ x. covers x relation row) other

-- ---- lists put in order

-- none of them is above this one
abbrev pub AreUpTo : {X : Type 0} → (X → X → Ordering) → List X → X → Type 0
AreUpTo cmp xs x = AllByRecursion (λ o. is_gt (cmp o x) ≡ false) xs

-- It was added at the end of a list in order, none of which is above it, or went into the last of them.
pub record IsPut {X : Type 0} (cmp : X → X → Ordering) (before : X → X → Type 0) (covers : X → ℕ → Row → Bool) (old new : List X) (x : X) : Type 0 where
  pub ordered : AreInOrder before new
  pub up_to : (y : X) → AreUpTo cmp old y → is_gt (cmp x y) ≡ false → AreUpTo cmp new y
  pub covered : (relation : ℕ) (row : Row) → list_any (λ y. covers y relation row) new ≡ (list_any (λ y. covers y relation row) old || covers x relation row)
  pub few : length new ≤ length old + 1

-- a list in order that covers what another does, and is no longer
pub record IsSealedOf {X : Type 0} (before : X → X → Type 0) (covers : X → ℕ → Row → Bool) (old new : List X) : Type 0 where
  pub ordered : AreInOrder before new
  pub alike : CoverAlike covers new old
  pub few : length new ≤ length old
