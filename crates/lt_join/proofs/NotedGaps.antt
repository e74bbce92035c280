-- Gaps that are noted one by one, each with the number of its index.
use Rattle.std.specs.Prelude.{◌≡◌, ◌<◌, ◌≤◌, ℕ, zero, suc, ◌+◌, List, [], ◌∷◌, ◌++◌, length, take, slice_get, Option, Some, None}
use Rattle.std.specs.List.{AllByRecursion}
use Rattle.std.specs.Result.{OnErr}
use Rattle.std.specs.declared.result.Result.{Result}
use Rattle.std.specs.declared.result.Result.TheVariants.{Ok, Err}
use Rattle.std.proofs.Common.{refl, sym, ap, ap₂, ◌∙◌, subst, inl, inr, arith, get_or}
use Rattle.std.proofs.lemmas.List.{map-append, append_assoc}
use Rattle.lt_face.specs.Limits.{most_columns}
use Rattle.lt_sense.specs.declared.covering.KeptGap.{KeptGap}
use Rattle.lt_join.specs.declared.noting.NotedGap.{NotedGap}
use Rattle.lt_join.specs.declared.noting.NotedIndex.{NotedIndex}
use Rattle.lt_join.specs.Noted.{AreNoted, IsIndexAt, IsNoted, MoreIndexes, gap_of, noted_gap, noted_gaps}
use Rattle.lt_join.proofs.Lists.{all_append, length_append, take_more}

get_front : (xs : List NotedIndex) (x : NotedIndex) (i : ℕ) → i < length xs → slice_get (xs ++ x ∷ []) i ≡ slice_get xs i
get_front [] x i lt = absurd (omega (arith, lt))
get_front (y ∷ xs) x zero lt = refl
get_front (y ∷ xs) x (suc i) lt = get_front xs x i (omega (arith, lt))

pub get_last : (xs : List NotedIndex) (x : NotedIndex) → slice_get (xs ++ x ∷ []) (length xs) ≡ Some x
get_last [] x = refl
get_last (y ∷ xs) x = get_last xs x

pub get_within : (xs : List NotedIndex) (i : ℕ) (x : NotedIndex) → slice_get xs i ≡ Some x → i < length xs
get_within [] i x e = cc
get_within (y ∷ xs) zero x e = omega arith
get_within (y ∷ xs) (suc i) x e = let r = get_within xs i x e in omega (arith, r)

pub get_is : (xs : List NotedIndex) (i : ℕ) (x : NotedIndex) → i < length xs → x ≡ get_or xs i x → slice_get xs i ≡ Some x
get_is [] i x lt e = absurd (omega (arith, lt))
get_is (y ∷ xs) zero x lt e = ap (λ z. Some z) (sym e)
get_is (y ∷ xs) (suc i) x lt e = get_is xs i x (omega (arith, lt)) e

-- an index more doesn't change what was noted
same_front : (xs : List NotedIndex) (x : NotedIndex) (gaps : List NotedGap) → AllByRecursion (IsNoted xs) gaps → noted_gaps (xs ++ x ∷ []) gaps ≡ noted_gaps xs gaps
same_front xs x [] h = refl
same_front xs x (gap ∷ gaps) h = ap₂ (λ (i : Option NotedIndex) (rest : List KeptGap). gap_of i gap ∷ rest) (get_front xs x gap.index h.0.0) (same_front xs x gaps h.1)

noted_front : (xs : List NotedIndex) (x : NotedIndex) (gaps : List NotedGap) → AllByRecursion (IsNoted xs) gaps → AllByRecursion (IsNoted (xs ++ x ∷ [])) gaps
noted_front xs x [] h = tt
noted_front xs x (gap ∷ gaps) h =
    ((let a = h.0.0 in let n = length_append xs (x ∷ []) in let one : length (x ∷ []) ≡ 1 = refl in omega (arith, a, n, one), h.0.1), noted_front xs x gaps h.1)

pub more_same : (xs ys : List NotedIndex) (relation : ℕ) (columns : List ℕ) (gaps : List NotedGap) → MoreIndexes xs ys relation columns → AreNoted xs gaps → noted_gaps ys gaps ≡ noted_gaps xs gaps
more_same xs ys relation columns gaps more so = elim more [
  | inl e ↦ ap (λ (zs : List NotedIndex). noted_gaps zs gaps) e
  | inr e ↦ ap (λ (zs : List NotedIndex). noted_gaps zs gaps) e ∙ same_front xs (record { relation = relation; columns = columns }) gaps so.each
]

pub more_noted : (xs ys : List NotedIndex) (relation : ℕ) (columns : List ℕ) (gaps : List NotedGap) → MoreIndexes xs ys relation columns → length columns ≤ most_columns → AreNoted xs gaps → AreNoted ys gaps
more_noted xs ys relation columns gaps more narrow so = elim more [
  | inl e ↦ subst (λ (zs : List NotedIndex). AreNoted zs gaps) (sym e) so
  | inr e ↦ subst (λ (zs : List NotedIndex). AreNoted zs gaps) (sym e) (record {
    narrow = all_append (λ (index : NotedIndex). length index.columns ≤ most_columns) xs (record { relation = relation; columns = columns } ∷ []) so.narrow (narrow, tt);
    each = noted_front xs (record { relation = relation; columns = columns }) gaps so.each;
  })
]

-- one gap more
module _ (xs ys : List NotedIndex) (relation at lo hi : ℕ) (columns prefix : List ℕ) (gaps more : List NotedGap) (later : MoreIndexes xs ys relation columns) (is : IsIndexAt ys relation columns at) (so : AreNoted xs gaps) (pushed : more ≡ gaps ++ record { index = at; prefix = prefix; lo = lo; hi = hi } ∷ []) where
  pub one_noted : length columns ≤ most_columns → lo < hi → AreNoted ys more
  one_noted narrow some =
      let old = more_noted xs ys relation columns gaps later narrow so in
      record {
        narrow = old.narrow;
        each = rw pushed (all_append (IsNoted ys) gaps (record { index = at; prefix = prefix; lo = lo; hi = hi } ∷ []) old.each ((get_within ys at (record { relation = relation; columns = columns }) is, some), tt));
      }

  pub one_more : noted_gaps ys more ≡ noted_gaps xs gaps ++ record { relation = relation; columns = columns; prefix = prefix; lo = lo; hi = hi } ∷ []
  one_more =
      ap (noted_gaps ys) pushed
      ∙ map-append (noted_gap ys) gaps (record { index = at; prefix = prefix; lo = lo; hi = hi } ∷ [])
      ∙ ap₂ (λ (first : List KeptGap) (i : Option NotedIndex). first ++ gap_of i (record { index = at; prefix = prefix; lo = lo; hi = hi }) ∷ []) (more_same xs ys relation columns gaps later so) is

-- ---- one of them after the other

-- the gap at this place, as it is seen
pub gap_at_place : (xs : List NotedIndex) (gaps : List NotedGap) (i : ℕ) (gap : NotedGap) (index : NotedIndex) → AreNoted xs gaps → i < length gaps → gap ≡ get_or gaps i gap → gap.index < length xs → index ≡ get_or xs gap.index index
    → noted_gaps xs (take (i + 1) gaps) ≡ noted_gaps xs (take i gaps) ++ record { relation = index.relation; columns = index.columns; prefix = gap.prefix; lo = gap.lo; hi = gap.hi } ∷ []
gap_at_place xs gaps i gap index so lt is within at =
    ap (noted_gaps xs) (take_more gaps i gap lt is)
    ∙ map-append (noted_gap xs) (take i gaps) (gap ∷ [])
    ∙ ap (λ (x : Option NotedIndex). noted_gaps xs (take i gaps) ++ gap_of x gap ∷ []) (get_is xs gap.index index within at)

pub noted_at : (xs : List NotedIndex) (gaps : List NotedGap) (i : ℕ) (gap : NotedGap) → AreNoted xs gaps → i < length gaps → gap ≡ get_or gaps i gap → IsNoted xs gap
noted_at xs [] i gap so lt is = absurd (omega (arith, lt))
noted_at xs (g ∷ gaps) zero gap so lt is = subst (IsNoted xs) (sym is) so.each.0
noted_at xs (g ∷ gaps) (suc i) gap so lt is = noted_at xs gaps i gap (record { narrow = so.narrow; each = so.each.1 }) (omega (arith, lt)) is

pub narrow_at : (xs : List NotedIndex) (i : ℕ) (index : NotedIndex) → AllByRecursion (λ (index : NotedIndex). length index.columns ≤ most_columns) xs → i < length xs → index ≡ get_or xs i index → length index.columns ≤ most_columns
narrow_at [] i index h lt is = absurd (omega (arith, lt))
narrow_at (x ∷ xs) zero index h lt is = subst (λ (index : NotedIndex). length index.columns ≤ most_columns) (sym is) h.0
narrow_at (x ∷ xs) (suc i) index h lt is = narrow_at xs i index h.1 (omega (arith, lt)) is

pub first_at : (gaps : List NotedGap) (i : ℕ) (gap : NotedGap) → AllByRecursion (λ (gap : NotedGap). gap.prefix ≡ []) gaps → i < length gaps → gap ≡ get_or gaps i gap → gap.prefix ≡ []
first_at [] i gap h lt is = absurd (omega (arith, lt))
first_at (g ∷ gaps) zero gap h lt is = subst (λ (gap : NotedGap). gap.prefix ≡ []) (sym is) h.0
first_at (g ∷ gaps) (suc i) gap h lt is = first_at gaps i gap h.1 (omega (arith, lt)) is

-- gaps of the first level, as they are seen, are so as they are noted
pub first_noted : (xs : List NotedIndex) (gaps : List NotedGap) → AllByRecursion (λ (gap : KeptGap). gap.prefix ≡ []) (noted_gaps xs gaps) → AllByRecursion (λ (gap : NotedGap). gap.prefix ≡ []) gaps
first_noted xs [] h = tt
first_noted xs (gap ∷ gaps) h = (sym (same_prefix (slice_get xs gap.index) gap) ∙ h.0, first_noted xs gaps h.1) where
  same_prefix : (i : Option NotedIndex) (gap : NotedGap) → (gap_of i gap).prefix ≡ gap.prefix
  same_prefix None gap = refl
  same_prefix (Some index) gap = refl

-- what is added one by one, at the end
pub added_more : (first old now next rest : List KeptGap) (gap : KeptGap) → now ≡ first ++ old → next ≡ now ++ gap ∷ [] → rest ≡ old ++ gap ∷ [] → next ≡ first ++ rest
added_more first old now next rest gap so pushed is = pushed ∙ ap (λ xs. xs ++ gap ∷ []) so ∙ append_assoc first old (gap ∷ []) ∙ ap (λ xs. first ++ xs) (sym is)

-- what holds where memory was refused
pub on_err : {T E : Type 0} (r : Result T E) (P : Type 0) → P → OnErr r P
on_err (Ok x) P h = tt
on_err (Err e) P h = h
