-- Which lists there are, and how many ranges they have, as gaps and rows that were met come.
use Rattle.std.proofs.Common.{◌≡◌, ◌≢◌, ℕ, zero, suc, ◌+◌, ◌<◌, ◌≤◌, List, [], ◌∷◌, ◌++◌, length, refl, sym, subst, arith, inl, inr, length-append}
use Rattle.std.specs.Prelude.{◌⊎◌, Result, Ok, Err, OnOk}
use Rattle.std.specs.List.{AllByRecursion}
use Rattle.std.proofs.lemmas.Bool.{cases_lt}
use Rattle.lt_face.specs.Lists.{IsIn, AnyByRecursion}
use Rattle.lt_face.proofs.Membership.{IsIn-append_left, IsIn-append_right}
use Rattle.lt_face.proofs.RowLemmas.{each_weaker}
use Rattle.lt_sense.specs.declared.covering.KeptGap.{KeptGap}
use Rattle.lt_sense.specs.declared.covering.Hit.{Hit}
use Rattle.lt_sense.specs.declared.spans.Spans.{Spans}
use Rattle.lt_sense.specs.Kept.{Sense}
use Rattle.lt_sense.specs.Gathered.{IsOrder}
use Rattle.lt_sense.specs.Held.{held_in, Index, indexes, AreDistinct, MoreIndexes, AreMoreIndexes, first_columns, IsFrom, IsCounted}
use Rattle.lt_sense.proofs.Sorted.{all_push, all_in, in_order_push}

pub on_ok : {T E P : Type 0} (result : Result T E) → P → OnOk result P
on_ok (Ok value) p = p
on_ok (Err error) p = tt

-- ---- the columns of a row, one after another

pub length_first : (n : ℕ) → length (first_columns n) ≡ n
length_first zero = refl
length_first (suc n) = (let e = length-append (first_columns n) (n ∷ []) in let f = length_first n in omega (arith, e, f))

pub order_first : (n : ℕ) → IsOrder (first_columns n)
order_first n c lt = there n c (let e = length_first n in omega (arith, lt, e))
  where
    there : (n c : ℕ) → c < n → IsIn c (first_columns n)
    there zero c lt = absurd (omega (arith, lt))
    there (suc n) c lt = elim (cases_lt c n) [
      | inl before ↦ IsIn-append_left c (first_columns n) (n ∷ []) (there n c before)
      | inr from ↦ IsIn-append_right c (first_columns n) (n ∷ []) (inl (let e : n ≡ c = omega (arith, from, lt) in e))
    ]

-- ---- lists that come

more_distinct : (old new : List Index) (index : Index) → AreDistinct old → MoreIndexes old new index → AreDistinct new
more_distinct old new index distinct more = elim more [
  | inl same ↦ subst AreDistinct (sym same) distinct
  | inr came ↦ subst AreDistinct (sym came.0) (in_order_push (λ a b. a ≢ b) old index distinct came.1)
]

more_from : (P : Index → Type 0) (old new : List Index) (index : Index) → AllByRecursion P old → P index → MoreIndexes old new index → AllByRecursion P new
more_from P old new index all one more = elim more [
  | inl same ↦ subst (AllByRecursion P) (sym same) all
  | inr came ↦ subst (AllByRecursion P) (sym came.0) (all_push P old index all one)
]

all_itself : (xs ys : List Index) → ((i : Index) → IsIn i ys → IsIn i xs) → AllByRecursion (λ i. IsIn i xs ⊎ IsIn i []) ys
all_itself xs [] f = tt
all_itself xs (y ∷ ys) f = (inl (f y (inl refl)), all_itself xs ys (λ i here. f i (inr here)))

pub none_more : (all : List Index) → AreMoreIndexes all all []
none_more all = record { distinct = λ d. d; from = all_itself all all (λ i here. here) }

pub more_next : (old mid new more : List Index) (index : Index) → AreMoreIndexes old mid more → MoreIndexes mid new index → AreMoreIndexes old new (more ++ index ∷ [])
more_next old mid new more index first next = record {
  distinct = λ d. more_distinct mid new index (first.distinct d) next;
  from = more_from (λ i. IsIn i old ⊎ IsIn i (more ++ index ∷ [])) mid new index
      (each_weaker (λ i. IsIn i old ⊎ IsIn i more) (λ i. IsIn i old ⊎ IsIn i (more ++ index ∷ [])) (λ i there. elim there [ inl a ↦ inl a | inr b ↦ inr (IsIn-append_left i more (index ∷ []) b) ]) mid first.from)
      (inr (IsIn-append_right index more (index ∷ []) (inl refl))) next;
}

-- ---- what a sense asked for

any_left : {X : Type 0} (P : X → Type 0) (xs ys : List X) → AnyByRecursion P xs → AnyByRecursion P (xs ++ ys)
any_left P [] ys any = absurd any
any_left P (x ∷ xs) ys any = elim any [ inl here ↦ inl here | inr rest ↦ inr (any_left P xs ys rest) ]

any_right : {X : Type 0} (P : X → Type 0) (xs ys : List X) → AnyByRecursion P ys → AnyByRecursion P (xs ++ ys)
any_right P [] ys any = any
any_right P (x ∷ xs) ys any = inr (any_right P xs ys any)

abbrev is_gap_of : Index → KeptGap → Type 0
is_gap_of index gap = (gap.relation, gap.columns) ≡ index

abbrev is_hit_of : Index → Hit → Type 0
is_hit_of index hit = (hit.relation, first_columns (length hit.row)) ≡ index

from_left : (one other : Sense) (index : Index) → IsFrom one index → IsFrom (record { gaps = one.gaps ++ other.gaps; hits = one.hits ++ other.hits }) index
from_left one other index from = elim from [ inl g ↦ inl (any_left (is_gap_of index) one.gaps other.gaps g) | inr h ↦ inr (any_left (is_hit_of index) one.hits other.hits h) ]

from_right : (one other : Sense) (index : Index) → IsFrom other index → IsFrom (record { gaps = one.gaps ++ other.gaps; hits = one.hits ++ other.hits }) index
from_right one other index from = elim from [ inl g ↦ inl (any_right (is_gap_of index) one.gaps other.gaps g) | inr h ↦ inr (any_right (is_hit_of index) one.hits other.hits h) ]

with_gap_from : (seen : Sense) (gap : KeptGap) (index : Index) → IsFrom seen index → IsFrom (record { gaps = seen.gaps ++ gap ∷ []; hits = seen.hits }) index
with_gap_from seen gap index from = elim from [ inl g ↦ inl (any_left (is_gap_of index) seen.gaps (gap ∷ []) g) | inr h ↦ inr h ]

with_hit_from : (seen : Sense) (hit : Hit) (index : Index) → IsFrom seen index → IsFrom (record { gaps = seen.gaps; hits = seen.hits ++ hit ∷ [] }) index
with_hit_from seen hit index from = elim from [ inl g ↦ inl g | inr h ↦ inr (any_left (is_hit_of index) seen.hits (hit ∷ []) h) ]

pub counted_same : (seen : Sense) (old new : List Spans) → IsCounted seen old → indexes new ≡ indexes old → held_in new ≤ held_in old → IsCounted seen new
counted_same seen old new counted same le = record {
  few = (let f = counted.few in omega (arith, f, le));
  distinct = subst AreDistinct (sym same) counted.distinct;
  from = subst (AllByRecursion (IsFrom seen)) (sym same) counted.from;
}

pub counted_gap : (seen : Sense) (old new : List Spans) (gap : KeptGap) → IsCounted seen old → MoreIndexes (indexes old) (indexes new) (gap.relation, gap.columns) → held_in new ≤ held_in old + 1 → IsCounted (record { gaps = seen.gaps ++ gap ∷ []; hits = seen.hits }) new
counted_gap seen old new gap counted more le = record {
  few = (let f = counted.few in let e = length-append seen.gaps (gap ∷ []) in omega (arith, f, le, e));
  distinct = more_distinct (indexes old) (indexes new) (gap.relation, gap.columns) counted.distinct more;
  from = more_from (IsFrom (record { gaps = seen.gaps ++ gap ∷ []; hits = seen.hits })) (indexes old) (indexes new) (gap.relation, gap.columns)
      (each_weaker (IsFrom seen) (IsFrom (record { gaps = seen.gaps ++ gap ∷ []; hits = seen.hits })) (with_gap_from seen gap) (indexes old) counted.from)
      (inl (any_right (is_gap_of (gap.relation, gap.columns)) seen.gaps (gap ∷ []) (inl refl))) more;
}

pub counted_hit : (seen : Sense) (old new : List Spans) (hit : Hit) → IsCounted seen old → MoreIndexes (indexes old) (indexes new) (hit.relation, first_columns (length hit.row)) → held_in new ≤ held_in old + 1 → IsCounted (record { gaps = seen.gaps; hits = seen.hits ++ hit ∷ [] }) new
counted_hit seen old new hit counted more le = record {
  few = (let f = counted.few in let e = length-append seen.hits (hit ∷ []) in omega (arith, f, le, e));
  distinct = more_distinct (indexes old) (indexes new) (hit.relation, first_columns (length hit.row)) counted.distinct more;
  from = more_from (IsFrom (record { gaps = seen.gaps; hits = seen.hits ++ hit ∷ [] })) (indexes old) (indexes new) (hit.relation, first_columns (length hit.row))
      (each_weaker (IsFrom seen) (IsFrom (record { gaps = seen.gaps; hits = seen.hits ++ hit ∷ [] })) (with_hit_from seen hit) (indexes old) counted.from)
      (inr (any_right (is_hit_of (hit.relation, first_columns (length hit.row))) seen.hits (hit ∷ []) (inl refl))) more;
}

pub counted_both : (one other : Sense) (old more new : List Spans) → IsCounted one old → IsCounted other more → AreMoreIndexes (indexes old) (indexes new) (indexes more) → held_in new ≤ held_in old + held_in more
    → IsCounted (record { gaps = one.gaps ++ other.gaps; hits = one.hits ++ other.hits }) new
counted_both one other old more new first second came le = record {
  few = (let f = first.few in let g = second.few in let a = length-append one.gaps other.gaps in let b = length-append one.hits other.hits in omega (arith, f, g, le, a, b));
  distinct = came.distinct first.distinct;
  from = each_weaker (λ i. IsIn i (indexes old) ⊎ IsIn i (indexes more)) (IsFrom (record { gaps = one.gaps ++ other.gaps; hits = one.hits ++ other.hits }))
      (λ i there. elim there [
        | inl a ↦ from_left one other i (all_in (IsFrom one) (indexes old) i first.from a)
        | inr b ↦ from_right one other i (all_in (IsFrom other) (indexes more) i second.from b)
      ]) (indexes new) came.from;
}
