-- Lists that gaps and rows that were met asked for: of a relation no more than the gaps have orders of its columns, and one.
use Rattle.std.proofs.Common.{◌≡◌, ◌≢◌, ℕ, ◌+◌, ◌≤◌, Bool, true, false, ◌&&◌, not, cond, List, [], ◌∷◌, length, refl, sym, ap, ◌∙◌, subst, arith, inl, inr}
use mathlib.Core.Bool.{true≢false}
use Rattle.std.specs.Prelude.{◌==◌, if◌then◌else◌, ◌⊎◌}
use Rattle.std.specs.List.{AllByRecursion, list_any, filter}
use Rattle.std.specs.Ordering.{is_eq}
use Rattle.std.proofs.lemmas.Bool.{and_parts, and_from, or_cases, eqb-true, eqb-false, eq-eqb}
use Rattle.lt_face.specs.Lists.{AnyByRecursion}
use Rattle.lt_face.specs.Rows.{row_cmp}
use Rattle.lt_face.specs.State.{Row}
use Rattle.lt_face.proofs.RowLemmas.{rows_exact, cmp_itself, each_weaker, each_filter}
use Rattle.lt_sense.specs.declared.covering.KeptGap.{KeptGap}
use Rattle.lt_sense.specs.declared.covering.Hit.{Hit}
use Rattle.lt_sense.specs.Kept.{Sense}
use Rattle.lt_sense.specs.Gathered.{IsAskable}
use Rattle.lt_sense.specs.Held.{Index, AreDistinct, IsFrom, first_columns, indexes_of}
use Rattle.lt_sense.specs.Ordered.{family_cmp, is_of_family, orders_of}
use Rattle.lt_sense.proofs.Sorted.{is_tie, same_family_parts}

abbrev of_gap : KeptGap → Index
of_gap gap = (gap.relation, gap.columns)

-- an index of the relation is that of a gap, or has these columns
abbrev IsKnown : ℕ → List ℕ → List KeptGap → Index → Type 0
IsKnown relation columns gaps index = index.0 ≡ relation → AnyByRecursion (λ (gap : KeptGap). of_gap gap ≡ index) gaps ⊎ (index.1 ≡ columns)

-- ---- one index of several

abbrev same : Index → Index → Bool
same a b = a.0 == b.0 && is_eq (row_cmp a.1 b.1)

same_is : (a b : Index) → same a b ≡ true → a ≡ b
same_is a b h =
    let parts = and_parts (a.0 == b.0) (is_eq (row_cmp a.1 b.1)) h in
    ap (λ n. (n, a.1)) (eqb-true a.0 b.0 parts.0) ∙ ap (λ cs. (b.0, cs)) (rows_exact a.1 b.1 (is_tie (row_cmp a.1 b.1) parts.1))

is_same : (a b : Index) → a ≡ b → same a b ≡ true
is_same a b e = and_from (a.0 == b.0) (is_eq (row_cmp a.1 b.1)) (eq-eqb a.0 b.0 (ap (λ (i : Index). i.0) e)) (ap (λ (i : Index). is_eq (row_cmp a.1 i.1)) (sym e) ∙ ap is_eq (cmp_itself a.1))

abbrev without : Index → List Index → List Index
without index all = filter (λ i. not (same i index)) all

none_same : (index : Index) (all : List Index) → AllByRecursion (λ i. index ≢ i) all → (relation : ℕ) → indexes_of relation (without index all) ≡ indexes_of relation all
none_same index [] none relation = refl
none_same index (i ∷ is) none relation = by (none_same index is none.1 relation) (same i index) refl
  where
    by : indexes_of relation (without index is) ≡ indexes_of relation is → (b : Bool) → same i index ≡ b → indexes_of relation (cond (not b) (i ∷ without index is) (without index is)) ≡ indexes_of relation (i ∷ is)
    by rest true e = absurd (none.0 (sym (same_is i index e)))
    by rest false e = ap (λ n. (if i.0 == relation then 1 else 0) + n) rest

at_most_one : (b : Bool) → (if b then 1 else 0) ≤ 1
at_most_one true = omega arith
at_most_one false = omega arith

-- of distinct ones but one is left out
one_less : (index : Index) (all : List Index) (relation : ℕ) → AreDistinct all → indexes_of relation all ≤ 1 + indexes_of relation (without index all)
one_less index [] relation distinct = omega arith
one_less index (i ∷ is) relation distinct = by (one_less index is relation distinct.1) (same i index) refl
  where
    by : indexes_of relation is ≤ 1 + indexes_of relation (without index is) → (b : Bool) → same i index ≡ b → indexes_of relation (i ∷ is) ≤ 1 + indexes_of relation (cond (not b) (i ∷ without index is) (without index is))
    by rest true e =
        let k = none_same index is (subst (λ (x : Index). AllByRecursion (λ j. x ≢ j) is) (same_is i index e) distinct.0) relation in
        let m = at_most_one (i.0 == relation) in
        omega (arith, k, m)
    by rest false e = omega (arith, rest)

still_distinct : (p : Index → Bool) (all : List Index) → AreDistinct all → AreDistinct (filter p all)
still_distinct p [] distinct = tt
still_distinct p (i ∷ is) distinct = elim (p i) as (λ b. AreDistinct (cond b (i ∷ filter p is) (filter p is))) [
  | true ↦ (each_filter (λ j. i ≢ j) p is distinct.0, still_distinct p is distinct.1)
  | false ↦ still_distinct p is distinct.1
]

-- ---- those of a relation

with_columns : (relation : ℕ) (columns : List ℕ) (j : Index) → j.0 ≡ relation → IsKnown relation columns [] j → j.1 ≡ columns
with_columns relation columns j e k = elim (k e) [ inl x ↦ absurd x | inr c ↦ c ]

-- none is of the relation, where one that isn't among them has all there are
none_else : (relation : ℕ) (columns : List ℕ) (i : Index) → i.0 ≡ relation → i.1 ≡ columns → (all : List Index) → AllByRecursion (λ j. i ≢ j) all → AllByRecursion (IsKnown relation columns []) all → indexes_of relation all ≡ 0
none_else relation columns i e c [] apart known = refl
none_else relation columns i e c (j ∷ js) apart known = by (none_else relation columns i e c js apart.1 known.1) (j.0 == relation) refl
  where
    by : indexes_of relation js ≡ 0 → (b : Bool) → (j.0 == relation) ≡ b → (if b then 1 else 0) + indexes_of relation js ≡ 0
    by rest true t =
        let f = eqb-true j.0 relation t in
        absurd (apart.0 (ap (λ n. (n, i.1)) (e ∙ sym f) ∙ ap (λ cs. (j.0, cs)) (c ∙ sym (with_columns relation columns j f known.0))))
    by rest false t = omega (arith, rest)

-- all with the same columns
columns_alone : (relation : ℕ) (columns : List ℕ) (all : List Index) → AreDistinct all → AllByRecursion (IsKnown relation columns []) all → indexes_of relation all ≤ 1
columns_alone relation columns [] distinct known = omega arith
columns_alone relation columns (i ∷ is) distinct known = by (columns_alone relation columns is distinct.1 known.1) (i.0 == relation) refl
  where
    by : indexes_of relation is ≤ 1 → (b : Bool) → (i.0 == relation) ≡ b → (if b then 1 else 0) + indexes_of relation is ≤ 1
    by rest true t =
        let e = eqb-true i.0 relation t in
        let n = none_else relation columns i e (with_columns relation columns i e known.0) is distinct.0 known.1 in
        omega (arith, n)
    by rest false t = omega (arith, rest)

-- a gap of the same index comes later
later : (g : KeptGap) (gaps : List KeptGap) → list_any (is_of_family g) gaps ≡ true → (index : Index) → of_gap g ≡ index → AnyByRecursion (λ (gap : KeptGap). of_gap gap ≡ index) gaps
later g [] h index e = absurd (true≢false (sym h))
later g (x ∷ xs) h index e = elim (or_cases (is_of_family g x) (list_any (is_of_family g) xs) h) [
  | inl here ↦ (let k = same_family_parts g x (is_tie (family_cmp g x) here) in inl (ap (λ n. (n, x.columns)) (sym k.0) ∙ ap (λ cs. (g.relation, cs)) (sym k.1) ∙ e))
  | inr rest ↦ inr (later g xs rest index e)
]

-- known by another gap
passed : (relation : ℕ) (columns : List ℕ) (g : KeptGap) (gs : List KeptGap) (i : Index) → (of_gap g ≡ i → i.0 ≡ relation → AnyByRecursion (λ (gap : KeptGap). of_gap gap ≡ i) gs) → IsKnown relation columns (g ∷ gs) i → IsKnown relation columns gs i
passed relation columns g gs i f k e = elim (k e) [
  | inl any ↦ elim any [ inl here ↦ inl (f here e) | inr rest ↦ inl rest ]
  | inr c ↦ inr c
]

-- all that are known without the index of the first gap
left_known : (relation : ℕ) (columns : List ℕ) (g : KeptGap) (gs : List KeptGap) (all : List Index) → AllByRecursion (IsKnown relation columns (g ∷ gs)) all → AllByRecursion (IsKnown relation columns gs) (without (of_gap g) all)
left_known relation columns g gs [] known = tt
left_known relation columns g gs (i ∷ is) known = by (left_known relation columns g gs is known.1) (same i (of_gap g)) refl
  where
    by : AllByRecursion (IsKnown relation columns gs) (without (of_gap g) is) → (b : Bool) → same i (of_gap g) ≡ b → AllByRecursion (IsKnown relation columns gs) (cond (not b) (i ∷ without (of_gap g) is) (without (of_gap g) is))
    by rest true t = rest
    by rest false t = (passed relation columns g gs i (λ here r. absurd (true≢false (sym (is_same i (of_gap g) (sym here)) ∙ t))) known.0, rest)

pub few_known : (relation : ℕ) (columns : List ℕ) (gaps : List KeptGap) (all : List Index) → AreDistinct all → AllByRecursion (IsKnown relation columns gaps) all → indexes_of relation all ≤ orders_of relation gaps + 1
few_known relation columns [] all distinct known = columns_alone relation columns all distinct known
few_known relation columns (g ∷ gs) all distinct known = by (λ rest d k. few_known relation columns gs rest d k) (list_any (is_of_family g) gs) refl (g.relation == relation) refl
  where
    by : ((rest : List Index) → AreDistinct rest → AllByRecursion (IsKnown relation columns gs) rest → indexes_of relation rest ≤ orders_of relation gs + 1)
        → (b : Bool) → list_any (is_of_family g) gs ≡ b → (r : Bool) → (g.relation == relation) ≡ r → indexes_of relation all ≤ ((if r && not b then 1 else 0) + orders_of relation gs) + 1
    by few true e r t =
        (let rest = few all distinct (each_weaker (IsKnown relation columns (g ∷ gs)) (IsKnown relation columns gs) (λ i. passed relation columns g gs i (λ here q. later g gs e i here)) all known) in omega (arith, rest))
    by few false e true t =
        let rest = few (without (of_gap g) all) (still_distinct (λ i. not (same i (of_gap g))) all distinct) (left_known relation columns g gs all known) in
        let one = one_less (of_gap g) all relation distinct in
        omega (arith, rest, one)
    by few false e false t =
        (let rest = few all distinct (each_weaker (IsKnown relation columns (g ∷ gs)) (IsKnown relation columns gs) (λ i. passed relation columns g gs i (λ here q. absurd (eqb-false g.relation relation t (ap (λ (x : Index). x.0) here ∙ q)))) all known) in omega (arith, rest))

-- ---- of what may be asked for

known_by : (sense : Sense) (relation : ℕ) (row : Row) → IsAskable sense relation row → (index : Index) → IsFrom sense index → IsKnown relation (first_columns (length row)) sense.gaps index
known_by sense relation row ask index from e = elim from [
  | inl gap ↦ inl gap
  | inr hit ↦ inr (met sense.hits ask.hits hit)
]
  where
    met : (hits : List Hit) → AllByRecursion (λ (hit : Hit). hit.relation ≡ relation → length hit.row ≡ length row) hits → AnyByRecursion (λ (hit : Hit). (hit.relation, first_columns (length hit.row)) ≡ index) hits → index.1 ≡ first_columns (length row)
    met [] all any = absurd any
    met (h ∷ hs) all (inl here) = sym (ap (λ (i : Index). i.1) here) ∙ ap first_columns (all.0 (ap (λ (i : Index). i.0) here ∙ e))
    met (h ∷ hs) all (inr rest) = met hs all.1 rest

pub few_asked : (sense : Sense) (relation : ℕ) (row : Row) (all : List Index) → IsAskable sense relation row → AreDistinct all → AllByRecursion (IsFrom sense) all → indexes_of relation all ≤ orders_of relation sense.gaps + 1
few_asked sense relation row all ask distinct from =
    few_known relation (first_columns (length row)) sense.gaps all distinct (each_weaker (IsFrom sense) (IsKnown relation (first_columns (length row)) sense.gaps) (known_by sense relation row ask) all from)
