-- Ranges that become one, and lists of ranges that one more is put to.
use Rattle.std.proofs.Common.{◌≡◌, ℕ, zero, suc, ◌+◌, ◌<◌, ◌≤◌, Bool, true, false, ◌&&◌, ◌||◌, List, [], ◌∷◌, ◌++◌, length, drop, get_or, slice_get, slice_index, Some, refl, sym, ap, ◌∙◌, subst, arith, inl, inr, length-append}
use mathlib.Core.Bool.{true≢false}
use Rattle.std.specs.Prelude.{◌⊎◌, ◌==◌}
use Rattle.std.specs.List.{list_any, AllByRecursion}
use Rattle.std.specs.Ordering.{nat_cmp, is_gt, is_lt, ordering_then}
use Rattle.std.specs.declared.cmp.Ordering.{Ordering}
use Rattle.std.specs.declared.cmp.Ordering.TheVariants.{Less, Equal, Greater}
use Rattle.std.specs.Cmp.{nat_cmp_is}
use Rattle.std.proofs.lemmas.Bool.{cases_lt}
use Rattle.std.proofs.lemmas.Cmp.{upto}
use Rattle.std.proofs.lemmas.List.{map_push}
use Rattle.lt_face.specs.Lists.{AreInOrder}
use Rattle.lt_face.specs.Rows.{row_cmp}
use Rattle.lt_face.specs.State.{Row, permuted}
use Rattle.lt_face.proofs.RowLemmas.{rows_total}
use Rattle.lt_sense.specs.declared.covering.KeptGap.{KeptGap}
use Rattle.lt_sense.specs.declared.spans.Span.{Span}
use Rattle.lt_sense.specs.declared.spans.Spans.{Spans}
use Rattle.lt_sense.specs.Sense.{lies_in, gap_covers}
use Rattle.lt_sense.specs.Apart.{first_of, end_of, range_cmp, AreUnited, IsApart, still_in, stills_in}
use Rattle.lt_sense.specs.Ordered.{AreUpTo, IsPut}
use Rattle.lt_sense.proofs.Lies.{drop_next, drop_done}
use Rattle.lt_sense.proofs.Joined.{put_next}
use Rattle.lt_sense.proofs.Sorted.{less_up, up_number, some_is, got_in, all_in, all_push, all_init, in_order_push, in_order_init, each_then}
use Rattle.lt_sense.proofs.Spanned.{lies_joined, lies_within, range_in, have_next}
use Rattle.lt_sense.proofs.Stands.{meets_beside, meets_within, apart_chain}

-- ---- cells with one more behind them

then_tied : (o : Ordering) → ordering_then o Equal ≡ o
then_tied Less = refl
then_tied Equal = refl
then_tied Greater = refl

at_next : (one other : Row) (a b i : ℕ) → i < length one → i < length other → row_cmp (drop i one ++ a ∷ []) (drop i other ++ b ∷ []) ≡ ordering_then (nat_cmp (slice_index one i) (slice_index other i)) (row_cmp (drop (i + 1) one ++ a ∷ []) (drop (i + 1) other ++ b ∷ []))
at_next one other a b i lt le = rw (drop_next one i lt, drop_next other i le) refl

pub ends_tied : (one other : Row) (a b i : ℕ) → i < length one → i < length other → slice_index one i ≡ slice_index other i → row_cmp (drop i one ++ a ∷ []) (drop i other ++ b ∷ []) ≡ row_cmp (drop (i + 1) one ++ a ∷ []) (drop (i + 1) other ++ b ∷ [])
ends_tied one other a b i lt le e = at_next one other a b i lt le ∙ ap (λ o. ordering_then o (row_cmp (drop (i + 1) one ++ a ∷ []) (drop (i + 1) other ++ b ∷ []))) (sym (nat_cmp_is (slice_index one i) (slice_index other i) Equal e))

pub ends_less : (one other : Row) (a b i : ℕ) → i < length one → i < length other → slice_index one i < slice_index other i → row_cmp (drop i one ++ a ∷ []) (drop i other ++ b ∷ []) ≡ Less
ends_less one other a b i lt le e = at_next one other a b i lt le ∙ ap (λ o. ordering_then o (row_cmp (drop (i + 1) one ++ a ∷ []) (drop (i + 1) other ++ b ∷ []))) (sym (nat_cmp_is (slice_index one i) (slice_index other i) Less e))

pub ends_greater : (one other : Row) (a b i : ℕ) → i < length one → i < length other → slice_index other i < slice_index one i → row_cmp (drop i one ++ a ∷ []) (drop i other ++ b ∷ []) ≡ Greater
ends_greater one other a b i lt le e = at_next one other a b i lt le ∙ ap (λ o. ordering_then o (row_cmp (drop (i + 1) one ++ a ∷ []) (drop (i + 1) other ++ b ∷ []))) (sym (nat_cmp_is (slice_index one i) (slice_index other i) Greater e))

-- the other has no more
pub other_less : (one other : Row) (a b i : ℕ) → i < length one → length other ≤ i → slice_index one i < b → row_cmp (drop i one ++ a ∷ []) (drop i other ++ b ∷ []) ≡ Less
other_less one other a b i lt done e = rw (drop_next one i lt, drop_done other i done, sym (nat_cmp_is (slice_index one i) b Less e)) refl

pub other_greater : (one other : Row) (a b i : ℕ) → i < length one → length other ≤ i → b ≤ slice_index one i → row_cmp (drop i one ++ a ∷ []) (drop i other ++ b ∷ []) ≡ Greater
other_greater one other a b i lt done e = rw (drop_next one i lt, drop_done other i done) (by (cases (slice_index one i) b e))
  where
    cases : (x y : ℕ) → y ≤ x → (y < x) ⊎ (x ≡ y)
    cases x y le = elim (cases_lt y x) [ inl q ↦ inl q | inr q ↦ inr (omega (arith, q, le)) ]

    some : (xs : Row) → row_cmp (xs ++ a ∷ []) [] ≡ Greater
    some [] = refl
    some (x ∷ xs) = refl

    by : (b < slice_index one i) ⊎ (slice_index one i ≡ b) → ordering_then (nat_cmp (slice_index one i) b) (row_cmp (drop (i + 1) one ++ a ∷ []) []) ≡ Greater
    by (inl q) = ap (λ o. ordering_then o (row_cmp (drop (i + 1) one ++ a ∷ []) [])) (sym (nat_cmp_is (slice_index one i) b Greater q))
    by (inr q) = ap (λ o. ordering_then o (row_cmp (drop (i + 1) one ++ a ∷ []) [])) (sym (nat_cmp_is (slice_index one i) b Equal q)) ∙ some (drop (i + 1) one)

-- the one has no more
pub one_greater : (one other : Row) (a b i : ℕ) → length one ≤ i → i < length other → slice_index other i < a → row_cmp (drop i one ++ a ∷ []) (drop i other ++ b ∷ []) ≡ Greater
one_greater one other a b i done lt e = rw (drop_done one i done, drop_next other i lt, sym (nat_cmp_is a (slice_index other i) Greater e)) refl

pub one_less : (one other : Row) (a b i : ℕ) → length one ≤ i → i < length other → a ≤ slice_index other i → row_cmp (drop i one ++ a ∷ []) (drop i other ++ b ∷ []) ≡ Less
one_less one other a b i done lt e = rw (drop_done one i done, drop_next other i lt) (by (cases_lt a (slice_index other i)))
  where
    some : (xs : Row) → row_cmp [] (xs ++ b ∷ []) ≡ Less
    some [] = refl
    some (x ∷ xs) = refl

    by : (a < slice_index other i) ⊎ (slice_index other i ≤ a) → ordering_then (nat_cmp a (slice_index other i)) (row_cmp [] (drop (i + 1) other ++ b ∷ [])) ≡ Less
    by (inl q) = ap (λ o. ordering_then o (row_cmp [] (drop (i + 1) other ++ b ∷ []))) (sym (nat_cmp_is a (slice_index other i) Less q))
    by (inr q) = ap (λ o. ordering_then o (row_cmp [] (drop (i + 1) other ++ b ∷ []))) (sym (nat_cmp_is a (slice_index other i) Equal (omega (arith, q, e)))) ∙ some (drop (i + 1) other)

-- the same where a walk over the one has ended
pub ended_greater : (one other : Row) (a b i : ℕ) → length one ≤ i → i ≤ length one → length one < length other → slice_index other (length one) < a → row_cmp (drop i one ++ a ∷ []) (drop i other ++ b ∷ []) ≡ Greater
ended_greater one other a b i done upto lt e =
    let n : i ≡ length one = omega (arith, done, upto) in
    ap (λ k. row_cmp (drop k one ++ a ∷ []) (drop k other ++ b ∷ [])) n ∙ one_greater one other a b (length one) (omega arith) lt e

pub ended_less : (one other : Row) (a b i : ℕ) → length one ≤ i → i ≤ length one → length one < length other → a ≤ slice_index other (length one) → row_cmp (drop i one ++ a ∷ []) (drop i other ++ b ∷ []) ≡ Less
ended_less one other a b i done upto lt e =
    let n : i ≡ length one = omega (arith, done, upto) in
    ap (λ k. row_cmp (drop k one ++ a ∷ []) (drop k other ++ b ∷ [])) n ∙ one_less one other a b (length one) (omega arith) lt e

-- neither has
pub ends_alone : (one other : Row) (a b i : ℕ) → length one ≤ i → length other ≤ i → row_cmp (drop i one ++ a ∷ []) (drop i other ++ b ∷ []) ≡ nat_cmp a b
ends_alone one other a b i done over = rw (drop_done one i done, drop_done other i over) (then_tied (nat_cmp a b))

-- ---- places

pub got_or : {X : Type 0} (xs : List X) (i : ℕ) (x d : X) → slice_get xs i ≡ Some x → get_or xs i d ≡ x
got_or [] i x d there = absurd cc
got_or (y ∷ ys) zero x d there = some_is y x there
got_or (y ∷ ys) (suc i) x d there = got_or ys i x d there

pub kept_at : {X : Type 0} (P : X → Type 0) (xs : List X) (i : ℕ) (x : X) → AllByRecursion P xs → slice_get xs i ≡ Some x → P x
kept_at P xs i x all there = all_in P xs x all (got_in xs i x there)

-- ---- a range that ends before another begins

begins_first : (prefix : Row) (lo hi : ℕ) → lo ≤ hi → is_gt (row_cmp (prefix ++ lo ∷ []) (prefix ++ hi ∷ [])) ≡ false
begins_first [] lo hi le = ap is_gt (then_tied (nat_cmp lo hi)) ∙ up_number lo hi le
begins_first (p ∷ ps) lo hi le = ap (λ o. is_gt (ordering_then o (row_cmp (ps ++ lo ∷ []) (ps ++ hi ∷ [])))) (sym (nat_cmp_is p p Equal refl)) ∙ begins_first ps lo hi le

pub apart_from : (a b : KeptGap) → a.lo ≤ a.hi → row_cmp (end_of a) (first_of b) ≡ Less → IsApart a b
apart_from a b le less = record {
  order = upto rows_total (first_of a) (end_of a) (first_of b) (begins_first a.prefix a.lo a.hi le) (less_up (row_cmp (end_of a) (first_of b)) less);
  apart = less;
}

pub less_is : (o : Ordering) → is_lt o ≡ true → o ≡ Less
less_is Less h = refl
less_is Equal h = absurd (true≢false (sym h))
less_is Greater h = absurd (true≢false (sym h))

-- ---- two ranges as one

or_within : (x y : Bool) → (y ≡ true → x ≡ true) → x ≡ (x || y)
or_within true y f = refl
or_within false true f = f refl
or_within false false f = refl

lies_united : (prefix : Row) (lo hi l h m : ℕ) → lo ≤ l → l ≤ hi → hi ≤ m → h ≤ m → (hi ≤ h → m ≡ h) × (h ≤ hi → m ≡ hi) → lo ≤ hi → (cells : Row) → lies_in prefix lo m cells ≡ (lies_in prefix lo hi cells || lies_in prefix l h cells)
lies_united prefix lo hi l h m a b c d one up cells = elim (cases_lt hi h) [
  | inl lt ↦
      (let e : m ≡ h = one.0 (omega (arith, lt)) in
      lies_joined prefix lo hi m up c cells
      ∙ by (lies_in prefix lo hi cells) (lies_in prefix l hi cells) (lies_in prefix hi m cells) (λ has. lies_within prefix lo hi l hi a (omega arith) cells has)
      ∙ ap (λ y. lies_in prefix lo hi cells || y) (sym (lies_joined prefix l hi m b c cells))
      ∙ ap (λ k. lies_in prefix lo hi cells || lies_in prefix l k cells) e)
  | inr ge ↦
      (let e : m ≡ hi = one.1 ge in
      ap (λ k. lies_in prefix lo k cells) e ∙ or_within (lies_in prefix lo hi cells) (lies_in prefix l h cells) (λ has. lies_within prefix lo hi l h a ge cells has))
]
  where
    by : (x y z : Bool) → (y ≡ true → x ≡ true) → (x || z) ≡ (x || (y || z))
    by true y z f = refl
    by false true z f = absurd (true≢false (sym (f refl)))
    by false false z f = refl

of_index : (t x y z : Bool) → x ≡ (y || z) → (t && x) ≡ ((t && y) || (t && z))
of_index true x y z e = e
of_index false x y z e = refl

pub united_beside : (n : ℕ) (columns : List ℕ) (p q : Row) (lo hi l h m : ℕ) → is_gt (row_cmp (p ++ lo ∷ []) (q ++ l ∷ [])) ≡ false → is_lt (row_cmp (p ++ hi ∷ []) (q ++ l ∷ [])) ≡ false → length p ≡ length q → (hi ≤ m) × (h ≤ m) → (hi ≤ h → m ≡ h) × (h ≤ hi → m ≡ hi)
    → AreUnited (range_in n columns p lo hi) (range_in n columns q l h) (range_in n columns p lo m)
united_beside n columns p q lo hi l h m up on long above one relation row =
    let r = meets_beside p q lo hi l up on long in
    of_index (n == relation) _ _ _ (lies_united p lo hi l h m r.1 r.2 above.0 above.1 one (let s = r.1 in let t = r.2 in omega (arith, s, t)) (permuted columns row)
    ∙ ap (λ z. lies_in p lo hi (permuted columns row) || lies_in z l h (permuted columns row)) r.0)

pub united_within : (n : ℕ) (columns : List ℕ) (p q : Row) (lo hi l h : ℕ) → is_gt (row_cmp (p ++ lo ∷ []) (q ++ l ∷ [])) ≡ false → is_lt (row_cmp (p ++ hi ∷ []) (q ++ l ∷ [])) ≡ false → (length p ≡ length q → ⊥)
    → AreUnited (range_in n columns p lo hi) (range_in n columns q l h) (range_in n columns p lo hi)
united_within n columns p q lo hi l h up on other relation row =
    of_index (n == relation) _ _ _ (or_within (lies_in p lo hi (permuted columns row)) (lies_in q l h (permuted columns row)) (λ has. meets_within p q lo hi l h up on other (permuted columns row) has))

-- ---- one more

put_united : (xs : List KeptGap) (last new next : KeptGap) → AreInOrder IsApart (xs ++ last ∷ []) → first_of new ≡ first_of last → AreUnited last next new → IsPut range_cmp IsApart gap_covers (xs ++ last ∷ []) (xs ++ new ∷ []) next
put_united xs last new next ordered first united = record {
  ordered = (let k = in_order_init IsApart xs last ordered in
      in_order_push IsApart xs new k.0 (each_then (λ y. IsApart y last) (λ y. IsApart y new) (λ y b. record { order = ap (λ z. is_gt (row_cmp (first_of y) z)) first ∙ b.order; apart = ap (row_cmp (end_of y)) first ∙ b.apart }) xs k.1));
  up_to = λ y u k. (let parts = all_init (λ o. is_gt (range_cmp o y) ≡ false) xs last u in all_push (λ o. is_gt (range_cmp o y) ≡ false) xs new parts.0 (ap (λ z. is_gt (row_cmp z (first_of y))) first ∙ parts.1));
  covered = λ relation row.
      have_next xs new relation row
      ∙ ap (λ b. list_any (λ y. gap_covers y relation row) xs || b) (united relation row)
      ∙ regroup (list_any (λ y. gap_covers y relation row) xs) (gap_covers last relation row) (gap_covers next relation row)
      ∙ ap (λ b. b || gap_covers next relation row) (sym (have_next xs last relation row));
  few = (let a = length-append xs (last ∷ []) in let b = length-append xs (new ∷ []) in omega arith);
}
  where
    regroup : (a b c : Bool) → (a || (b || c)) ≡ ((a || b) || c)
    regroup true b c = refl
    regroup false b c = refl

pub span_put_united : (s : Spans) (old rest new : List Span) (last next span : Span) → old ≡ rest ++ last ∷ [] → new ≡ rest ++ span ∷ [] → AreInOrder IsApart (stills_in s old) → span.run ≡ last.run → span.lo ≡ last.lo → AreUnited (still_in s last) (still_in s next) (still_in s span)
    → IsPut range_cmp IsApart gap_covers (stills_in s old) (stills_in s new) (still_in s next)
span_put_united s old rest new last next span e n ordered run lo united =
    let v : stills_in s old ≡ stills_in s rest ++ still_in s last ∷ [] = ap (stills_in s) e ∙ map_push (still_in s) rest last in
    let w : stills_in s new ≡ stills_in s rest ++ still_in s span ∷ [] = ap (stills_in s) n ∙ map_push (still_in s) rest span in
    let first : first_of (still_in s span) ≡ first_of (still_in s last) = ap (λ r. first_of (still_in s (record { run = r; lo = span.lo; hi = span.hi }))) run ∙ ap (λ l. first_of (still_in s (record { run = last.run; lo = l; hi = span.hi }))) lo in
    subst (λ o. IsPut range_cmp IsApart gap_covers o (stills_in s new) (still_in s next)) (sym v)
    (subst (λ o. IsPut range_cmp IsApart gap_covers (stills_in s rest ++ still_in s last ∷ []) o (still_in s next)) (sym w)
    (put_united (stills_in s rest) (still_in s last) (still_in s span) (still_in s next) (subst (AreInOrder IsApart) v ordered) first united))

-- the last doesn't begin behind the next
pub last_up : (s : Spans) (old rest : List Span) (last next : Span) → old ≡ rest ++ last ∷ [] → AreUpTo range_cmp (stills_in s old) (still_in s next) → is_gt (range_cmp (still_in s last) (still_in s next)) ≡ false
last_up s old rest last next e up =
    (all_init (λ o. is_gt (range_cmp o (still_in s next)) ≡ false) (stills_in s rest) (still_in s last) (subst (λ o. AreUpTo range_cmp o (still_in s next)) (ap (stills_in s) e ∙ map_push (still_in s) rest last) up)).1

pub span_put_next : (s : Spans) (old rest mid new : List Span) (last next : Span) → old ≡ rest ++ last ∷ [] → mid ≡ rest ++ last ∷ [] → new ≡ mid ++ next ∷ [] → AreInOrder IsApart (stills_in s old) → AreUpTo range_cmp (stills_in s old) (still_in s next)
    → row_cmp (end_of (still_in s last)) (first_of (still_in s next)) ≡ Less → IsPut range_cmp IsApart gap_covers (stills_in s old) (stills_in s new) (still_in s next)
span_put_next s old rest mid new last next e m n ordered up less =
    let v : stills_in s old ≡ stills_in s rest ++ still_in s last ∷ [] = ap (stills_in s) e ∙ map_push (still_in s) rest last in
    let w : stills_in s new ≡ (stills_in s rest ++ still_in s last ∷ []) ++ still_in s next ∷ [] = ap (stills_in s) n ∙ map_push (still_in s) mid next ∙ ap (λ o. stills_in s o ++ still_in s next ∷ []) m ∙ ap (λ o. o ++ still_in s next ∷ []) (map_push (still_in s) rest last) in
    subst (λ o. IsPut range_cmp IsApart gap_covers o (stills_in s new) (still_in s next)) (sym v)
    (subst (λ o. IsPut range_cmp IsApart gap_covers (stills_in s rest ++ still_in s last ∷ []) o (still_in s next)) (sym w)
    (put_next range_cmp IsApart gap_covers apart_chain (stills_in s rest) (still_in s last) (still_in s next) (subst (AreInOrder IsApart) v ordered) (record { order = last_up s old rest last next e up; apart = less })))
