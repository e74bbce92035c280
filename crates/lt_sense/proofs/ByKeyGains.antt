-- Keys that are gathered one after another.
use Rattle.std.proofs.Common.{◌≡◌, ℕ, zero, suc, ◌+◌, ◌<◌, ◌≤◌, Bool, true, false, ◌||◌, List, [], ◌∷◌, ◌++◌, length, take, drop, get_or, slice_index, refl, sym, ap, ◌∙◌, subst, arith, inl, inr, ◌⊎◌}
use Rattle.std.specs.Prelude.{◌==◌}
use mathlib.Core.Bool.{true≢false}
use Rattle.std.proofs.lemmas.Bool.{and_parts, and_from, eqb-true, eq-eqb}
use Rattle.lt_face.specs.Lists.{IsIn}
use Rattle.lt_face.specs.State.{Row, permuted}
use Rattle.lt_sense.specs.ByKeyRest.{KeyLists}
use Rattle.lt_sense.specs.declared.covering.KeptGap.{KeptGap}
use Rattle.lt_sense.specs.declared.spans.Spans.{Spans}
use Rattle.lt_sense.specs.ByKey.{ByKey, gap_at, have_at, touches, GainsJust}
use Rattle.lt_sense.specs.ByKeyTold.{have_rest, rest_at, rests_at, tells}
use Rattle.lt_sense.specs.Clipped.{begins}
use Rattle.lt_sense.specs.Gathered.{ranges_in}
use Rattle.lt_sense.specs.Spans.{have, ranges_of}
use Rattle.lt_sense.proofs.ByKeyAdded.{any_last, list_at}
use Rattle.lt_sense.proofs.ByKeyRest.{rest_last}
use Rattle.lt_sense.proofs.Lies.{take_next}

-- ---- numbers

in_more : (k : ℕ) (xs ys : List ℕ) → IsIn k xs → IsIn k (xs ++ ys)
in_more k [] ys h = absurd h
in_more k (x ∷ xs) ys (inl e) = inl e
in_more k (x ∷ xs) ys (inr h) = inr (in_more k xs ys h)

in_last : (k : ℕ) (xs : List ℕ) (x : ℕ) → x ≡ k → IsIn k (xs ++ x ∷ [])
in_last k [] x e = inl e
in_last k (y ∷ ys) x e = inr (in_last k ys x e)

in_either : (k : ℕ) (xs : List ℕ) (x : ℕ) → IsIn k (xs ++ x ∷ []) → IsIn k xs ⊎ (x ≡ k)
in_either k [] x (inl e) = inr e
in_either k [] x (inr h) = absurd h
in_either k (y ∷ ys) x (inl e) = inl (inl e)
in_either k (y ∷ ys) x (inr h) = by (in_either k ys x h)
  where
    by : IsIn k ys ⊎ (x ≡ k) → IsIn k (y ∷ ys) ⊎ (x ≡ k)
    by (inl g) = inl (inr g)
    by (inr e) = inr e

pub gains_none : (tells : ℕ → Type 0) (keys : List ℕ) → ((k : ℕ) → tells k → ⊥) → GainsJust tells keys keys
gains_none tells keys none = record { stay = λ k h. h; come = λ k h. absurd (none k h); no_other = λ k h. inl h }

pub gains_one : (tells : ℕ → Type 0) (keys new : List ℕ) (x : ℕ) → new ≡ keys ++ x ∷ [] → tells x → ((k : ℕ) → tells k → x ≡ k) → GainsJust tells keys new
gains_one tells keys new x is here only = subst (GainsJust tells keys) (sym is) (record {
  stay = λ k h. in_more k keys (x ∷ []) h;
  come = λ k h. in_last k keys x (only k h);
  no_other = λ k h. by k (in_either k keys x h);
})
  where
    by : (k : ℕ) → IsIn k keys ⊎ (x ≡ k) → IsIn k keys ⊎ tells k
    by k (inl h) = inl h
    by k (inr e) = inr (subst tells e here)

-- those of the one, then those of the other
pub gains_both : (one other both : ℕ → Type 0) (a b c : List ℕ) → GainsJust one a b → GainsJust other b c → ((k : ℕ) → one k → both k) → ((k : ℕ) → other k → both k) → ((k : ℕ) → both k → one k ⊎ other k) → GainsJust both a c
gains_both one other both a b c first second left right parts = record {
  stay = λ k h. second.stay k (first.stay k h);
  come = λ k h. come k (parts k h);
  no_other = λ k h. from k (second.no_other k h);
}
  where
    come : (k : ℕ) → one k ⊎ other k → IsIn k c
    come k (inl h) = second.stay k (first.come k h)
    come k (inr h) = second.come k h

    before : (k : ℕ) → IsIn k a ⊎ one k → IsIn k a ⊎ both k
    before k (inl h) = inl h
    before k (inr h) = inr (left k h)

    from : (k : ℕ) → IsIn k b ⊎ other k → IsIn k a ⊎ both k
    from k (inl h) = before k (first.no_other k h)
    from k (inr h) = inr (right k h)

-- by words that are true or false
or_left : (a b : Bool) → a ≡ true → (a || b) ≡ true
or_left true b e = refl
or_left false b e = absurd (true≢false (sym e))

or_right : (a b : Bool) → b ≡ true → (a || b) ≡ true
or_right true b e = refl
or_right false b e = e

or_parts : (a b : Bool) → (a || b) ≡ true → (a ≡ true) ⊎ (b ≡ true)
or_parts true b e = inl refl
or_parts false b e = inr e

pub gains_or : (p q r : ℕ → Bool) (a b c : List ℕ) → ((k : ℕ) → r k ≡ (p k || q k)) → GainsJust (λ k. p k ≡ true) a b → GainsJust (λ k. q k ≡ true) b c → GainsJust (λ k. r k ≡ true) a c
gains_or p q r a b c is first second =
    gains_both (λ k. p k ≡ true) (λ k. q k ≡ true) (λ k. r k ≡ true) a b c first second
    (λ k h. is k ∙ or_left (p k) (q k) h) (λ k h. is k ∙ or_right (p k) (q k) h) (λ k h. or_parts (p k) (q k) (sym (is k) ∙ h))

-- ---- of a list

pub first_none : (s : Spans) (relation : ℕ) (row : Row) (keys : List ℕ) → have (ranges_of s) relation row ≡ false → GainsJust (λ k. have_at k (ranges_of s) relation row ≡ true) keys keys
first_none s relation row keys none =
    gains_none (λ k. have_at k (ranges_of s) relation row ≡ true) keys
    (λ k h. true≢false (sym (and_parts (have (ranges_of s) relation row) (begins k (permuted s.columns row)) (sym (list_at k s relation row) ∙ h)).0 ∙ none))

no_columns : (s : Spans) (relation : ℕ) (row : Row) (k : ℕ) → length s.columns ≤ 0 → have_at k (ranges_of s) relation row ≡ true → ⊥
no_columns s relation row k le h =
    true≢false (sym (and_parts (have (ranges_of s) relation row) (begins k (permuted s.columns row)) (sym (list_at k s relation row) ∙ h)).1 ∙ none s.columns le)
  where
    none : (columns : List ℕ) → length columns ≤ 0 → begins k (permuted columns row) ≡ false
    none [] le = refl
    none (x ∷ xs) le = absurd (omega (arith, le))

pub first_narrow : (s : Spans) (relation : ℕ) (row : Row) (keys : List ℕ) → length s.columns ≤ 0 → GainsJust (λ k. have_at k (ranges_of s) relation row ≡ true) keys keys
first_narrow s relation row keys le = gains_none (λ k. have_at k (ranges_of s) relation row ≡ true) keys (λ k h. no_columns s relation row k le h)

pub first_one : (s : Spans) (relation : ℕ) (row : Row) (keys new : List ℕ) (column cell : ℕ) → 0 < length s.columns → column ≡ get_or s.columns 0 0 → cell ≡ slice_index row column → have (ranges_of s) relation row ≡ true → new ≡ keys ++ cell ∷ []
    → GainsJust (λ k. have_at k (ranges_of s) relation row ≡ true) keys new
first_one s relation row keys new column cell some first is has come =
    gains_one (λ k. have_at k (ranges_of s) relation row ≡ true) keys new cell come
    (list_at cell s relation row ∙ and_from (have (ranges_of s) relation row) (begins cell (permuted s.columns row)) has (here s.columns some first))
    (λ k h. only k s.columns some first (and_parts (have (ranges_of s) relation row) (begins k (permuted s.columns row)) (sym (list_at k s relation row) ∙ h)).1)
  where
    here : (columns : List ℕ) → 0 < length columns → column ≡ get_or columns 0 0 → begins cell (permuted columns row) ≡ true
    here [] lt e = absurd (omega (arith, lt))
    here (x ∷ xs) lt e = eq-eqb cell (slice_index row x) (is ∙ ap (slice_index row) e)

    only : (k : ℕ) (columns : List ℕ) → 0 < length columns → column ≡ get_or columns 0 0 → begins k (permuted columns row) ≡ true → cell ≡ k
    only k [] lt e h = absurd (omega (arith, lt))
    only k (x ∷ xs) lt e h = is ∙ ap (slice_index row) e ∙ sym (eqb-true k (slice_index row x) h)

pub firsts_next : (lists : List Spans) (i : ℕ) (s : Spans) (relation : ℕ) (row : Row) (a b c : List ℕ) → i < length lists → s ≡ get_or lists i s → GainsJust (λ k. have_at k (ranges_in (take i lists)) relation row ≡ true) a b → GainsJust (λ k. have_at k (ranges_of s) relation row ≡ true) b c
    → GainsJust (λ k. have_at k (ranges_in (take (i + 1) lists)) relation row ≡ true) a c
firsts_next lists i s relation row a b c lt there first second =
    gains_or (λ k. have_at k (ranges_in (take i lists)) relation row) (λ k. have_at k (ranges_of s) relation row) (λ k. have_at k (ranges_in (take (i + 1) lists)) relation row) a b c
    (λ k. ap (λ xs. have_at k (ranges_in xs) relation row) (take_next lists i s lt there) ∙ any_last (λ (gap : KeptGap). gap_at k gap relation row) (take i lists) s) first second

-- ---- of what stands by key

pub key_none : (part : KeyLists) (relation : ℕ) (row : Row) (keys : List ℕ) → have (ranges_in part.lists) relation row ≡ false → GainsJust (λ k. rest_at k part relation row ≡ true) keys keys
key_none part relation row keys none =
    gains_none (λ k. rest_at k part relation row ≡ true) keys
    (λ k h. true≢false (sym (and_parts (part.key == k) (have (ranges_in part.lists) relation row) h).1 ∙ none))

pub key_one : (part : KeyLists) (relation : ℕ) (row : Row) (keys new : List ℕ) → have (ranges_in part.lists) relation row ≡ true → new ≡ keys ++ part.key ∷ [] → GainsJust (λ k. rest_at k part relation row ≡ true) keys new
key_one part relation row keys new has come =
    gains_one (λ k. rest_at k part relation row ≡ true) keys new part.key come
    (and_from (part.key == part.key) (have (ranges_in part.lists) relation row) (eq-eqb part.key part.key refl) has)
    (λ k h. eqb-true part.key k (and_parts (part.key == k) (have (ranges_in part.lists) relation row) h).0)

pub keys_next : (rest : List KeyLists) (i : ℕ) (part : KeyLists) (relation : ℕ) (row : Row) (a b c : List ℕ) → i < length rest → part ≡ get_or rest i part → GainsJust (λ k. rests_at k (take i rest) relation row ≡ true) a b → GainsJust (λ k. rest_at k part relation row ≡ true) b c
    → GainsJust (λ k. rests_at k (take (i + 1) rest) relation row ≡ true) a c
keys_next rest i part relation row a b c lt there first second =
    gains_or (λ k. rests_at k (take i rest) relation row) (λ k. rest_at k part relation row) (λ k. rests_at k (take (i + 1) rest) relation row) a b c
    (λ k. ap (λ xs. rests_at k xs relation row) (take_next rest i part lt there) ∙ rest_last (take i rest) part k relation row) first second

-- ---- both

pub gains_all : (lists : List Spans) (rest : List KeyLists) (seen : ByKey) (relation : ℕ) (row : Row) (a b c : List ℕ) → ((k : ℕ) → touches seen k relation row ≡ tells lists rest k relation row)
    → GainsJust (λ k. have_at k (ranges_in lists) relation row ≡ true) a b → GainsJust (λ k. rests_at k rest relation row ≡ true) b c → GainsJust (λ k. touches seen k relation row ≡ true) a c
gains_all lists rest seen relation row a b c told first second =
    gains_or (λ k. have_at k (ranges_in lists) relation row) (λ k. rests_at k rest relation row) (λ k. touches seen k relation row) a b c told first second

-- ---- whether some key's has the row

pub rest_left : (rest : List KeyLists) (i : ℕ) (part : KeyLists) (relation : ℕ) (row : Row) → i < length rest → part ≡ get_or rest i part → have_rest (drop i rest) relation row ≡ (have (ranges_in part.lists) relation row || have_rest (drop (i + 1) rest) relation row)
rest_left [] i part relation row lt there = absurd (omega (arith, lt))
rest_left (x ∷ xs) zero part relation row lt there = ap (λ (p : KeyLists). have (ranges_in p.lists) relation row || have_rest xs relation row) (sym there)
rest_left (x ∷ xs) (suc i) part relation row lt there = rest_left xs i part relation row (omega (arith, lt)) there ∙ (let e : suc (i + 1) ≡ suc i + 1 = omega arith in ap (λ n. have (ranges_in part.lists) relation row || have_rest (drop n (x ∷ xs)) relation row) e)
