-- What the search of the ring keeps from turn to turn, and what it gives in the end.
use Rattle.std.proofs.Common.{◌≡◌, ◌≢◌, ℕ, suc, ◌+◌, ◌-◌, ◌<◌, ◌≤◌, ◌^◌, true, false, cond, List, [], ◌∷◌, ◌++◌, length, get_or, set, take, drop, Option, refl, sym, ap, ◌∙◌, subst, inl, inr, arith, nat_le, ◌==◌, ◌||◌, ◌⊎◌, length-set}
use Rattle.std.specs.List.{list_any, list_all}
use mathlib.Core.Bool.{true≢false}
use Rattle.std.proofs.lemmas.Bool.{cases_lt}
use Rattle.std.proofs.lemmas.Bool.Decides.{nat_tests}
use Rattle.std.proofs.lemmas.Grind.{common_steps}
use Rattle.lt_face.specs.declared.key.Gap.{Gap}
use Rattle.lt_face.specs.Keys.{end_key, least_from, IsPlace, IsKeyList}
use Rattle.lt_leap.specs.Noted.{Gains}
use Rattle.lt_leap.specs.Common.{has_key, common_keys}
use Rattle.lt_leap.specs.Ring.{keys_at, IsRing}
use Rattle.lt_leap.specs.Potential.{moves_left}
use Rattle.lt_leap.specs.Moves.{IsMove, AreMade}
use Rattle.lt_leap.specs.Search.{NonePassed, Notes, changed}
use Rattle.lt_leap.proofs.Changed.{changed-same, changed-set}
use Rattle.lt_leap.proofs.Exact.{place_has, least_at_most, none_between, each_from_all, all_from_each, least_common, common_least}
use Rattle.lt_leap.proofs.Gaps.{notes-none, notes-more}
use Rattle.lt_leap.proofs.Leading.{made-none, made-more}
use Rattle.lt_leap.proofs.Turned.{IsRing-turned, left_less, y_up, cases_eq, at_j, back}

-- the key at a turn of the ring
abbrev pub key_in : List ℕ → List ℕ → ℕ → ℕ
key_in heres ring turn = get_or heres (get_or ring turn 0) 0

-- where an iterator has its turn
turn_of : (i : ℕ) (ring : List ℕ) → list_any (λ k. k == i) ring ≡ true → (a : ℕ) × (a < length ring) × (get_or ring a 0 ≡ i)
turn_of i [] h = absurd (true≢false (sym h))
turn_of i (k ∷ ring) h =
    elim (k == i) as (λ t. (k == i) ≡ t → (t || list_any (λ k. k == i) ring) ≡ true → (a : ℕ) × (a < length (k ∷ ring)) × (get_or (k ∷ ring) a 0 ≡ i)) [
      | true ↦ λ e rest. (0, omega arith, (let same : k ≡ i = grind (arith, nat_tests) in same))
      | false ↦ λ e rest. (let there = turn_of i ring rest in (suc there.0, (let lt = there.1 in omega arith), there.2))
    ] refl h

-- no iterator is past the last of the ring, nor before the first
pub to_last : (lists : List (List ℕ)) (heres ring : List ℕ) (last : ℕ) → IsRing lists heres ring → last + 1 ≡ length ring → (i : ℕ) → i < length heres → get_or heres i 0 ≤ key_in heres ring last
to_last lists heres ring last is at i lt =
    let there = turn_of i ring (is.covers i lt) in
    subst (λ k. get_or heres k 0 ≤ key_in heres ring last) there.2 (is.rises there.0 last (let l = there.1 in omega arith) (omega arith))

pub from_first : (lists : List (List ℕ)) (heres ring : List ℕ) → IsRing lists heres ring → (i : ℕ) → i < length heres → key_in heres ring 0 ≤ get_or heres i 0
from_first lists heres ring is i lt =
    let there = turn_of i ring (is.covers i lt) in
    subst (λ k. key_in heres ring 0 ≤ get_or heres k 0) there.2 (is.rises 0 there.0 (omega arith) there.1)

-- a place that is no end is below 2^120
pub place_low : (ks : List ℕ) (h : ℕ) → IsKeyList ks → IsPlace ks h → h ≢ end_key → h < 2 ^ 120
place_low [] h up place key = absurd (key (sym place))
place_low (k ∷ ks) h up place key =
    elim (nat_le h k) as (λ t. cond t k (least_from ks h) ≡ h → h < 2 ^ 120) [
      | true ↦ λ is. (let low = up.0 in omega arith)
      | false ↦ λ is. place_low ks h up.2 is key
    ] place

pub record Searching (lists : List (List ℕ)) (heres₀ ring₀ : List ℕ) (moves₀ : ℕ) (kept₀ : Option (List (ℕ × Gap))) (last : ℕ)
    (heres ring : List ℕ) (moves : ℕ) (kept : Option (List (ℕ × Gap))) (least greatest : ℕ) : Type 0 where
  pub is_ring : IsRing lists heres ring
  pub as_many : length heres ≡ length heres₀
  pub last_is : last + 1 ≡ length ring
  pub least_is : least ≡ key_in heres ring 0
  pub greatest_is : greatest ≡ key_in heres ring last
  pub within : greatest ≤ end_key
  pub exact : (b : ℕ) → NonePassed lists heres₀ b → b ≤ key_in heres₀ ring₀ last → NonePassed lists heres b × (b ≤ greatest)
  pub left : (i : ℕ) → i < length heres → moves + moves_left lists heres ring i ≤ moves₀ + moves_left lists heres₀ ring₀ i
  pub notes : Notes lists (key_in heres₀ ring₀ last) greatest kept₀ kept (moves - moves₀)
  pub made : AreMade lists heres₀ heres kept₀ kept moves₀ moves
  pub more : moves₀ ≤ moves
  pub moved : changed heres₀ heres ≤ moves - moves₀

pub notes_same : (lists : List (List ℕ)) (start : ℕ) (old new : Option (List (ℕ × Gap))) {a b m n : ℕ} → a ≡ b → m ≡ n → Notes lists start a old new m → Notes lists start b old new n
notes_same lists start old new {b = b} {m = m} e f notes = subst (λ k. Notes lists start b old new k) f (subst (λ k. Notes lists start k old new m) e notes)

pub searching-none : (lists : List (List ℕ)) (heres ring : List ℕ) (moves : ℕ) (kept : Option (List (ℕ × Gap))) (last least greatest : ℕ) → IsRing lists heres ring → last + 1 ≡ length ring
    → least ≡ key_in heres ring 0 → greatest ≡ key_in heres ring last → greatest ≤ end_key → Searching lists heres ring moves kept last heres ring moves kept least greatest
searching-none lists heres ring moves kept last least greatest is at least_is greatest_is within = record {
  is_ring = is;
  as_many = refl;
  last_is = at;
  least_is = least_is;
  greatest_is = greatest_is;
  within = within;
  exact = λ b none le. (none, omega arith);
  left = λ i lt. omega arith;
  notes = notes_same lists (key_in heres ring last) kept kept (sym greatest_is) (let zero_is : 0 ≡ moves - moves = omega arith in zero_is) (notes-none lists (key_in heres ring last) kept);
  made = made-none lists heres kept moves;
  more = omega arith;
  moved = rw (changed-same heres) (omega arith);
}

-- none is passed by a turn to a place that no common key from the bound on is below
pub passed-turned : (lists : List (List ℕ)) (heres : List ℕ) (j to b : ℕ) → length lists ≡ length heres → j < length heres → IsKeyList (keys_at lists j) → ((c : ℕ) → list_all (λ ks. has_key ks c) lists ≡ true → b ≤ c → to ≤ c)
    → NonePassed lists heres b → NonePassed lists (set heres j (least_from (keys_at lists j) to)) b
passed-turned lists heres j to b listed inside up reach none c common le i lt =
    let len = length-set heres j (least_from (keys_at lists j) to) in
    elim (cases_eq i j) [
      | inl same ↦
          let at : get_or (set heres j (least_from (keys_at lists j) to)) j 0 ≡ least_from (keys_at lists j) to = grind (arith, common_steps, inside) in
          rw (same, at) (least_at_most (keys_at lists j) to c up (each_from_all (λ ks. has_key ks c) lists j common (omega arith)) (reach c common le))
      | inr other ↦
          let at : get_or (set heres j (least_from (keys_at lists j) to)) i 0 ≡ get_or heres i 0 = grind (arith, common_steps) in
          rw at (none c common le i (omega arith))
    ]

pub searching-more : (lists : List (List ℕ)) (heres₀ ring₀ : List ℕ) (moves₀ : ℕ) (kept₀ : Option (List (ℕ × Gap))) (last : ℕ) (heres : List ℕ) (j : ℕ) (is : List ℕ) (moves : ℕ) (kept kept' : Option (List (ℕ × Gap))) (least greatest least' greatest' : ℕ) (gap : Gap)
    → Searching lists heres₀ ring₀ moves₀ kept₀ last heres (j ∷ is) moves kept least greatest → least ≢ greatest → greatest ≢ end_key
    → gap.lo ≡ greatest → gap.hi ≡ least_from (keys_at lists j) greatest → IsMove lists heres (j, gap) → Gains kept j gap kept'
    → least' ≡ key_in (set heres j (least_from (keys_at lists j) greatest)) (is ++ j ∷ []) 0
    → greatest' ≡ key_in (set heres j (least_from (keys_at lists j) greatest)) (is ++ j ∷ []) last → greatest' ≤ end_key
    → Searching lists heres₀ ring₀ moves₀ kept₀ last (set heres j (least_from (keys_at lists j) greatest)) (is ++ j ∷ []) (moves + 1) kept' least' greatest'
searching-more lists heres₀ ring₀ moves₀ kept₀ last heres j is moves kept kept' least greatest least' greatest' gap s differ goes lo hi is_move gains least_is greatest_is within =
    let y = least_from (keys_at lists j) greatest in
    let j_in : j < length heres = s.is_ring.in_range 0 s.is_ring.some in
    let l_in : get_or (j ∷ is) last 0 < length heres = s.is_ring.in_range last (let e = s.last_is in omega arith) in
    let key : key_in heres (j ∷ is) last ≢ end_key = λ h. goes (s.greatest_is ∙ h) in
    let low : greatest ≤ 2 ^ 120 = (let g = s.greatest_is in let lo = place_low (keys_at lists (get_or (j ∷ is) last 0)) (key_in heres (j ∷ is) last) (s.is_ring.keyed _ l_in) (s.is_ring.placed _ l_in) key in omega arith) in
    let ahead : (i : ℕ) → i < length heres → get_or heres i 0 ≤ greatest = λ i lt. (let g = s.greatest_is in let le = to_last lists heres (j ∷ is) last s.is_ring s.last_is i lt in omega arith) in
    let up : greatest ≤ y = y_up lists heres j is greatest s.is_ring ahead low in
    let under : get_or heres j 0 < greatest = (let a = ahead j j_in in let f = s.least_is in not_equal (get_or heres j 0) greatest a (λ h. differ (f ∙ h))) in
    let last_at : last ≡ length is = (let e = s.last_is in omega arith) in
    let new_is : greatest' ≡ y = greatest_is ∙ ap (λ k. get_or (set heres j y) k 0) (back j is last last_at) ∙ at_j lists heres j is greatest s.is_ring ahead low in
    record {
      is_ring = IsRing-turned lists heres j is greatest s.is_ring ahead low;
      as_many = length-set heres j y ∙ s.as_many;
      last_is = s.last_is ∙ (let e : length (j ∷ is) ≡ length (is ++ j ∷ []) = grind (arith, common_steps) in e);
      least_is = least_is;
      greatest_is = greatest_is;
      within = within;
      exact = λ b none le.
          let was = s.exact b none le in (
            passed-turned lists heres j greatest b s.is_ring.listed j_in (s.is_ring.keyed j j_in)
                (λ c common from. let g = s.greatest_is in let le' = was.0 c common from (get_or (j ∷ is) last 0) l_in in omega arith) was.0,
            (let le' = was.1 in omega arith),
          );
      left = λ i lt.
          let inside : i < length heres = (let e = length-set heres j y in omega arith) in
          let was = s.left i inside in
          let less = left_less lists heres j is greatest s.is_ring ahead low i inside (λ h. (let g = s.within in omega arith)) (omega arith) in
          omega arith;
      notes = notes_same lists (key_in heres₀ ring₀ last) kept₀ kept' (sym new_is)
          (let e : moves - moves₀ + 1 ≡ moves + 1 - moves₀ = (let m = s.more in omega arith) in e)
          (notes-more lists (key_in heres₀ ring₀ last) greatest y kept₀ kept kept' (moves - moves₀) j gap s.notes lo hi (let e = s.is_ring.listed in omega arith, λ k le lt. none_between (keys_at lists j) greatest k (s.is_ring.keyed j j_in) (omega arith) (omega arith)) gains);
      made = subst (λ landed. AreMade lists heres₀ (set heres j landed) kept₀ kept' moves₀ (moves + 1)) hi
          (made-more lists heres₀ heres kept₀ kept kept' moves₀ moves j gap s.made
          is_move gains);
      more = (let m = s.more in omega arith);
      moved = (let m = s.more in let a = s.moved in let b = changed-set heres₀ heres j y in omega arith);
    }
  where
    not_equal : (a b : ℕ) → a ≤ b → a ≢ b → a < b
    not_equal a b le ne = elim (cases_lt a b) [ inl lt ↦ lt | inr ge ↦ absurd (ne (omega arith)) ]

-- ---- the same over any ring

least_less : (a b : ℕ) → a ≤ b → a ≢ b → a < b
least_less a b le ne = elim (cases_lt a b) [ inl lt ↦ lt | inr ge ↦ absurd (ne (omega arith)) ]

pub low_greatest : (lists : List (List ℕ)) (heres ring : List ℕ) (last greatest : ℕ) → IsRing lists heres ring → last + 1 ≡ length ring → greatest ≡ key_in heres ring last → greatest ≢ end_key → greatest ≤ 2 ^ 120
low_greatest lists heres ring last greatest is at g goes =
    let l_in : get_or ring last 0 < length heres = is.in_range last (omega arith) in
    let low = place_low (keys_at lists (get_or ring last 0)) (key_in heres ring last) (is.keyed _ l_in) (is.placed _ l_in) (λ h. goes (g ∙ h)) in
    omega arith

pub searching-turned : (lists : List (List ℕ)) (heres₀ ring₀ : List ℕ) (moves₀ : ℕ) (kept₀ : Option (List (ℕ × Gap))) (last : ℕ) (heres ring : List ℕ) (moves : ℕ) (kept kept' : Option (List (ℕ × Gap))) (least greatest least' greatest' : ℕ) (gap : Gap) (heres' ring' : List ℕ)
    → Searching lists heres₀ ring₀ moves₀ kept₀ last heres ring moves kept least greatest → least ≢ greatest → greatest ≢ end_key
    → heres' ≡ set heres (get_or ring 0 0) (least_from (keys_at lists (get_or ring 0 0)) greatest) → ring' ≡ drop 1 ring ++ take 1 ring
    → gap.lo ≡ greatest → gap.hi ≡ least_from (keys_at lists (get_or ring 0 0)) greatest → IsMove lists heres (get_or ring 0 0, gap) → Gains kept (get_or ring 0 0) gap kept'
    → least' ≡ key_in heres' ring' 0 → greatest' ≡ key_in heres' ring' last → greatest' ≤ end_key
    → Searching lists heres₀ ring₀ moves₀ kept₀ last heres' ring' (moves + 1) kept' least' greatest'
searching-turned lists heres₀ ring₀ moves₀ kept₀ last heres [] moves kept kept' least greatest least' greatest' gap heres' ring' s differ goes moved turned lo hi is_move gains l g within = absurd (let e = s.is_ring.some in omega arith)
searching-turned lists heres₀ ring₀ moves₀ kept₀ last heres (j ∷ is) moves kept kept' least greatest least' greatest' gap heres' ring' s differ goes moved turned lo hi is_move gains l g within =
    rw (moved, turned)
    (searching-more lists heres₀ ring₀ moves₀ kept₀ last heres j is moves kept kept' least greatest least' greatest' gap s differ goes lo hi is_move gains
    (l ∙ (λ i. key_in (moved i) (turned i) 0)) (g ∙ (λ i. key_in (moved i) (turned i) last)) within)

-- the moves that can still come are fewer after a turn
pub left_turned : (lists : List (List ℕ)) (heres ring heres' ring' : List ℕ) (last least greatest : ℕ) → IsRing lists heres ring → last + 1 ≡ length ring → least ≡ key_in heres ring 0 → greatest ≡ key_in heres ring last → greatest ≤ end_key → least ≢ greatest → greatest ≢ end_key
    → heres' ≡ set heres (get_or ring 0 0) (least_from (keys_at lists (get_or ring 0 0)) greatest) → ring' ≡ drop 1 ring ++ take 1 ring
    → (i : ℕ) → i < length heres → moves_left lists heres' ring' i < moves_left lists heres ring i
left_turned lists heres [] heres' ring' last least greatest is at l g within differ goes moved turned i inside = absurd (let e = is.some in omega arith)
left_turned lists heres (j ∷ ks) heres' ring' last least greatest is at l g within differ goes moved turned i inside =
    let j_in : j < length heres = is.in_range 0 is.some in
    let low = low_greatest lists heres (j ∷ ks) last greatest is at g goes in
    let ahead : (i : ℕ) → i < length heres → get_or heres i 0 ≤ greatest = λ i lt. (let le = to_last lists heres (j ∷ ks) last is at i lt in omega arith) in
    let up = y_up lists heres j ks greatest is ahead low in
    let under : get_or heres j 0 < greatest = least_less (get_or heres j 0) greatest (ahead j j_in) (λ h. differ (l ∙ h)) in
    rw (moved, turned) (left_less lists heres j ks greatest is ahead low i inside (λ h. omega arith) (omega arith))

-- the moves that were made and those that can still come are no more than could come at first, also where a gap could not
-- be kept
pub left_so_far : (lists lists' : List (List ℕ)) (heres₀ ring₀ : List ℕ) (moves₀ : ℕ) (kept₀ : Option (List (ℕ × Gap))) (last : ℕ) (heres ring : List ℕ) (moves : ℕ) (kept : Option (List (ℕ × Gap))) (least greatest : ℕ)
    → Searching lists heres₀ ring₀ moves₀ kept₀ last heres ring moves kept least greatest → lists' ≡ lists
    → (i : ℕ) → i < length heres₀ → moves + moves_left lists' heres ring i ≤ moves₀ + moves_left lists heres₀ ring₀ i
left_so_far lists lists' heres₀ ring₀ moves₀ kept₀ last heres ring moves kept least greatest s keys i lt = rw keys (s.left i (let e = s.as_many in omega arith))

pub left_at_failure : (lists lists' : List (List ℕ)) (heres₀ ring₀ : List ℕ) (moves₀ : ℕ) (kept₀ : Option (List (ℕ × Gap))) (last : ℕ) (heres ring : List ℕ) (moves : ℕ) (kept : Option (List (ℕ × Gap))) (least greatest : ℕ) (heres' ring' : List ℕ) (moves' : ℕ)
    → Searching lists heres₀ ring₀ moves₀ kept₀ last heres ring moves kept least greatest → lists' ≡ lists → least ≢ greatest → greatest ≢ end_key
    → heres' ≡ set heres (get_or ring 0 0) (least_from (keys_at lists (get_or ring 0 0)) greatest) → ring' ≡ drop 1 ring ++ take 1 ring → moves' ≡ moves + 1
    → (i : ℕ) → i < length heres₀ → moves' + moves_left lists' heres' ring' i ≤ moves₀ + moves_left lists heres₀ ring₀ i
left_at_failure lists lists' heres₀ ring₀ moves₀ kept₀ last heres ring moves kept least greatest heres' ring' moves' s keys differ goes moved turned one i lt =
    let inside : i < length heres = (let e = s.as_many in omega arith) in
    let was = s.left i inside in
    let less = left_turned lists heres ring heres' ring' last least greatest s.is_ring s.last_is s.least_is s.greatest_is s.within differ goes moved turned i inside in
    rw (keys, one) (omega arith)

-- ---- where the search ends

key_low : (ks : List ℕ) (c : ℕ) → IsKeyList ks → has_key ks c ≡ true → c < 2 ^ 120
key_low [] c up has = absurd (true≢false (sym has))
key_low (k ∷ ks) c up has =
    elim (k == c) as (λ t. (k == c) ≡ t → (t || has_key ks c) ≡ true → c < 2 ^ 120) [
      | true ↦ λ e h. (let low = up.0 in let same : k ≡ c = grind (arith, nat_tests) in omega arith)
      | false ↦ λ e h. key_low ks c up.2 h
    ] refl has

pub all_at : (lists : List (List ℕ)) (heres ring : List ℕ) (last least greatest : ℕ) → IsRing lists heres ring → last + 1 ≡ length ring → least ≡ key_in heres ring 0 → greatest ≡ key_in heres ring last → least ≡ greatest
    → (i : ℕ) → i < length heres → get_or heres i 0 ≡ greatest
all_at lists heres ring last least greatest is at l g same i lt =
    let a = to_last lists heres ring last is at i lt in
    let b = from_first lists heres ring is i lt in
    omega arith

-- the key is the least common one from the bound on
pub exact-end : (lists : List (List ℕ)) (heres ring : List ℕ) (last least greatest b : ℕ) → IsRing lists heres ring → last + 1 ≡ length ring → least ≡ key_in heres ring 0 → greatest ≡ key_in heres ring last
    → (least ≡ greatest) ⊎ (greatest ≡ end_key) → NonePassed lists heres b → b ≤ greatest → greatest ≡ least_from (common_keys lists) b
exact-end lists heres ring last least greatest b is at l g how none le =
    elim (cases_eq greatest end_key) [
      | inl over ↦ over ∙ sym (common_least (λ y. y ≡ end_key) lists b refl (λ c common from.
          let some : 0 < length heres = (let e = is.as_long in let f = is.some in omega arith) in
          let l_in : get_or ring last 0 < length heres = is.in_range last (omega arith) in
          let past = none c common from (get_or ring last 0) l_in in
          let low = key_low (keys_at lists 0) c (is.keyed 0 some) (each_from_all (λ ks. has_key ks c) lists 0 common (let e = is.listed in omega arith)) in
          absurd (omega arith)))
      | inr key ↦ elim how [
        | inr over ↦ absurd (key over)
        | inl same ↦
            let some : 0 < length heres = (let e = is.as_long in let f = is.some in omega arith) in
            let l_in : get_or ring last 0 < length heres = is.in_range last (omega arith) in
            let at_all = all_at lists heres ring last least greatest is at l g same in
            sym (least_common lists b greatest (let e = is.listed in omega arith) (is.keyed 0 some)
            (all_from_each (λ ks. has_key ks greatest) lists (λ i lt.
            let inside : i < length heres = (let e = is.listed in omega arith) in
            place_has (keys_at lists i) greatest (subst (λ h. IsPlace (keys_at lists i) h) (at_all i inside) (is.placed i inside)) key))
            le (λ c common from. let past = none c common from (get_or ring last 0) l_in in omega arith))
      ]
    ]

pub searched : (lists : List (List ℕ)) (heres₀ ring₀ : List ℕ) (moves₀ : ℕ) (kept₀ : Option (List (ℕ × Gap))) (last : ℕ) (heres ring : List ℕ) (moves : ℕ) (kept : Option (List (ℕ × Gap))) (least greatest : ℕ)
    → Searching lists heres₀ ring₀ moves₀ kept₀ last heres ring moves kept least greatest → (least ≡ greatest) ⊎ (greatest ≡ end_key)
    → (b : ℕ) → NonePassed lists heres₀ b → b ≤ key_in heres₀ ring₀ last → greatest ≡ least_from (common_keys lists) b
searched lists heres₀ ring₀ moves₀ kept₀ last heres ring moves kept least greatest s how b none le =
    let was = s.exact b none le in
    exact-end lists heres ring last least greatest b s.is_ring s.last_is s.least_is s.greatest_is how was.0 was.1

-- and wherever it ends, no common key from the bound on is below the greatest
pub none_below : (lists : List (List ℕ)) (heres₀ ring₀ : List ℕ) (moves₀ : ℕ) (kept₀ : Option (List (ℕ × Gap))) (last : ℕ) (heres ring : List ℕ) (moves : ℕ) (kept : Option (List (ℕ × Gap))) (least greatest : ℕ)
    → Searching lists heres₀ ring₀ moves₀ kept₀ last heres ring moves kept least greatest
    → (b : ℕ) → NonePassed lists heres₀ b → b ≤ key_in heres₀ ring₀ last → greatest ≤ least_from (common_keys lists) b
none_below lists heres₀ ring₀ moves₀ kept₀ last heres ring moves kept least greatest s b none le =
    common_least (λ y. greatest ≤ y) lists b s.within (λ c common from.
    let past = (s.exact b none le).0 c common from (get_or ring last 0) (s.is_ring.in_range last (let e = s.last_is in omega arith)) in
    let g = s.greatest_is in
    omega arith)
