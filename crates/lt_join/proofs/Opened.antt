-- Iterators at some places are opened, and brought back.
use Rattle.std.specs.Prelude.{◌≡◌, ◌≢◌, ℕ, zero, suc, ◌+◌, ◌<◌, ◌≤◌, true, false, ◌==◌, nat_lt, List, [], ◌∷◌, ◌++◌, map, length, slice_get, slice_index, Some}
use Rattle.std.specs.List.{AllByRecursion, AllZip}
use Rattle.std.proofs.Common.{refl, sym, ap, ◌∙◌, subst, inl, inr, cond, arith, get_or, set, take, drop, length-set}
use Rattle.std.proofs.lemmas.Bool.{eqb-true, eq-eqb, ltb-true, or_cases}
use Rattle.std.proofs.lemmas.Option.{slice_get-get_or, slice_get_within}
use Rattle.std.proofs.lemmas.List.{take_more}
use Rattle.lt_face.specs.Lists.{IsIn}
use Rattle.lt_face.specs.State.{State}
use Rattle.lt_face.proofs.Membership.{IsIn-append_left, IsIn-append_right, IsIn-append_cases}
use Rattle.lt_model.specs.declared.normal.Body.{Body}
use Rattle.lt_query.specs.declared.plans.Guide.{Guide}
use Rattle.lt_query.specs.declared.plans.Plan.{Plan}
use Rattle.lt_query.specs.Plan.{levels_of, IsPlanOf}
use Rattle.lt_query.specs.Holding.{holds_level, guide_at, atoms_at_level}
use Rattle.lt_query.specs.Lists.{IsRising, below}
use Rattle.lt_query.proofs.Distinct.{IsIn-filter_from}
use Rattle.lt_leap.specs.Common.{has_key}
use Rattle.lt_leap.specs.Places.{ArePlaces}
use Rattle.lt_join.specs.AtomIter.{AtomView}
use Rattle.lt_join.specs.Explored.{before}
use Rattle.lt_join.specs.Holders.{IsTrieOf, IsOpenedOf, IsWalkable}
use Rattle.lt_join.specs.Level.{IsAtomAt, AreAtomsAt, CanBeOpened, IsOpenedFrom, AreOpened, HoldsAt}
use Rattle.lt_join.specs.Walked.{at}
use Rattle.lt_join.proofs.KnownLists.{walkable_all}
use Rattle.lt_join.proofs.Sensed.{level_held, IsOpenAt}

-- ---- lists

same_some : {X : Type 0} (x y : X) → Some x ≡ Some y → x ≡ y
same_some x y e = cc

pub other_item : {X : Type 0} (xs : List X) (p i : ℕ) (x : X) → i ≢ p → slice_get (set xs p x) i ≡ slice_get xs i
other_item [] p i x ne = refl
other_item (y ∷ xs) zero zero x ne = absurd (ne refl)
other_item (y ∷ xs) zero (suc i) x ne = refl
other_item (y ∷ xs) (suc p) zero x ne = refl
other_item (y ∷ xs) (suc p) (suc i) x ne = other_item xs p i x (λ same. ne (ap suc same))

pub same_item : {X : Type 0} (xs : List X) (p : ℕ) (x : X) → p < length xs → slice_get (set xs p x) p ≡ Some x
same_item [] p x lt = absurd (omega arith)
same_item (y ∷ xs) zero x lt = refl
same_item (y ∷ xs) (suc p) x lt = same_item xs p x (omega arith)

same_lists : {X : Type 0} (xs ys : List X) → ((i : ℕ) → slice_get xs i ≡ slice_get ys i) → xs ≡ ys
same_lists [] [] each = refl
same_lists [] (y ∷ ys) each = (let e = each 0 in cc)
same_lists (x ∷ xs) [] each = (let e = each 0 in cc)
same_lists (x ∷ xs) (y ∷ ys) each = (let e = same_some x y (each 0) in let r = same_lists xs ys (λ i. each (suc i)) in cc)

pub in_take : (x : ℕ) (xs : List ℕ) (n : ℕ) → IsIn x (take n xs) → (i : ℕ) × (i < n) × (i < length xs) × (get_or xs i 0 ≡ x)
in_take x [] zero h = absurd h
in_take x [] (suc n) h = absurd h
in_take x (y ∷ xs) zero h = absurd h
in_take x (y ∷ xs) (suc n) h = elim h [ inl e ↦ (0, omega arith, omega arith, e) | inr r ↦ (let f = in_take x xs n r in (suc f.0, (let a = f.1 in omega (arith, a)), (let b = f.2 in omega (arith, b)), f.3)) ]

pub in_drop : (x : ℕ) (xs : List ℕ) (n : ℕ) → IsIn x (drop n xs) → (i : ℕ) × (n ≤ i) × (i < length xs) × (get_or xs i 0 ≡ x)
in_drop x [] zero h = absurd h
in_drop x [] (suc n) h = absurd h
in_drop x (y ∷ xs) zero h = elim h [ inl e ↦ (0, omega arith, omega arith, e) | inr r ↦ (let f = in_drop x xs 0 r in (suc f.0, omega arith, (let b = f.2 in omega (arith, b)), f.3)) ]
in_drop x (y ∷ xs) (suc n) h = let f = in_drop x xs n h in (suc f.0, (let a = f.1 in omega (arith, a)), (let b = f.2 in omega (arith, b)), f.3)

-- places are different ones
pub not_before : (places : List ℕ) (count i : ℕ) → ArePlaces places count → i < length places → IsIn (get_or places i 0) (take i places) → ⊥
not_before places count i are lt h = let f = in_take (get_or places i 0) places i h in are.distinct f.0 i f.1 lt f.3

pub not_behind : (places : List ℕ) (count i : ℕ) → ArePlaces places count → i < length places → IsIn (get_or places i 0) (drop (i + 1) places) → ⊥
not_behind places count i are lt h =
    let f = in_drop (get_or places i 0) places (i + 1) h in
    are.distinct i f.0 (let a = f.1 in omega (arith, a)) f.2 (sym f.3)

get_taken : (xs : List ℕ) (n i : ℕ) → i < n → get_or (take n xs) i 0 ≡ get_or xs i 0
get_taken [] zero i lt = refl
get_taken [] (suc n) i lt = refl
get_taken (x ∷ xs) zero i lt = absurd (omega arith)
get_taken (x ∷ xs) (suc n) zero lt = refl
get_taken (x ∷ xs) (suc n) (suc i) lt = get_taken xs n i (omega arith)

long_taken : (xs : List ℕ) (n : ℕ) → (length (take n xs) ≤ n) × (length (take n xs) ≤ length xs)
long_taken [] zero = (omega arith, omega arith)
long_taken [] (suc n) = (omega arith, omega arith)
long_taken (x ∷ xs) zero = (omega arith, omega arith)
long_taken (x ∷ xs) (suc n) = let r = long_taken xs n in let a = r.0 in let b = r.1 in (omega (arith, a), omega (arith, b))

all_taken : (P : ℕ → Type 0) (xs : List ℕ) (n : ℕ) → AllByRecursion P xs → AllByRecursion P (take n xs)
all_taken P [] zero h = tt
all_taken P [] (suc n) h = tt
all_taken P (x ∷ xs) zero h = tt
all_taken P (x ∷ xs) (suc n) h = (h.0, all_taken P xs n h.1)

-- the first of some places are places, too
pub places_taken : (places : List ℕ) (count n : ℕ) → ArePlaces places count → ArePlaces (take n places) count
places_taken places count n are = record {
  within = all_taken (λ place. place < count) places n are.within;
  distinct = λ a b less in_b.
      let long = long_taken places n in
      let p = long.0 in
      let q = long.1 in
      λ same. are.distinct a b less (omega (arith, q, in_b)) (sym (get_taken places n a (omega (arith, p, in_b, less))) ∙ same ∙ get_taken places n b (omega (arith, p, in_b)));
}

pub place_within : (places : List ℕ) (count i : ℕ) → AllByRecursion (λ place. place < count) places → i < length places → get_or places i 0 < count
place_within [] count i all lt = absurd (omega arith)
place_within (p ∷ places) count zero all lt = all.0
place_within (p ∷ places) count (suc i) all lt = place_within places count i all.1 (omega arith)

pub is_place : (places : List ℕ) (i : ℕ) → i < length places → IsIn (get_or places i 0) places
is_place [] i lt = absurd (omega arith)
is_place (p ∷ places) zero lt = inl refl
is_place (p ∷ places) (suc i) lt = inr (is_place places i (omega arith))

-- rising numbers are different places
rises_above : (x : ℕ) (xs : List ℕ) (i : ℕ) → AllByRecursion (λ y. x < y) xs → i < length xs → x < get_or xs i 0
rises_above x [] i all lt = absurd (omega arith)
rises_above x (y ∷ xs) zero all lt = all.0
rises_above x (y ∷ xs) (suc i) all lt = rises_above x xs i all.1 (omega arith)

rising_apart : (xs : List ℕ) (a b : ℕ) → IsRising xs → a < b → b < length xs → get_or xs a 0 ≢ get_or xs b 0
rising_apart [] a b up less in_b = absurd (omega arith)
rising_apart (x ∷ xs) a zero up less in_b = absurd (omega arith)
rising_apart (x ∷ xs) zero (suc b) up less in_b = λ same. (let r = rises_above x xs b up.0 (omega arith) in omega (arith, r, same))
rising_apart (x ∷ xs) (suc a) (suc b) up less in_b = rising_apart xs a b up.1 (omega arith) (omega arith)

pub rising_places : (places : List ℕ) (count : ℕ) → AllByRecursion (λ place. place < count) places → IsRising places → ArePlaces places count
rising_places places count within up = record { within = within; distinct = λ a b less in_b. rising_apart places a b up less in_b }

-- ---- opened, and brought back

pub opened_none : (atoms : List AtomView) → AreOpened [] atoms atoms
opened_none atoms = record { as_long = refl; opened = λ i one other h a b. absurd h; others = λ i out. refl }

-- one more
pub opened_more : (done : List ℕ) (place : ℕ) (above atoms : List AtomView) (atom next : AtomView) → AreOpened done above atoms → (IsIn place done → ⊥) → slice_get atoms place ≡ Some atom → IsOpenedFrom atom next → AreOpened (done ++ place ∷ []) above (set atoms place next)
opened_more done place above atoms atom next h out there is = record {
  as_long = length-set atoms place next ∙ h.as_long;
  opened = λ i one other in_i at_one at_other. elim (IsIn-append_cases i done (place ∷ []) in_i) [
    | inl was ↦ h.opened i one other was at_one (sym (other_item atoms place i next (λ e. out (subst (λ k. IsIn k done) e was))) ∙ at_other)
    | inr last ↦ elim last [
      | inl same ↦
          let above_is : slice_get above place ≡ Some one = ap (slice_get above) same ∙ at_one in
          let one_is : atom ≡ one = same_some atom one (sym there ∙ h.others place out ∙ above_is) in
          let set_is : slice_get (set atoms place next) place ≡ Some other = ap (slice_get (set atoms place next)) same ∙ at_other in
          let next_is : next ≡ other = same_some next other (sym (same_item atoms place next (slice_get_within atoms place atom there)) ∙ set_is) in
          subst (λ x. IsOpenedFrom x other) one_is (subst (IsOpenedFrom atom) next_is is)
      | inr none ↦ absurd none
    ]
  ];
  others = λ i out_i. other_item atoms place i next (λ e. out_i (IsIn-append_right i done (place ∷ []) (inl (sym e)))) ∙ h.others i (λ was. out_i (IsIn-append_left i done (place ∷ []) was));
}

-- the first is brought back
pub opened_less : (place : ℕ) (rest : List ℕ) (above atoms : List AtomView) (one : AtomView) → AreOpened (place ∷ rest) above atoms → (IsIn place rest → ⊥) → slice_get above place ≡ Some one → AreOpened rest above (set atoms place one)
opened_less place rest above atoms one h out there = record {
  as_long = length-set atoms place one ∙ h.as_long;
  opened = λ i a b in_i at_a at_b. h.opened i a b (inr in_i) at_a (sym (other_item atoms place i one (λ e. out (subst (λ k. IsIn k rest) e in_i))) ∙ at_b);
  others = λ i out_i. elim (i == place) as (λ b. (i == place) ≡ b → slice_get (set atoms place one) i ≡ slice_get above i) [
    | true ↦ λ e.
        let same : i ≡ place = eqb-true i place e in
        let long = h.as_long in
        let within = slice_get_within above place one there in
        ap (slice_get (set atoms place one)) same ∙ same_item atoms place one (omega (arith, long, within)) ∙ sym there ∙ ap (slice_get above) (sym same)
    | false ↦ λ e.
        let apart : i ≢ place = λ same. true_not_false (sym (eq-eqb i place same) ∙ e) in
        other_item atoms place i one apart ∙ h.others i (λ there. elim there [ inl f ↦ apart (sym f) | inr r ↦ out_i r ])
  ] refl;
}
  where
    true_not_false : true ≡ false → ⊥
    true_not_false e = cc

-- all are
pub opened_end : (above atoms : List AtomView) → AreOpened [] above atoms → atoms ≡ above
opened_end above atoms h = same_lists atoms above (λ i. h.others i (λ none. none))

-- one that was opened
pub opened_at : (places : List ℕ) (above atoms : List AtomView) (place : ℕ) (atom : AtomView) → AreOpened places above atoms → IsIn place places → slice_get atoms place ≡ Some atom → (one : AtomView) × (slice_get above place ≡ Some one) × IsOpenedFrom one atom
opened_at places above atoms place atom h in_places there =
    let within = slice_get_within atoms place atom there in
    let long = h.as_long in
    let above_is = slice_get-get_or above place atom (omega (arith, long, within)) in
    (get_or above place atom, above_is, h.opened place (get_or above place atom) atom in_places above_is there)

-- so it may go up
pub opened_deep : (one atom : AtomView) → IsOpenedFrom one atom → 0 < atom.trie.level
opened_deep one atom is = let e = is.level in omega (arith, e)

-- ---- one place after another

none_dropped : (xs : List ℕ) → drop 0 xs ≡ xs
none_dropped [] = refl
none_dropped (x ∷ xs) = refl

drop_at : (places : List ℕ) (i : ℕ) → i < length places → drop i places ≡ get_or places i 0 ∷ drop (i + 1) places
drop_at [] i lt = absurd (omega (arith, lt))
drop_at (p ∷ places) zero lt = ap (λ ps. p ∷ ps) (sym (none_dropped places))
drop_at (p ∷ places) (suc i) lt = drop_at places i (omega (arith, lt)) ∙ ap (λ ps. get_or places i 0 ∷ ps) (let n : suc (i + 1) ≡ suc i + 1 = omega arith in ap (λ m. drop m (p ∷ places)) n)

drop_end : (places : List ℕ) (i : ℕ) → length places ≤ i → drop i places ≡ []
drop_end [] zero le = refl
drop_end [] (suc i) le = refl
drop_end (p ∷ places) zero le = absurd (omega (arith, le))
drop_end (p ∷ places) (suc i) le = drop_end places i (omega (arith, le))

-- the next one may go up
pub still_deep : (places : List ℕ) (i : ℕ) (above atoms : List AtomView) (d : AtomView) → AreOpened (drop i places) above atoms → i < length places → get_or places i 0 < length atoms → 0 < (get_or atoms (get_or places i 0) d).trie.level
still_deep places i above atoms d h lt within =
    let place = get_or places i 0 in
    let here : IsIn place (drop i places) = subst (IsIn place) (sym (drop_at places i lt)) (inl refl) in
    let o = opened_at (drop i places) above atoms place (get_or atoms place d) h here (slice_get-get_or atoms place d within) in
    opened_deep o.0 (get_or atoms place d) o.2

-- and is back then
pub close_step : (places : List ℕ) (count i : ℕ) (above atoms : List AtomView) (d up : AtomView) → ArePlaces places count → AreOpened (drop i places) above atoms → i < length places → get_or places i 0 < length atoms
    → ((one : AtomView) → CanBeOpened one → IsOpenedFrom one (get_or atoms (get_or places i 0) d) → up ≡ one) → AreOpened (drop (i + 1) places) above (set atoms (get_or places i 0) up)
close_step places count i above atoms d up are h lt within goes_up =
    let place = get_or places i 0 in
    let split = drop_at places i lt in
    let here : IsIn place (drop i places) = subst (IsIn place) (sym split) (inl refl) in
    let o = opened_at (drop i places) above atoms place (get_or atoms place d) h here (slice_get-get_or atoms place d within) in
    subst (λ a. AreOpened (drop (i + 1) places) above (set atoms place a)) (sym (goes_up o.0 o.2.could o.2))
    (opened_less place (drop (i + 1) places) above atoms o.0 (subst (λ ps. AreOpened ps above atoms) split h) (not_behind places count i are lt) o.1)

pub close_end : (places : List ℕ) (i : ℕ) (above atoms : List AtomView) → length places ≤ i → AreOpened (drop i places) above atoms → atoms ≡ above
close_end places i above atoms le h = opened_end above atoms (subst (λ ps. AreOpened ps above atoms) (drop_end places i le) h)

take_next : (places : List ℕ) (i : ℕ) → i < length places → take (i + 1) places ≡ take i places ++ get_or places i 0 ∷ []
take_next places i lt = take_more places i 0 lt

-- ---- the iterators of a level

zip_got : {X Y : Type 0} (R : X → Y → Type 0) (xs : List X) (ys : List Y) (i : ℕ) (y : Y) (d : X) → AllZip R xs ys → slice_get ys i ≡ Some y → (i < length xs) × R (get_or xs i d) y
zip_got R [] [] i y d h e = cc
zip_got R [] (w ∷ ys) i y d h e = absurd h
zip_got R (v ∷ xs) [] i y d h e = absurd h
zip_got R (v ∷ xs) (w ∷ ys) zero y d h e = (omega arith, subst (R v) (same_some w y e) h.0)
zip_got R (v ∷ xs) (w ∷ ys) (suc i) y d h e = let r = zip_got R xs ys i y d h.1 e in let a = r.0 in (omega (arith, a), r.1)

pub zip_as_long : {X Y : Type 0} (R : X → Y → Type 0) (xs : List X) (ys : List Y) → AllZip R xs ys → length xs ≡ length ys
zip_as_long R [] [] h = refl
zip_as_long R [] (y ∷ ys) h = absurd h
zip_as_long R (x ∷ xs) [] h = absurd h
zip_as_long R (x ∷ xs) (y ∷ ys) h = let e = zip_as_long R xs ys h.1 in omega (arith, e)

is_in_at : {X : Type 0} (xs : List X) (i : ℕ) (d : X) → i < length xs → IsIn (get_or xs i d) xs
is_in_at [] i d lt = absurd (omega arith)
is_in_at (x ∷ xs) zero d lt = inl refl
is_in_at (x ∷ xs) (suc i) d lt = inr (is_in_at xs i d (omega arith))

all_at : {X : Type 0} (P : X → Type 0) (xs : List X) (x : X) → AllByRecursion P xs → IsIn x xs → P x
all_at P [] x all h = absurd h
all_at P (y ∷ xs) x all h = elim h [ inl e ↦ subst P e all.0 | inr r ↦ all_at P xs x all.1 r ]

pub holder_at : (plan : Plan) (state : State) (keys : List ℕ) (atoms : List AtomView) (place : ℕ) (atom : AtomView) → AllByRecursion IsWalkable plan.guides → AreAtomsAt plan state keys atoms → IsIn place (atoms_at_level plan.guides (length keys)) → slice_get atoms place ≡ Some atom
    → HoldsAt plan state keys atom
holder_at plan state keys atoms place atom walkable are in_level there =
    let none : Guide = record { relation = 0; places = []; columns = [] } in
    let f = IsIn-filter_from (λ i. holds_level (length keys) (guide_at plan.guides i)) place (below (length plan.guides)) in_level in
    let r = zip_got (IsAtomAt state (length keys) (at keys)) plan.guides atoms place atom none are there in
    let guide = guide_at plan.guides place in
    let in_plan : IsIn guide plan.guides = is_in_at plan.guides place none r.0 in
    let is_guide : atom.guide ≡ guide = r.1.0 in
    record {
      in_plan = subst (λ (g : Guide). IsIn g plan.guides) (sym is_guide) in_plan;
      holds = subst (λ (g : Guide). has_key (levels_of g) (length keys) ≡ true) (sym is_guide) (level_held guide (length keys) (all_at IsWalkable plan.guides guide walkable in_plan) f.1);
      is_trie = subst (λ (g : Guide). IsTrieOf state (length keys) (at keys) g atom.trie) (sym is_guide) r.1.1;
    }

before-shorter : (l : ℕ) (ms : List ℕ) → has_key ms l ≡ true → length (before l ms) < length ms
before-shorter l [] h = cc
before-shorter l (m ∷ ms) h =
    elim (nat_lt m l) as (λ b. nat_lt m l ≡ b → length (cond b (m ∷ before l ms) []) < length (m ∷ ms)) [
      | true ↦ λ lt. elim (or_cases (m == l) (has_key ms l) h) [
        | inl e ↦ (let a = eqb-true m l e in let b = ltb-true m l lt in absurd (omega arith))
        | inr r ↦ (let n = before-shorter l ms r in omega arith)
      ]
      | false ↦ λ ge. omega arith
    ] refl

length_map : {X Y : Type 0} (f : X → Y) (xs : List X) → length (map f xs) ≡ length xs
length_map f [] = refl
length_map f (x ∷ xs) = let e = length_map f xs in omega arith

-- it may be opened there
pub holder_above_last : (plan : Plan) (state : State) (keys : List ℕ) (atom : AtomView) → HoldsAt plan state keys atom → atom.trie.level < atom.trie.width
holder_above_last plan state keys atom h =
    let l = length keys in
    let guide = atom.guide in
    let short = before-shorter l (levels_of guide) h.holds in
    let a = length_map (at keys) (before l (levels_of guide)) in
    let b : length (levels_of guide) ≡ length guide.columns = length_map (λ c. slice_index guide.places c) guide.columns in
    let level = h.is_trie.level in
    let wide = h.is_trie.over.index.wide in
    omega (arith, short, a, b, level, wide)

-- and is the atom's iterator at the level then
pub holder_opened : (plan : Plan) (state : State) (keys : List ℕ) (atom next : AtomView) → HoldsAt plan state keys atom → IsOpenedFrom atom next → IsOpenAt plan state keys next
holder_opened plan state keys atom next h is =
    let guide = atom.guide in
    let one = h.is_trie in
    let opened : IsOpenedOf state (length keys) (at keys) guide next.trie = record {
      over = record { index = rw (is.rows, is.width) (one.over.index); is_set = rw (is.rows, is.width) (one.over.is_set); narrow = rw (is.width) (one.over.narrow) };
      prefix = is.prefix ∙ one.path;
      level = is.level ∙ ap (λ n. n + 1) one.level;
    } in
    record {
      in_plan = subst (λ (g : Guide). IsIn g plan.guides) (sym is.guide) h.in_plan;
      holds = subst (λ (g : Guide). has_key (levels_of g) (length keys) ≡ true) (sym is.guide) h.holds;
      is_opened = subst (λ (g : Guide). IsOpenedOf state (length keys) (at keys) g next.trie) (sym is.guide) opened;
    }

-- what is known of the next iterator that is to be opened
pub record NextAt (plan : Plan) (state : State) (keys places : List ℕ) (i : ℕ) (atoms : List AtomView) (atom : AtomView) : Type 0 where
  pub out : IsIn (get_or places i 0) (take i places) → ⊥
  pub there : slice_get atoms (get_or places i 0) ≡ Some atom
  pub holds : HoldsAt plan state keys atom
  pub more : take (i + 1) places ≡ take i places ++ get_or places i 0 ∷ []

-- the places of a level
pub level_places : (inside plan : Plan) (state : State) (keys places done : List ℕ) (above atoms : List AtomView) → inside ≡ plan → AreAtomsAt plan state keys above → AllByRecursion (λ p. p < length inside.guides) places → IsRising places → AreOpened done above atoms → ArePlaces places (length atoms)
level_places inside plan state keys places done above atoms same are within up opened =
    let long : length inside.guides ≡ length atoms = ap (λ (p : Plan). length p.guides) same ∙ zip_as_long (IsAtomAt state (length keys) (at keys)) plan.guides above are ∙ sym opened.as_long in
    rising_places places (length atoms) (subst (λ n. AllByRecursion (λ p. p < n) places) long within) up

pub next_at : (body : Body) (inside plan : Plan) (state : State) (keys : List ℕ) (depth : ℕ) (above atoms : List AtomView) (places : List ℕ) (i : ℕ) (d : AtomView) → IsPlanOf body inside → inside ≡ plan → depth ≡ length keys → AreAtomsAt plan state keys above → places ≡ atoms_at_level inside.guides depth
    → AllByRecursion (λ p. p < length inside.guides) places → IsRising places → AreOpened (take i places) above atoms → i < length places → NextAt plan state keys places i atoms (get_or atoms (get_or places i 0) d)
next_at body inside plan state keys depth above atoms places i d of_body same deep are places_are within up opened lt =
    let place = get_or places i 0 in
    let is = level_places inside plan state keys places (take i places) above atoms same are within up opened in
    let here : place < length atoms = place_within places (length atoms) i is.within lt in
    let out = not_before places (length atoms) i is lt in
    let there = slice_get-get_or atoms place d here in
    let in_level : IsIn place (atoms_at_level plan.guides (length keys)) = subst (IsIn place) (places_are ∙ ap (atoms_at_level inside.guides) deep ∙ ap (λ (p : Plan). atoms_at_level p.guides (length keys)) same) (is_place places i lt) in
    record {
      out = out;
      there = there;
      holds = holder_at plan state keys above place (get_or atoms place d) (subst (λ (p : Plan). AllByRecursion IsWalkable p.guides) same (walkable_all body inside of_body)) are in_level (sym (opened.others place out) ∙ there);
      more = take_next places i lt;
    }
