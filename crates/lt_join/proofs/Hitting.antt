-- The rows of the atoms that end at a key are made hits.
use Rattle.std.specs.Prelude.{◌≡◌, ◌≢◌, ℕ, zero, suc, ◌+◌, ◌-◌, ◌<◌, ◌≤◌, true, false, ◌||◌, ◌==◌, nat_lt, List, [], ◌∷◌, ◌++◌, map, length, take, slice_index}
use Rattle.std.specs.List.{AllByRecursion}
use Rattle.std.proofs.Common.{refl, sym, ap, ◌∙◌, subst, inl, inr, cond, arith}
use Rattle.std.proofs.lemmas.Bool.{eq-eqb, ltb-true, lt-ltb, cases_lt, cases_Bool, true≢false}
use Rattle.lt_face.specs.Rows.{IsRow}
use Rattle.lt_face.specs.Lists.{IsIn}
use Rattle.lt_face.specs.State.{Row, State, Has, permuted}
use Rattle.lt_face.proofs.Membership.{IsIn-append_left, IsIn-append_right}
use Rattle.lt_trie.specs.Trie.{TrieView}
use Rattle.lt_query.specs.declared.plans.Guide.{Guide}
use Rattle.lt_query.specs.Holding.{holds_level, guide_at, atoms_at_level}
use Rattle.lt_query.specs.Lists.{below}
use Rattle.lt_query.specs.Plan.{Keys, levels_of}
use Rattle.lt_query.proofs.Distinct.{IsIn-below, IsIn-filter}
use Rattle.lt_sense.specs.declared.covering.Hit.{Hit}
use Rattle.lt_sense.specs.Kept.{Sense}
use Rattle.lt_sense.specs.Sense.{IsTight}
use Rattle.lt_join.specs.Explored.{before, hit_of}
use Rattle.lt_leap.specs.Common.{has_key}
use Rattle.lt_join.specs.Walked.{at, Grows, HitsAbove}
use Rattle.lt_join.specs.Holders.{IsWalkable, IsTrieOf, path_of}
use Rattle.lt_join.proofs.Repair.{All_at}
use Rattle.lt_join.proofs.Steps.{Grows-chain}
use Rattle.lt_join.proofs.KnownLists.{All_more, all_guides, all_get, guide_is}

-- ---- a full row

length_map : {X Y : Type 0} (f : X → Y) (xs : List X) → length (map f xs) ≡ length xs
length_map f [] = refl
length_map f (x ∷ xs) = let e = length_map f xs in omega arith

-- all levels are above, where as many are
before_all : (l : ℕ) (ms : List ℕ) → length (before l ms) ≡ length ms → before l ms ≡ ms
before_all l [] e = refl
before_all l (m ∷ ms) e =
    elim (nat_lt m l) as (λ b. length (cond b (m ∷ before l ms) []) ≡ length (m ∷ ms) → cond b (m ∷ before l ms) [] ≡ m ∷ ms) [
      | true ↦ λ f. ap (λ t. m ∷ t) (before_all l ms (omega arith))
      | false ↦ λ f. absurd (omega arith)
    ] e

before_below : (l : ℕ) (ms : List ℕ) → AllByRecursion (λ m. m < l) ms → before l ms ≡ ms
before_below l [] h = refl
before_below l (m ∷ ms) h = rw (lt-ltb m l h.0) (ap (λ t. m ∷ t) (before_below l ms h.1))

-- those before the level are below it
pub below_before : (l : ℕ) (ms : List ℕ) → AllByRecursion (λ m. m < l) (before l ms)
below_before l [] = tt
below_before l (m ∷ ms) =
    elim (cases_Bool (nat_lt m l)) [
      | inl t ↦ rw t (ltb-true m l t, below_before l ms)
      | inr f ↦ rw f tt
    ]

no_rest : (xs rest : Row) → length (xs ++ rest) ≡ length xs → xs ++ rest ≡ xs
no_rest [] [] e = refl
no_rest [] (r ∷ rest) e = absurd (omega arith)
no_rest (x ∷ xs) rest e = ap (λ t. x ∷ t) (no_rest xs rest (omega arith))

same_at : (f g : ℕ → ℕ) (cs : List ℕ) (c : ℕ) → map f cs ≡ map g cs → IsIn c cs → f c ≡ g c
same_at f g [] c e h = absurd h
same_at f g (d ∷ cs) c e h =
    elim h [
      | inl s ↦ (let q : f d ≡ g d = cc in ap f (sym s) ∙ q ∙ ap g s)
      | inr r ↦ same_at f g cs c (let q : map f cs ≡ map g cs = cc in q) r
    ]

rows_same : (xs ys : Row) → length xs ≡ length ys → ((i : ℕ) → i < length ys → slice_index xs i ≡ slice_index ys i) → xs ≡ ys
rows_same [] [] n f = refl
rows_same [] (y ∷ ys) n f = absurd (omega arith)
rows_same (x ∷ xs) [] n f = absurd (omega arith)
rows_same (x ∷ xs) (y ∷ ys) n f =
    let head : x ≡ y = f 0 (omega arith) in
    let tail : xs ≡ ys = rows_same xs ys (omega arith) (λ i lt. f (suc i) (omega arith)) in
    cc

index_map : (keys : Keys) (places : List ℕ) (c : ℕ) → c < length places → slice_index (map keys places) c ≡ keys (slice_index places c)
index_map keys [] c lt = absurd (omega arith)
index_map keys (p ∷ places) zero lt = refl
index_map keys (p ∷ places) (suc c) lt = index_map keys places c (omega arith)

map_map : {X Y Z : Type 0} (f : Y → Z) (g : X → Y) (xs : List X) → map f (map g xs) ≡ map (λ x. f (g x)) xs
map_map f g [] = refl
map_map f g (x ∷ xs) = ap (λ zs. f (g x) ∷ zs) (map_map f g xs)

-- the row of the state that an iterator at its last level stands for
pub full_row : (state : State) (l : ℕ) (keys : Keys) (guide : Guide) (t : TrieView) → IsWalkable guide → IsTrieOf state l keys guide t → t.level ≡ length guide.columns → 0 < t.level → Has state guide.relation (map keys guide.places)
full_row state l keys guide t walkable is full deep =
    let met = is.met deep in
    let a = length_map keys (before l (levels_of guide)) in
    let b : length (levels_of guide) ≡ length guide.columns = length_map (λ c. slice_index guide.places c) guide.columns in
    let lv = is.level in
    let all = before_all l (levels_of guide) (omega arith) in
    let path : path_of t ≡ map keys (levels_of guide) = is.path ∙ ap (map keys) all in
    let wide = (All_at (IsRow t.width) t.rows met.0 is.over.is_set.each met.1).is_wide in
    let width = is.over.index.wide in
    let n : length (path_of t) ≡ length guide.columns = ap length path ∙ length_map keys (levels_of guide) ∙ b in
    let m = ap length met.3 in
    let row_is : met.0 ≡ path_of t = met.3 ∙ no_rest (path_of t) met.2 (omega arith) in
    let from = is.over.index.from met.0 met.1 in
    let cells : map (λ c. slice_index from.0 c) guide.columns ≡ map (λ c. keys (slice_index guide.places c)) guide.columns = from.2 ∙ row_is ∙ path ∙ map_map keys (λ c. slice_index guide.places c) guide.columns in
    let long = is.over.index.rows_wide from.0 from.1 in
    let p = length_map keys guide.places in
    let q = walkable.as_long in
    let same : from.0 ≡ map keys guide.places = rows_same from.0 (map keys guide.places) (omega arith)
    (λ c lt. same_at (λ d. slice_index from.0 d) (λ d. keys (slice_index guide.places d)) guide.columns c cells (walkable.each c (omega arith)) ∙ sym (index_map keys guide.places c (omega arith))) in
    subst (Has state guide.relation) same from.1

-- ---- the hits of the atoms so far

-- where the atom's levels are all above, its row is a hit
abbrev pub IsHitAbove : Sense → List ℕ → Guide → Type 0
IsHitAbove sense keys guide = AllByRecursion (λ l. l < length keys) guide.places → IsIn (hit_of (at keys) guide) sense.hits

-- those at these places are among the hits, where all their levels are above
pub record AreHit (state : State) (keys : List ℕ) (old new : Sense) (guides : List Guide) (places : List ℕ) : Type 0 where
  pub grows : Grows old new
  pub tight : IsTight new state
  pub hits : AllByRecursion (λ i. IsHitAbove new keys (guide_at guides i)) places
  pub gaps : new.gaps ≡ old.gaps
  pub few : length new.hits ≤ length old.hits + length places

hits_kept : (s t : Sense) (keys : List ℕ) → Grows s t → (guides : List Guide) (places : List ℕ) → AllByRecursion (λ i. IsHitAbove s keys (guide_at guides i)) places → AllByRecursion (λ i. IsHitAbove t keys (guide_at guides i)) places
hits_kept s t keys grows guides [] h = tt
hits_kept s t keys grows guides (i ∷ places) h = ((λ above. grows.hits (hit_of (at keys) (guide_at guides i)) (h.0 above)), hits_kept s t keys grows guides places h.1)

length_more : {X : Type 0} (xs : List X) (x : X) → length (xs ++ x ∷ []) ≡ length xs + 1
length_more [] x = refl
length_more (y ∷ xs) x = let e = length_more xs x in omega (arith, e)

-- one more row is a hit
pub hit_more : (state : State) (keys : List ℕ) (old mid new : Sense) (guides : List Guide) (places : List ℕ) (i : ℕ) (t : TrieView) (hit : Hit) → IsWalkable (guide_at guides i) → IsTrieOf state (length keys) (at keys) (guide_at guides i) t → t.level ≡ length (guide_at guides i).columns → 0 < t.level
    → AreHit state keys old mid guides places → hit ≡ hit_of (at keys) (guide_at guides i) → new.hits ≡ mid.hits ++ hit ∷ [] → new.gaps ≡ mid.gaps → AreHit state keys old new guides (places ++ i ∷ [])
hit_more state keys old mid new guides places i t hit walkable is full deep so hit_is hits gaps =
    let guide = guide_at guides i in
    let grows : Grows mid new = record { gaps = λ g h. rw gaps h; hits = λ g h. rw hits (IsIn-append_left g mid.hits (hit ∷ []) h) } in
    let there : Has state hit.relation hit.row = subst (λ (w : Hit). Has state w.relation w.row) (sym hit_is) (full_row state (length keys) (at keys) guide t walkable is full deep) in
    record {
      grows = Grows-chain old mid new so.grows grows;
      tight = record { gaps = rw gaps (so.tight.gaps); hits = rw hits (All_more (λ (w : Hit). Has state w.relation w.row) mid.hits hit so.tight.hits there) };
      hits = All_more (λ j. IsHitAbove new keys (guide_at guides j)) places i (hits_kept mid new keys grows guides places so.hits) (λ above. rw hits (IsIn-append_right (hit_of (at keys) guide) mid.hits (hit ∷ []) (inl hit_is)));
      gaps = gaps ∙ so.gaps;
      few = (let e = ap length hits in let n = length_more mid.hits hit in let m = length_more places i in omega (arith, so.few, e, n, m));
    }

take_last : (keys : List ℕ) (i : ℕ) → i < length keys - 1 → at keys i ≡ at (take (length keys - 1) keys) i
take_last keys i lt = by keys (length keys - 1) i lt
  where
    by : (xs : List ℕ) (n i : ℕ) → i < n → at xs i ≡ at (take n xs) i
    by [] n i lt = (let e : take n [] ≡ [] = none n in rw e refl)
      where
        none : (k : ℕ) → take {A = ℕ} k [] ≡ []
        none zero = refl
        none (suc k) = refl
    by (x ∷ xs) zero i lt = absurd (omega arith)
    by (x ∷ xs) (suc n) zero lt = refl
    by (x ∷ xs) (suc n) (suc i) lt = by xs n i (omega arith)

map_agree : (f g : Keys) (n : ℕ) (places : List ℕ) → ((i : ℕ) → i < n → f i ≡ g i) → AllByRecursion (λ l. l < n) places → map f places ≡ map g places
map_agree f g n [] same h = refl
map_agree f g n (p ∷ places) same h = (let e = same p h.0 in let r = map_agree f g n places same h.1 in cc)

below_last : (n : ℕ) (places : List ℕ) → 0 < n → has_key places (n - 1) ≡ false → AllByRecursion (λ l. l < n) places → AllByRecursion (λ l. l < n - 1) places
below_last n [] some h above = tt
below_last n (p ∷ places) some h above =
    elim (cases_Bool (p == (n - 1))) [
      | inl e ↦ absurd (true≢false (sym (ap (λ b. b || has_key places (n - 1)) e) ∙ h))
      | inr apart ↦ (
        (let lt = above.0 in let ne : p ≢ n - 1 = λ e. true≢false (sym (eq-eqb p (n - 1) e) ∙ apart) in elim (cases_lt p (n - 1)) [ inl l ↦ l | inr g ↦ absurd (ne (omega arith)) ]),
        below_last n places some (subst (λ b. (b || has_key places (n - 1)) ≡ false) apart h) above.1,
      )
    ]

pub length_take : {X : Type 0} (xs : List X) (n : ℕ) → n ≤ length xs → length (take n xs) ≡ n
length_take [] zero le = refl
length_take [] (suc n) le = absurd (omega arith)
length_take (x ∷ xs) zero le = refl
length_take (x ∷ xs) (suc n) le = let e = length_take xs n (omega arith) in omega arith

-- the iterator of an atom whose levels are all above is at its last
pub full_above : (state : State) (l : ℕ) (keys : Keys) (guide : Guide) (t : TrieView) → IsWalkable guide → IsTrieOf state l keys guide t → AllByRecursion (λ m. m < l) guide.places → t.level ≡ length guide.columns
full_above state l keys guide t walkable is above =
    let levels = by guide.columns walkable.columns in
    let e = is.level ∙ length_map keys (before l (levels_of guide)) ∙ ap length (before_below l (levels_of guide) levels) ∙ length_map (λ c. slice_index guide.places c) guide.columns in
    e
  where
    in_place : (places : List ℕ) (c : ℕ) → c < length places → AllByRecursion (λ m. m < l) places → slice_index places c < l
    in_place [] c lt h = absurd (omega arith)
    in_place (p ∷ places) zero lt h = h.0
    in_place (p ∷ places) (suc c) lt h = in_place places c (omega arith) h.1

    by : (columns : List ℕ) → AllByRecursion (λ c. c < length guide.places) columns → AllByRecursion (λ m. m < l) (permuted columns guide.places)
    by [] h = tt
    by (c ∷ columns) h = (in_place guide.places c h.0 above, by columns h.1)

-- no row more: not all of its levels are above
pub hit_skip : (state : State) (keys : List ℕ) (old mid : Sense) (guides : List Guide) (places : List ℕ) (i : ℕ) (t : TrieView) → IsWalkable (guide_at guides i) → IsTrieOf state (length keys) (at keys) (guide_at guides i) t → (t.level ≡ length (guide_at guides i).columns → ⊥)
    → AreHit state keys old mid guides places → AreHit state keys old mid guides (places ++ i ∷ [])
hit_skip state keys old mid guides places i t walkable is apart so = record {
  grows = so.grows;
  tight = so.tight;
  hits = All_more (λ j. IsHitAbove mid keys (guide_at guides j)) places i so.hits (λ above. absurd (apart (full_above state (length keys) (at keys) (guide_at guides i) t walkable is above)));
  gaps = so.gaps;
  few = let n = length_more places i in omega (arith, so.few, n);
}

-- with those that hold the last level all are hits whose levels are above
pub hit_all : (state : State) (keys : List ℕ) (old new : Sense) (guides : List Guide) → 0 < length keys → HitsAbove old guides (take (length keys - 1) keys) → AreHit state keys old new guides (atoms_at_level guides (length keys - 1)) → HitsAbove new guides keys
hit_all state keys old new guides some was so = all_guides (IsHitAbove new keys) guides each
  where
    each : (i : ℕ) → i < length guides → IsHitAbove new keys (guide_at guides i)
    each i lt =
        let guide = guide_at guides i in
        elim (cases_Bool (holds_level (length keys - 1) guide)) [
          | inl held ↦ All_at (λ j. IsHitAbove new keys (guide_at guides j)) (atoms_at_level guides (length keys - 1)) i so.hits
              (IsIn-filter (λ j. holds_level (length keys - 1) (guide_at guides j)) i (below (length guides)) (IsIn-below (length guides) i lt) held)
          | inr free ↦ λ above.
              let n : length (take (length keys - 1) keys) ≡ length keys - 1 = length_take keys (length keys - 1) (omega arith) in
              let lower = below_last (length keys) guide.places some free above in
              let old_hit = all_get (IsHitAbove old (take (length keys - 1) keys)) guides i guide was lt (guide_is guides i lt) (subst (λ m. AllByRecursion (λ l. l < m) guide.places) (sym n) lower) in
              let same : hit_of (at (take (length keys - 1) keys)) guide ≡ hit_of (at keys) guide = ap (λ (r : Row). record { relation = guide.relation; row = r }) (sym (map_agree (at keys) (at (take (length keys - 1) keys)) (length keys - 1) guide.places (take_last keys) lower)) in
              so.grows.hits (hit_of (at keys) guide) (subst (λ h. IsIn h old.hits) same old_hit)
        ]

all_map_at : (P : ℕ → Type 0) (f : ℕ → ℕ) (cs : List ℕ) (c : ℕ) → AllByRecursion P (map f cs) → IsIn c cs → P (f c)
all_map_at P f [] c h i = absurd i
all_map_at P f (d ∷ cs) c h i = elim i [ inl s ↦ subst (λ x. P (f x)) s h.0 | inr r ↦ all_map_at P f cs c h.1 r ]

all_by : (P : ℕ → Type 0) (xs : List ℕ) → ((i : ℕ) → i < length xs → P (slice_index xs i)) → AllByRecursion P xs
all_by P [] f = tt
all_by P (x ∷ xs) f = (f 0 (omega arith), all_by P xs (λ i lt. f (suc i) (omega arith)))

-- all levels of an atom at its last are above
pub places_above : (state : State) (l : ℕ) (keys : Keys) (guide : Guide) (t : TrieView) → IsWalkable guide → IsTrieOf state l keys guide t → t.level ≡ length guide.columns → AllByRecursion (λ m. m < l) guide.places
places_above state l keys guide t walkable is full =
    let a = length_map keys (before l (levels_of guide)) in
    let b : length (levels_of guide) ≡ length guide.columns = length_map (λ c. slice_index guide.places c) guide.columns in
    let lv = is.level in
    let all = before_all l (levels_of guide) (omega arith) in
    let levels = subst (AllByRecursion (λ m. m < l)) all (below_before l (levels_of guide)) in
    all_by (λ m. m < l) guide.places (λ c lt. all_map_at (λ m. m < l) (λ d. slice_index guide.places d) guide.columns c levels (walkable.each c lt))
