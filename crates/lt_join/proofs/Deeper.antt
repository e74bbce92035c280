-- One key deeper: the atoms' iterators below a level's key.
use Rattle.std.specs.Prelude.{◌≡◌, ◌≢◌, ℕ, ◌+◌, ◌<◌, ◌≤◌, true, false, ◌||◌, ◌==◌, nat_lt, List, [], ◌∷◌, ◌++◌, map, length}
use Rattle.std.specs.List.{AllByRecursion}
use Rattle.std.proofs.Common.{refl, sym, ap, ◌∙◌, subst, inl, inr, arith}
use Rattle.std.proofs.lemmas.Bool.{or_cases, eqb-true, eq-eqb, ne_eqb, ltb-true, lt-ltb, cases_lt, cases_Bool, true≢false}
use Rattle.lt_face.specs.Keys.{end_key}
use Rattle.lt_face.specs.Lists.{IsIn}
use Rattle.lt_face.specs.State.{State}
use Rattle.lt_trie.specs.Trie.{TrieView}
use Rattle.lt_trie.specs.Under.{keys_under}
use Rattle.lt_query.specs.declared.plans.Guide.{Guide}
use Rattle.lt_query.specs.Plan.{Keys, levels_of}
use Rattle.lt_query.specs.Lists.{IsRising}
use Rattle.lt_join.specs.Explored.{prefix_at, before, with_key}
use Rattle.lt_leap.specs.Common.{has_key}
use Rattle.lt_join.specs.Holders.{IsTrieOf, IsOpenedOf, path_of}
use Rattle.lt_join.proofs.Under.{row_split, IsIn-keys_under_from}

-- ---- the levels above the next

not_lt : (a b : ℕ) → b ≤ a → nat_lt a b ≡ false
not_lt a b h = elim (cases_Bool (nat_lt a b)) [ inl t ↦ (let u = ltb-true a b t in absurd (omega arith)) | inr f ↦ f ]

before_same : (l : ℕ) (ms : List ℕ) → has_key ms l ≡ false → before (l + 1) ms ≡ before l ms
before_same l [] h = refl
before_same l (m ∷ ms) h =
    elim (cases_Bool (m == l)) [
      | inl e ↦ absurd (true≢false (sym (ap (λ b. b || has_key ms l) e) ∙ h))
      | inr n ↦
          let rest : has_key ms l ≡ false = subst (λ b. (b || has_key ms l) ≡ false) n h in
          elim (cases_lt m l) [
            | inl lt ↦ rw (lt-ltb m l lt, lt-ltb m (l + 1) (omega arith)) (ap (λ t. m ∷ t) (before_same l ms rest))
            | inr ge ↦
                let apart : m ≢ l = λ e. true≢false (sym (eq-eqb m l e) ∙ n) in
                let more : l + 1 ≤ m = above l m ge apart in
                rw (not_lt m l ge, not_lt m (l + 1) more) refl
          ]
    ]
  where
    above : (a b : ℕ) → a ≤ b → b ≢ a → a + 1 ≤ b
    above a b le ne = elim (cases_lt a b) [ inl lt ↦ omega arith | inr ge ↦ absurd (ne (omega arith)) ]

none_before : (l : ℕ) (ms : List ℕ) → AllByRecursion (λ m. l < m) ms → before (l + 1) ms ≡ []
none_before l [] h = refl
none_before l (m ∷ ms) h = rw (not_lt m (l + 1) (let a = h.0 in omega arith)) refl

below_later : (m l : ℕ) (ms : List ℕ) → AllByRecursion (λ k. m < k) ms → has_key ms l ≡ true → m < l
below_later m l [] all h = cc
below_later m l (k ∷ ms) all h = elim (or_cases (k == l) (has_key ms l) h) [ inl e ↦ (let a = eqb-true k l e in let b = all.0 in omega arith) | inr r ↦ below_later m l ms all.1 r ]

before_more : (l : ℕ) (ms : List ℕ) → IsRising ms → has_key ms l ≡ true → before (l + 1) ms ≡ before l ms ++ l ∷ []
before_more l [] up h = cc
before_more l (m ∷ ms) up h =
    elim (cases_Bool (m == l)) [
      | inl e ↦
          let same : m ≡ l = eqb-true m l e in
          let none = none_before m ms up.0 in
          rw (same, lt-ltb l (l + 1) (omega arith), not_lt l l (omega arith)) (let n : before (l + 1) ms ≡ [] = subst (λ k. before (k + 1) ms ≡ []) same none in ap (λ t. l ∷ t) n)
      | inr n ↦
          let rest : has_key ms l ≡ true = subst (λ b. (b || has_key ms l) ≡ true) n h in
          let lt = below_later m l ms up.0 rest in
          rw (lt-ltb m l lt, lt-ltb m (l + 1) (omega arith)) (ap (λ t. m ∷ t) (before_more l ms up.1 rest))
    ]

-- the keys of the levels above stay
map_before : (keys : Keys) (l k : ℕ) (ms : List ℕ) → map (with_key keys l k) (before l ms) ≡ map keys (before l ms)
map_before keys l k [] = refl
map_before keys l k (m ∷ ms) =
    elim (cases_Bool (nat_lt m l)) [
      | inl t ↦ (let lt = ltb-true m l t in let n : (m == l) ≡ false = ne_eqb m l (λ e. omega arith) in rw (t, n) (ap (λ zs. keys m ∷ zs) (map_before keys l k ms)))
      | inr f ↦ rw f refl
    ]

map_append : {X Y : Type 0} (f : X → Y) (xs ys : List X) → map f (xs ++ ys) ≡ map f xs ++ map f ys
map_append f [] ys = refl
map_append f (x ∷ xs) ys = ap (λ zs. f x ∷ zs) (map_append f xs ys)

pub prefix_same : (guide : Guide) (l : ℕ) (keys : Keys) (k : ℕ) → has_key (levels_of guide) l ≡ false → prefix_at guide (l + 1) (with_key keys l k) ≡ prefix_at guide l keys
prefix_same guide l keys k h = ap (map (with_key keys l k)) (before_same l (levels_of guide) h) ∙ map_before keys l k (levels_of guide)

pub prefix_more : (guide : Guide) (l : ℕ) (keys : Keys) (k : ℕ) → IsRising (levels_of guide) → has_key (levels_of guide) l ≡ true → prefix_at guide (l + 1) (with_key keys l k) ≡ prefix_at guide l keys ++ k ∷ []
prefix_more guide l keys k up h =
    ap (map (with_key keys l k)) (before_more l (levels_of guide) up h) ∙ map_append (with_key keys l k) (before l (levels_of guide)) (l ∷ [])
    ∙ (let last : with_key keys l k l ≡ k = rw (eq-eqb l l refl) refl in rw (map_before keys l k (levels_of guide), last) refl)

-- ---- the iterators below the key

pub TrieOf-same : (state : State) (l : ℕ) (keys : Keys) (guide : Guide) (t : TrieView) (k : ℕ) → has_key (levels_of guide) l ≡ false → IsTrieOf state l keys guide t → IsTrieOf state (l + 1) (with_key keys l k) guide t
TrieOf-same state l keys guide t k h is =
    let e = prefix_same guide l keys k h in
    record { over = is.over; path = is.path ∙ sym e; level = is.level ∙ ap length (sym e); at_key = is.at_key; met = is.met }

pub long_more : {X : Type 0} (xs : List X) (x : X) → length (xs ++ x ∷ []) ≡ length xs + 1
long_more [] x = refl
long_more (y ∷ xs) x = let e = long_more xs x in omega arith

pub TrieOf-deeper : (state : State) (l : ℕ) (keys : Keys) (guide : Guide) (t : TrieView) (k : ℕ) → IsRising (levels_of guide) → has_key (levels_of guide) l ≡ true → k ≢ end_key → t.here ≡ k → IsIn k (keys_under (prefix_at guide l keys) t.rows) → IsOpenedOf state l keys guide t
    → IsTrieOf state (l + 1) (with_key keys l k) guide t
TrieOf-deeper state l keys guide t k up h goes here there is =
    let e = prefix_more guide l keys k up h in
    let deep : (t.level == 0) ≡ false = ne_eqb t.level 0 (λ z. let v = is.level in omega arith) in
    let path : path_of t ≡ prefix_at guide l keys ++ k ∷ [] = rw (deep, is.prefix, here) refl in
    record {
      over = is.over;
      path = path ∙ sym e;
      level = is.level ∙ (let n = long_more (prefix_at guide l keys) k in sym (ap length e ∙ n));
      at_key = λ lt f. goes (sym here ∙ f);
      met = λ lt.
          let f = IsIn-keys_under_from (prefix_at guide l keys) t.rows k there in
          let s = row_split (prefix_at guide l keys) f.0 k f.2 in
          (f.0, f.1, s.0, s.1 ∙ ap (λ p. p ++ s.0) (sym path));
    }
