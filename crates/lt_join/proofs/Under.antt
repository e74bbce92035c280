-- The keys of a trie over an atom's index are the keys that the count speaks of.
use Rattle.std.specs.Prelude.{◌≡◌, ◌≢◌, ℕ, ◌+◌, ◌<◌, ◌≤◌, true, false, ◌==◌, List, [], ◌∷◌, ◌++◌, length, Option, Some, None}
use Rattle.std.specs.List.{AllByRecursion, filter_map}
use Rattle.std.proofs.Common.{refl, sym, ap, ◌∙◌, inl, inr, cond, arith}
use Rattle.std.proofs.lemmas.Bool.{or_left, or_right, eqb-true, eq-eqb, true≢false}
use Rattle.lt_face.specs.Keys.{IsKeyList}
use Rattle.lt_face.specs.Lists.{IsIn}
use Rattle.lt_face.specs.State.{Row, State, rows_in, permuted}
use Rattle.lt_face.proofs.Membership.{IsIn-filter_map, IsIn-filter_map_from}
use Rattle.lt_trie.specs.Trie.{TrieView}
use Rattle.lt_trie.specs.Under.{next_cell, keys_under, add_key, add_cell}
use Rattle.lt_query.specs.declared.plans.Guide.{Guide}
use Rattle.lt_query.specs.Plan.{Keys}
use Rattle.lt_join.specs.Explored.{prefix_at}
use Rattle.lt_leap.specs.Common.{has_key}
use Rattle.lt_join.specs.Cost.{distinct, iterator_keys}
use Rattle.lt_join.specs.Holders.{IsOver}
use Rattle.lt_join.proofs.Gaps.{IsIn-distinct}

pub has_key-of : (x : ℕ) (xs : List ℕ) → IsIn x xs → has_key xs x ≡ true
has_key-of x [] h = absurd h
has_key-of x (y ∷ xs) h = elim h [ inl e ↦ or_left (y == x) (has_key xs x) (eq-eqb y x e) | inr r ↦ or_right (y == x) (has_key xs x) (has_key-of x xs r) ]

IsIn-add_key : (k y : ℕ) (ks : List ℕ) → IsIn y (k ∷ ks) → IsIn y (add_key k ks)
IsIn-add_key k y [] h = h
IsIn-add_key k y (l ∷ ks) h =
    elim (k == l) as (λ b. (k == l) ≡ b → IsIn y (cond b (l ∷ ks) (k ∷ (l ∷ ks)))) [
      | true ↦ λ e. elim h [ inl s ↦ inl (sym (eqb-true k l e) ∙ s) | inr r ↦ r ]
      | false ↦ λ e. h
    ] refl

IsIn-add_key_from : (k y : ℕ) (ks : List ℕ) → IsIn y (add_key k ks) → IsIn y (k ∷ ks)
IsIn-add_key_from k y [] h = h
IsIn-add_key_from k y (l ∷ ks) h =
    elim (k == l) as (λ b. IsIn y (cond b (l ∷ ks) (k ∷ (l ∷ ks))) → IsIn y (k ∷ (l ∷ ks))) [ true ↦ λ t. inr t | false ↦ λ t. t ] h

-- a row under the prefix gives its next cell
pub IsIn-keys_under : (p : Row) (rows : List Row) (r : Row) (y : ℕ) → IsIn r rows → next_cell p r ≡ Some y → IsIn y (keys_under p rows)
IsIn-keys_under p [] r y h e = absurd h
IsIn-keys_under p (s ∷ rows) r y h e =
    elim h [
      | inl same ↦ rw (ap (next_cell p) same ∙ e) (IsIn-add_key y y (keys_under p rows) (inl refl))
      | inr there ↦ later (next_cell p s) (IsIn-keys_under p rows r y there e)
    ]
  where
    later : (o : Option ℕ) → IsIn y (keys_under p rows) → IsIn y (add_cell o (keys_under p rows))
    later None k = k
    later (Some c) k = IsIn-add_key c y (keys_under p rows) (inr k)

pub IsIn-keys_under_from : (p : Row) (rows : List Row) (y : ℕ) → IsIn y (keys_under p rows) → (r : Row) × IsIn r rows × (next_cell p r ≡ Some y)
IsIn-keys_under_from p [] y h = absurd h
IsIn-keys_under_from p (s ∷ rows) y h =
    elim (next_cell p s) as (λ o. next_cell p s ≡ o → IsIn y (add_cell o (keys_under p rows)) → (r : Row) × IsIn r (s ∷ rows) × (next_cell p r ≡ Some y)) [
      | None ↦ λ e k. let f = IsIn-keys_under_from p rows y k in (f.0, inr f.1, f.2)
      | Some c ↦ λ e k. elim (IsIn-add_key_from c y (keys_under p rows) k) [
        | inl same ↦ (s, inl refl, e ∙ ap Some same)
        | inr r ↦ (let f = IsIn-keys_under_from p rows y r in (f.0, inr f.1, f.2))
      ]
    ] refl h

IsIn-distinct_from : (x : ℕ) (xs : List ℕ) → IsIn x (distinct xs) → IsIn x xs
IsIn-distinct_from x [] h = h
IsIn-distinct_from x (y ∷ xs) h =
    elim (has_key xs y) as (λ b. IsIn x (cond b (distinct xs) (y ∷ distinct xs)) → IsIn x (y ∷ xs)) [
      | true ↦ λ k. inr (IsIn-distinct_from x xs k)
      | false ↦ λ k. elim k [ inl e ↦ inl e | inr r ↦ inr (IsIn-distinct_from x xs r) ]
    ] h

-- ---- the two lists of keys have the same members

module _ (state : State) (guide : Guide) (t : TrieView) (over : IsOver state guide t) (l : ℕ) (keys : Keys) where
  abbrev cell_at : Row → Option ℕ
  cell_at row = next_cell (prefix_at guide l keys) (permuted guide.columns row)

  pub key_of_iterator : (y : ℕ) → IsIn y (iterator_keys state l keys guide) → IsIn y (keys_under (prefix_at guide l keys) t.rows)
  key_of_iterator y h =
      let f = IsIn-filter_map_from cell_at y (rows_in state guide.relation) (IsIn-distinct_from y (filter_map cell_at (rows_in state guide.relation)) h) in
      IsIn-keys_under (prefix_at guide l keys) t.rows (permuted guide.columns f.0) y (over.index.there f.0 f.1) f.2

  pub iterator_of_key : (y : ℕ) → IsIn y (keys_under (prefix_at guide l keys) t.rows) → IsIn y (iterator_keys state l keys guide)
  iterator_of_key y h =
      let f = IsIn-keys_under_from (prefix_at guide l keys) t.rows y h in
      let g = over.index.from f.0 f.1 in
      IsIn-distinct y (filter_map cell_at (rows_in state guide.relation))
      (IsIn-filter_map cell_at g.0 y (rows_in state guide.relation) g.1 (ap (next_cell (prefix_at guide l keys)) g.2 ∙ f.2))

-- ---- a list of keys is no longer than one with all its members

abbrev but_one : ℕ → List ℕ → List ℕ
but_one k [] = []
but_one k (x ∷ xs) = cond (x == k) xs (x ∷ but_one k xs)

length-but_one : (k : ℕ) (xs : List ℕ) → IsIn k xs → length xs ≡ length (but_one k xs) + 1
length-but_one k [] h = absurd h
length-but_one k (x ∷ xs) h =
    elim (x == k) as (λ b. (x == k) ≡ b → length (x ∷ xs) ≡ length (cond b xs (x ∷ but_one k xs)) + 1) [
      | true ↦ λ e. omega arith
      | false ↦ λ e. elim h [
        | inl s ↦ absurd (true≢false (sym (eq-eqb x k s) ∙ e))
        | inr r ↦ (let n = length-but_one k xs r in omega arith)
      ]
    ] refl

IsIn-but_one : (k y : ℕ) (xs : List ℕ) → IsIn y xs → y ≢ k → IsIn y (but_one k xs)
IsIn-but_one k y [] h ne = absurd h
IsIn-but_one k y (x ∷ xs) h ne =
    elim (x == k) as (λ b. (x == k) ≡ b → IsIn y (cond b xs (x ∷ but_one k xs))) [
      | true ↦ λ e. elim h [ inl s ↦ absurd (ne (sym s ∙ eqb-true x k e)) | inr r ↦ r ]
      | false ↦ λ e. elim h [ inl s ↦ inl s | inr r ↦ inr (IsIn-but_one k y xs r ne) ]
    ] refl

above_first : (k y : ℕ) (ks : List ℕ) → AllByRecursion (λ l. k < l) ks → IsIn y ks → k < y
above_first k y [] all h = absurd h
above_first k y (l ∷ ks) all h = elim h [ inl e ↦ (let up = all.0 in omega arith) | inr r ↦ above_first k y ks all.1 r ]

pub no_longer : (ks xs : List ℕ) → IsKeyList ks → ((y : ℕ) → IsIn y ks → IsIn y xs) → length ks ≤ length xs
no_longer [] xs up within = omega arith
no_longer (k ∷ ks) xs up within =
    let there = within k (inl refl) in
    let rest = no_longer ks (but_one k xs) up.2 (λ y h. IsIn-but_one k y xs (within y (inr h)) (λ e. let a = above_first k y ks up.1 h in omega arith)) in
    let n = length-but_one k xs there in
    omega arith

-- ---- rows under a prefix

pub row_split : (p r : Row) (y : ℕ) → next_cell p r ≡ Some y → (rest : Row) × (r ≡ (p ++ y ∷ []) ++ rest)
row_split [] [] y e = cc
row_split [] (c ∷ cs) y e = (cs, let same : c ≡ y = cc in ap (λ k. k ∷ cs) same)
row_split (p ∷ ps) [] y e = cc
row_split (p ∷ ps) (c ∷ cs) y e =
    elim (p == c) as (λ b. (p == c) ≡ b → cond b (next_cell ps cs) None ≡ Some y → (rest : Row) × (c ∷ cs ≡ ((p ∷ ps) ++ y ∷ []) ++ rest)) [
      | true ↦ λ same h. (let f = row_split ps cs y h in (f.0, (let q : p ≡ c = eqb-true p c same in let g = f.1 in cc)))
      | false ↦ λ differs h. cc
    ] refl e
