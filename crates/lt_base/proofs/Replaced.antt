-- A database with one more index of a relation.
use Rattle.std.specs.Prelude.{◌≡◌, ℕ, zero, suc, ◌<◌, Bool, true, false, ◌||◌, ◌&&◌, ◌==◌, List, [], ◌∷◌, ◌++◌, length, map, Some, slice_get, option_map}
use Rattle.std.specs.List.{list_any}
use Rattle.std.proofs.Common.{refl, sym, ap, ◌∙◌, subst, inl, inr, arith, get_or, set}
use Rattle.std.proofs.lemmas.Bool.{eqb-true, eq-eqb, ne_eqb, and_parts}
use Rattle.std.proofs.lemmas.Bool.Decides.{eqb_tells}
use Rattle.lt_face.specs.State.{Relation, row_eq}
use Rattle.lt_model.specs.Fits.{IsWide}
use Rattle.lt_delta.specs.Columns.{numbers}
use Rattle.lt_base.specs.Tables.{Table, relation_of, state_of, has_columns, has_index}
use Rattle.lt_base.proofs.Grown.{map_at}
use Rattle.lt_base.proofs.OwnOrder.{row_eq-true}
use Rattle.lt_base.proofs.States.{at_state}

or_false : (b : Bool) → (b || false) ≡ b
or_false true = refl
or_false false = refl

or_assoc : (a b c : Bool) → (a || (b || c)) ≡ ((a || b) || c)
or_assoc true b c = refl
or_assoc false b c = refl

suc_eq : (r n : ℕ) → (suc r == suc n) ≡ (r == n)
suc_eq r n = elim (eqb_tells r n) [
  | inl h ↦ eq-eqb (suc r) (suc n) (ap suc h.1) ∙ sym h.0
  | inr h ↦ ne_eqb (suc r) (suc n) (λ e. h.1 (omega (arith, e))) ∙ sym h.0
]

-- an index that is there already is there once more
pub already : (tables : List Table) (relation : ℕ) (perm : List ℕ) → has_index tables relation perm ≡ true → (r : ℕ) (columns : List ℕ) → has_index tables r columns ≡ (has_index tables r columns || (r == relation && row_eq columns perm))
already tables relation perm there r columns = go (r == relation && row_eq columns perm) refl
  where
    go : (b : Bool) → (r == relation && row_eq columns perm) ≡ b → has_index tables r columns ≡ (has_index tables r columns || b)
    go false e = sym (or_false (has_index tables r columns))
    go true e =
        let both = and_parts (r == relation) (row_eq columns perm) e in
        let same : has_index tables r columns ≡ true = ap (λ n. has_index tables n columns) (eqb-true r relation both.0) ∙ ap (has_index tables relation) (row_eq-true columns perm both.1) ∙ there in
        rw same refl

long : {X : Type 0} (f : X → Table) (xs : List X) → length (state_of (map f xs)) ≡ length xs
long f [] = refl
long f (x ∷ xs) = let e = long f xs in omega arith

pub place_in : {X : Type 0} (f : X → Table) (xs : List X) (tables : List Table) (n : ℕ) → map f xs ≡ tables → n < length (state_of tables) → n < length xs
place_in f xs tables n are lt = subst (λ k. n < k) (ap (λ (l : List Table). length (state_of l)) (sym are) ∙ long f xs) lt

pub wide_at : {X : Type 0} (f : X → Table) (xs : List X) (tables : List Table) (n : ℕ) (x : X) → map f xs ≡ tables → n < length (state_of tables) → x ≡ get_or xs n x → IsWide (state_of tables) n (f x).width
wide_at f xs tables n x are lt is =
    let here : Some (f x) ≡ slice_get tables n = sym (map_at f xs n x (place_in f xs tables n are lt) is) ∙ ap (λ (l : List Table). slice_get l n) are in
    ap (option_map (λ (r : Relation). r.width)) (at_state tables n (f x) here)

-- the relation in place of one with the same rows
pub same_state : {X : Type 0} (f : X → Table) (xs : List X) (n : ℕ) (x y : X) → x ≡ get_or xs n x → relation_of (f y) ≡ relation_of (f x) → state_of (map f (set xs n y)) ≡ state_of (map f xs)
same_state f [] n x y is one = refl
same_state f (z ∷ xs) zero x y is one = ap (λ (r : Relation). r ∷ state_of (map f xs)) (one ∙ ap (λ w. relation_of (f w)) is)
same_state f (z ∷ xs) (suc n) x y is one = ap (λ (s : List Relation). relation_of (f z) ∷ s) (same_state f xs n x y is one)

any_end : (columns : List ℕ) (others : List (List ℕ)) (perm : List ℕ) → list_any (row_eq columns) (others ++ perm ∷ []) ≡ (list_any (row_eq columns) others || row_eq columns perm)
any_end columns [] perm = or_false (row_eq columns perm)
any_end columns (o ∷ others) perm = ap (λ b. row_eq columns o || b) (any_end columns others perm) ∙ or_assoc (row_eq columns o) (list_any (row_eq columns) others) (row_eq columns perm)

has_more : (t u : Table) (perm columns : List ℕ) → u ≡ record { width = t.width; rows = t.rows; others = t.others ++ perm ∷ [] } → has_columns u columns ≡ (has_columns t columns || row_eq columns perm)
has_more t u perm columns e =
    ap (λ (w : Table). has_columns w columns) e
    ∙ ap (λ b. row_eq columns (numbers 0 t.width) || b) (any_end columns t.others perm)
    ∙ or_assoc (row_eq columns (numbers 0 t.width)) (list_any (row_eq columns) t.others) (row_eq columns perm)

-- a relation with an index that it has already, or with one more
pub with_used : (t u : Table) (perm : List ℕ) → (has_columns t perm ≡ true → u ≡ t) → (has_columns t perm ≡ false → u ≡ record { width = t.width; rows = t.rows; others = t.others ++ perm ∷ [] })
    → (relation_of u ≡ relation_of t) × ((columns : List ℕ) → has_columns u columns ≡ (has_columns t columns || row_eq columns perm))
with_used t u perm same more = go (has_columns t perm) refl
  where
    go : (b : Bool) → has_columns t perm ≡ b → (relation_of u ≡ relation_of t) × ((columns : List ℕ) → has_columns u columns ≡ (has_columns t columns || row_eq columns perm))
    go true e = (ap relation_of (same e), λ columns. ap (λ (w : Table). has_columns w columns) (same e) ∙ already (t ∷ []) 0 perm e 0 columns)
    go false e = (ap relation_of (more e), λ columns. has_more t u perm columns (more e))

pub more_indexes : {X : Type 0} (f : X → Table) (xs : List X) (n : ℕ) (x y : X) (perm : List ℕ) → n < length xs → x ≡ get_or xs n x → ((columns : List ℕ) → has_columns (f y) columns ≡ (has_columns (f x) columns || row_eq columns perm))
    → (r : ℕ) (columns : List ℕ) → has_index (map f (set xs n y)) r columns ≡ (has_index (map f xs) r columns || (r == n && row_eq columns perm))
more_indexes f [] n x y perm lt is one r columns = absurd (omega arith)
more_indexes f (z ∷ xs) zero x y perm lt is one zero columns =
    one columns
    ∙ ap (λ w. has_columns (f w) columns || row_eq columns perm) is
    ∙ ap (λ b. has_columns (f z) columns || (b && row_eq columns perm)) (sym (eq-eqb 0 0 refl))
more_indexes f (z ∷ xs) zero x y perm lt is one (suc r) columns =
    sym (or_false (has_index (map f xs) r columns))
    ∙ ap (λ b. has_index (map f xs) r columns || (b && row_eq columns perm)) (sym (ne_eqb (suc r) 0 (λ e. absurd (omega (arith, e)))))
more_indexes f (z ∷ xs) (suc n) x y perm lt is one zero columns =
    sym (or_false (has_columns (f z) columns))
    ∙ ap (λ b. has_columns (f z) columns || (b && row_eq columns perm)) (sym (ne_eqb 0 (suc n) (λ e. absurd (omega (arith, e)))))
more_indexes f (z ∷ xs) (suc n) x y perm lt is one (suc r) columns =
    more_indexes f xs n x y perm (omega arith) is one r columns
    ∙ ap (λ b. has_index (map f xs) r columns || (b && row_eq columns perm)) (sym (suc_eq r n))
