-- A gap of an iterator's move is tight.
use Rattle.std.specs.Prelude.{◌≡◌, ℕ, ◌<◌, ◌≤◌, true, false, ◌==◌, nat_lt, nat_le, List, [], ◌∷◌, Some, None}
use Rattle.std.specs.List.{filter_map}
use Rattle.std.proofs.Common.{refl, ap, ◌∙◌, subst, inl, inr, cond}
use Rattle.std.proofs.lemmas.Bool.{and_parts, or_cases, eqb-true, leb-true, ltb-true, cases_Bool}
use Rattle.lt_query.specs.declared.plans.Guide.{Guide}
use Rattle.lt_face.specs.Lists.{IsIn}
use Rattle.lt_face.specs.State.{Row, State, rows_in}
use Rattle.lt_face.specs.State.{Has, permuted}
use Rattle.lt_sense.specs.Sense.{lies_in}
use Rattle.lt_query.specs.Plan.{Keys}
use Rattle.lt_join.specs.Explored.{prefix_at}
use Rattle.lt_leap.specs.Common.{has_key}
use Rattle.lt_join.specs.Cost.{distinct, iterator_keys}
use Rattle.lt_trie.specs.Under.{next_cell}
use Rattle.lt_face.proofs.Membership.{IsIn-filter_map}

-- cells in a gap go on with a key of it
pub next_in : (prefix : Row) (lo hi : ℕ) (cells : Row) → lies_in prefix lo hi cells ≡ true → (y : ℕ) × (next_cell prefix cells ≡ Some y) × (lo ≤ y) × (y < hi)
next_in prefix lo hi [] h = cc
next_in [] lo hi (x ∷ xs) h = let both = and_parts (nat_le lo x) (nat_lt x hi) h in (x, refl, leb-true lo x both.0, ltb-true x hi both.1)
next_in (p ∷ ps) lo hi (x ∷ xs) h =
    let both = and_parts (p == x) (lies_in ps lo hi xs) h in
    let rest = next_in ps lo hi xs both.1 in
    (rest.0, ap (λ b. cond b (next_cell ps xs) None) both.0 ∙ rest.1, rest.2, rest.3)

pub has_key-true : (xs : List ℕ) (x : ℕ) → has_key xs x ≡ true → IsIn x xs
has_key-true [] x h = cc
has_key-true (y ∷ xs) x h = elim (or_cases (y == x) (has_key xs x) h) [ inl e ↦ inl (eqb-true y x e) | inr r ↦ inr (has_key-true xs x r) ]

pub IsIn-distinct : (x : ℕ) (xs : List ℕ) → IsIn x xs → IsIn x (distinct xs)
IsIn-distinct x [] h = h
IsIn-distinct x (y ∷ xs) h =
    elim (has_key xs y) as (λ b. has_key xs y ≡ b → IsIn x (cond b (distinct xs) (y ∷ distinct xs))) [
      | true ↦ λ again. elim h [ inl e ↦ IsIn-distinct x xs (subst (λ z. IsIn z xs) e (has_key-true xs y again)) | inr r ↦ IsIn-distinct x xs r ]
      | false ↦ λ once. elim h [ inl e ↦ inl e | inr r ↦ inr (IsIn-distinct x xs r) ]
    ] refl

-- where no key of the atom's iterator lies in the gap, no row of the state does
pub tight_gap : (state : State) (l : ℕ) (keys : Keys) (guide : Guide) (lo hi : ℕ) → ((y : ℕ) → lo ≤ y → y < hi → IsIn y (iterator_keys state l keys guide) → ⊥) → (row : Row) → Has state guide.relation row → lies_in (prefix_at guide l keys) lo hi (permuted guide.columns row) ≡ false
tight_gap state l keys guide lo hi empty row there =
    elim (cases_Bool (lies_in (prefix_at guide l keys) lo hi (permuted guide.columns row))) [
      | inl inside ↦
          let next = next_in (prefix_at guide l keys) lo hi (permuted guide.columns row) inside in
          absurd (empty next.0 next.2 next.3 (IsIn-distinct next.0 (filter_map (λ row. next_cell (prefix_at guide l keys) (permuted guide.columns row)) (rows_in state guide.relation)) (IsIn-filter_map (λ row. next_cell (prefix_at guide l keys) (permuted guide.columns row)) row next.0 (rows_in state guide.relation) there next.1)))
      | inr e ↦ e
    ]
