-- The iterators at their roots.
use Rattle.std.specs.Prelude.{◌≡◌, ℕ, ◌≤◌, List, [], ◌∷◌, nat_lt}
use Rattle.std.proofs.Common.{refl, inl, inr, arith}
use Rattle.std.proofs.lemmas.Bool.{cases_Bool, ltb-true}
use Rattle.lt_face.specs.Rows.{IsRowSet}
use Rattle.lt_face.specs.State.{State, IsIndexOf}
use Rattle.lt_trie.specs.Trie.{TrieView}
use Rattle.lt_query.specs.declared.plans.Guide.{Guide}
use Rattle.lt_query.specs.Plan.{Keys, levels_of}
use Rattle.lt_join.specs.Explored.{before}
use Rattle.lt_join.specs.Holders.{IsTrieOf}

before_none : (ms : List ℕ) → before 0 ms ≡ []
before_none [] = refl
before_none (m ∷ ms) =
    elim (cases_Bool (nat_lt m 0)) [
      | inl t ↦ (let u = ltb-true m 0 t in absurd (omega arith))
      | inr f ↦ rw f refl
    ]

pub TrieOf-root : (state : State) (keys : Keys) (guide : Guide) (t : TrieView) → IsIndexOf state guide.relation guide.columns t.width t.rows → IsRowSet t.width t.rows → t.width ≤ 8 → t.level ≡ 0 → IsTrieOf state 0 keys guide t
TrieOf-root state keys guide t index is_set narrow root = record {
  over = record { index = index; is_set = is_set; narrow = narrow };
  path = rw (root, before_none (levels_of guide)) refl;
  level = rw (before_none (levels_of guide)) root;
  at_key = λ lt. absurd (omega arith);
  met = λ lt. absurd (omega arith);
}
