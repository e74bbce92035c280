-- Moves at a level, whose gaps went to the sense.
use Rattle.std.specs.Prelude.{◌≡◌, ℕ, ◌+◌, ◌<◌, ◌≤◌, true, false, ◌==◌, List, [], ◌∷◌, ◌++◌, length}
use Rattle.std.specs.List.{AllByRecursion}
use Rattle.std.proofs.Common.{refl, sym, ap, ◌∙◌, subst, inl, inr, arith}
use Rattle.std.proofs.lemmas.Bool.{eqb-true, true≢false, cases_lt}
use Rattle.lt_face.specs.Keys.{IsKeyList, least_from}
use Rattle.lt_face.specs.Lists.{IsIn, AnyByRecursion}
use Rattle.lt_face.specs.State.{Row, State, Has, permuted}
use Rattle.lt_face.specs.declared.key.Gap.{Gap}
use Rattle.lt_face.proofs.Membership.{IsIn-append_left, IsIn-append_right, IsIn-append_cases}
use Rattle.lt_trie.specs.Trie.{TrieView, keys_of}
use Rattle.lt_trie.specs.Under.{keys_under}
use Rattle.lt_trie.proofs.Cells.{keys_rise}
use Rattle.lt_query.specs.declared.plans.Guide.{Guide}
use Rattle.lt_query.specs.declared.plans.Plan.{Plan}
use Rattle.lt_query.specs.Plan.{Keys, levels_of}
use Rattle.lt_query.specs.Holding.{holds_level}
use Rattle.lt_sense.specs.declared.covering.KeptGap.{KeptGap}
use Rattle.lt_sense.specs.Kept.{Sense}
use Rattle.lt_sense.specs.Sense.{IsTight, lies_in}
use Rattle.lt_leap.specs.Common.{has_key}
use Rattle.lt_leap.proofs.Exact.{none_between}
use Rattle.lt_join.specs.AtomIter.{AtomView, atom_keys, atom_still}
use Rattle.lt_join.specs.Explored.{IsPassed, prefix_at}
use Rattle.lt_join.specs.Holders.{IsOpenedOf, IsWalkable}
use Rattle.lt_join.specs.Level.{AreSensed}
use Rattle.lt_join.specs.Told.{TakesGap, gap_of}
use Rattle.lt_join.specs.Walked.{at, Grows}
use Rattle.lt_join.proofs.Gaps.{tight_gap, has_key-true}
use Rattle.lt_join.proofs.KnownLists.{holds_same}
use Rattle.lt_join.proofs.Under.{has_key-of, key_of_iterator}

-- ---- one move after another

pub grows_then : (s t u : Sense) → Grows s t → Grows t u → Grows s u
grows_then s t u first next = record { gaps = λ gap h. next.gaps gap (first.gaps gap h); hits = λ hit h. next.hits hit (first.hits hit h) }

pub still_passed : (s t : Sense) → Grows s t → (l : ℕ) (keys : Keys) (k : ℕ) (guides : List Guide) → AnyByRecursion (IsPassed s l keys k) guides → AnyByRecursion (IsPassed t l keys k) guides
still_passed s t grows l keys k [] h = h
still_passed s t grows l keys k (guide ∷ guides) h =
    elim h [
      | inl p ↦ inl (record { gap = p.gap; kept = grows.gaps p.gap p.kept; relation = p.relation; columns = p.columns; prefix = p.prefix; at = p.at; from = p.from; below = p.below })
      | inr r ↦ inr (still_passed s t grows l keys k guides r)
    ]

-- no move was made
pub AreSensed-none : (plan : Plan) (state : State) (keys : List ℕ) (s : Sense) (from to begun : ℕ) → to ≤ from → IsTight s state → AreSensed plan state keys s s from to begun begun
AreSensed-none plan state keys s from to begun none tight = record {
  grows = record { gaps = λ gap h. h; hits = λ hit h. h };
  tight = tight;
  passed = λ k above below. absurd (omega (arith, none, above, below));
  under = λ gap h. inl h;
  few = omega arith;
  hits = refl;
  rises = omega arith;
}

-- moves from where others led, or from below it
pub AreSensed-chain : (plan : Plan) (state : State) (keys : List ℕ) (s t u : Sense) (from to start stop begun mid now : ℕ) → AreSensed plan state keys s t from to begun mid → AreSensed plan state keys t u start stop mid now → start ≤ to → AreSensed plan state keys s u from stop begun now
AreSensed-chain plan state keys s t u from to start stop begun mid now first next seam = record {
  grows = grows_then s t u first.grows next.grows;
  tight = next.tight;
  passed = λ k above below. elim (cases_lt k to) [
    | inl before ↦ still_passed t u next.grows (length keys) (at keys) k plan.guides (first.passed k above before)
    | inr behind ↦ next.passed k (omega (arith, seam, behind)) below
  ];
  under = λ gap there. elim (next.under gap there) [ inl before ↦ first.under gap before | inr new ↦ inr new ];
  few = (let a = first.few in let b = next.few in omega (arith, a, b));
  hits = next.hits ∙ first.hits;
  rises = (let a = first.rises in let b = next.rises in omega (arith, a, b));
}

-- fewer numbers, and more time
pub AreSensed-within : (plan : Plan) (state : State) (keys : List ℕ) (s t : Sense) (from to start stop begun now later : ℕ) → AreSensed plan state keys s t from to begun now → ((k : ℕ) → start ≤ k → k < stop → (from ≤ k) × (k < to)) → now ≤ later → AreSensed plan state keys s t start stop begun later
AreSensed-within plan state keys s t from to start stop begun now later h inside more = record {
  grows = h.grows;
  tight = h.tight;
  passed = λ k above below. (let both = inside k above below in h.passed k both.0 both.1);
  under = h.under;
  few = (let a = h.few in omega (arith, a, more));
  hits = h.hits;
  rises = (let a = h.rises in omega (arith, a, more));
}

-- ---- one move

any_of : {X : Type 0} (P : X → Type 0) (x : X) (xs : List X) → IsIn x xs → P x → AnyByRecursion P xs
any_of P x [] h p = absurd h
any_of P x (y ∷ xs) h p = elim h [ inl e ↦ inl (subst P (sym e) p) | inr r ↦ inr (any_of P x xs r p) ]

all_push : {X : Type 0} (P : X → Type 0) (xs : List X) (x : X) → AllByRecursion P xs → P x → AllByRecursion P (xs ++ x ∷ [])
all_push P [] x h p = (p, tt)
all_push P (y ∷ xs) x h p = (h.0, all_push P xs x h.1 p)

length_push : {X : Type 0} (xs : List X) (x : X) → length (xs ++ x ∷ []) ≡ length xs + 1
length_push [] x = refl
length_push (y ∷ xs) x = let e = length_push xs x in omega (arith, e)

-- the keys of an iterator that was opened
pub opened_keys : (state : State) (l : ℕ) (keys : Keys) (guide : Guide) (t : TrieView) → IsOpenedOf state l keys guide t → keys_of t ≡ keys_under (prefix_at guide l keys) t.rows
opened_keys state l keys guide t is =
    elim (t.level == 0) as (λ b. (t.level == 0) ≡ b → keys_of t ≡ keys_under (prefix_at guide l keys) t.rows) [
      | true ↦ λ e. (let z = eqb-true t.level 0 e in let lv = is.level in absurd (omega (arith, z, lv)))
      | false ↦ λ e. rw e (ap (λ p. keys_under p t.rows) is.prefix)
    ] refl

-- the iterator of an atom that holds the level below the keys, opened there
pub record IsOpenAt (plan : Plan) (state : State) (keys : List ℕ) (atom : AtomView) : Type 0 where
  pub in_plan : IsIn atom.guide plan.guides
  pub holds : has_key (levels_of atom.guide) (length keys) ≡ true
  pub is_opened : IsOpenedOf state (length keys) (at keys) atom.guide atom.trie

-- its keys ascend
pub open_keys : (plan : Plan) (state : State) (keys : List ℕ) (atom : AtomView) → IsOpenAt plan state keys atom → IsKeyList (atom_keys atom)
open_keys plan state keys atom holder =
    let is = holder.is_opened in
    subst IsKeyList (sym (opened_keys state (length keys) (at keys) atom.guide atom.trie is))
    (keys_rise (prefix_at atom.guide (length keys) (at keys)) atom.trie.rows atom.trie.width is.over.is_set.rises is.over.is_set.each)

-- An atom's iterator that was opened at the level passed a gap without a key of its, and the sense took it.
pub AreSensed-one : (plan : Plan) (state : State) (keys : List ℕ) (atom : AtomView) (gap : Gap) (place : ℕ) (old new : Sense) (begun : ℕ) → IsOpenAt plan state keys atom
    → ((y : ℕ) → gap.lo ≤ y → y < gap.hi → has_key (atom_keys atom) y ≡ false) → TakesGap old place (atom_still atom) gap new → IsTight old state → AreSensed plan state keys old new gap.lo gap.hi begun (begun + 1)
AreSensed-one plan state keys atom gap place old new begun holder free takes tight =
    let guide = atom.guide in
    let is = holder.is_opened in
    elim (cases_lt gap.lo gap.hi) [
      | inl some ↦
          let kept = takes.kept some in
          let one = gap_of atom gap in
          let prefix : one.prefix ≡ prefix_at guide (length keys) (at keys) = is.prefix in
          let there : IsIn one new.gaps = subst (IsIn one) (sym kept) (IsIn-append_right one old.gaps (one ∷ []) (inl refl)) in
          let empty : (row : Row) → Has state guide.relation row → lies_in (prefix_at guide (length keys) (at keys)) gap.lo gap.hi (permuted guide.columns row) ≡ false =
          tight_gap state (length keys) (at keys) guide gap.lo gap.hi
          (λ y above below h. true≢false (sym (has_key-of y _ (subst (IsIn y) (sym (opened_keys state (length keys) (at keys) guide atom.trie is)) (key_of_iterator state guide atom.trie is.over (length keys) (at keys) y h))) ∙ free y above below)) in
          let is_empty : (row : Row) → Has state one.relation row → lies_in one.prefix one.lo one.hi (permuted one.columns row) ≡ false = λ row has. ap (λ p. lies_in p gap.lo gap.hi (permuted guide.columns row)) prefix ∙ empty row has in
          record {
            grows = record { gaps = λ g h. subst (IsIn g) (sym kept) (IsIn-append_left g old.gaps (one ∷ []) h); hits = λ g h. subst (IsIn g) (sym takes.hits) h };
            tight = record {
              gaps = subst (AllByRecursion (λ (g : KeptGap). (row : Row) → Has state g.relation row → lies_in g.prefix g.lo g.hi (permuted g.columns row) ≡ false)) (sym kept)
                  (all_push (λ (g : KeptGap). (row : Row) → Has state g.relation row → lies_in g.prefix g.lo g.hi (permuted g.columns row) ≡ false) old.gaps one tight.gaps is_empty);
              hits = rw (takes.hits) (tight.hits);
            };
            passed = λ k above below. any_of (IsPassed new (length keys) (at keys) k) guide plan.guides holder.in_plan
                (record { gap = one; kept = there; relation = refl; columns = refl; prefix = prefix; at = has_key-true (levels_of guide) (length keys) holder.holds; from = above; below = below });
            under = λ g h. elim (IsIn-append_cases g old.gaps (one ∷ []) (subst (IsIn g) kept h)) [
              | inl before ↦ inl before
              | inr last ↦ elim last [ inl same ↦ inr (guide, ap (λ (w : KeptGap). w.prefix) (sym same) ∙ prefix) | inr none ↦ absurd none ]
            ];
            few = (let e = ap length kept in let n = length_push old.gaps one in omega (arith, e, n));
            hits = takes.hits;
            rises = omega arith;
          }
      | inr none ↦
          let kept = takes.empty none in
          record {
            grows = record { gaps = λ g h. subst (IsIn g) (sym kept) h; hits = λ g h. subst (IsIn g) (sym takes.hits) h };
            tight = record { gaps = rw kept (tight.gaps); hits = rw (takes.hits) (tight.hits) };
            passed = λ k above below. absurd (omega (arith, none, above, below));
            under = λ g h. inl (subst (IsIn g) kept h);
            few = (let e = ap length kept in omega (arith, e));
            hits = takes.hits;
            rises = omega arith;
          }
    ]

-- it moved to its least key from the gap's bound on
pub AreSensed-move : (plan : Plan) (state : State) (keys : List ℕ) (atom : AtomView) (gap : Gap) (place : ℕ) (old new : Sense) (begun : ℕ) → IsOpenAt plan state keys atom
    → gap.hi ≡ least_from (atom_keys atom) gap.lo → TakesGap old place (atom_still atom) gap new → IsTight old state → AreSensed plan state keys old new gap.lo gap.hi begun (begun + 1)
AreSensed-move plan state keys atom gap place old new begun holder lands takes tight =
    AreSensed-one plan state keys atom gap place old new begun holder (λ y above below. none_between (atom_keys atom) gap.lo y (open_keys plan state keys atom holder) above (subst (λ k. y < k) lands below)) takes tight

-- ---- which atoms hold a level

-- a level where one of the columns is, is a level of the columns in their order
pub level_held : (guide : Guide) (l : ℕ) → IsWalkable guide → holds_level l guide ≡ true → has_key (levels_of guide) l ≡ true
level_held guide l walkable h = holds_same guide l walkable ∙ h
