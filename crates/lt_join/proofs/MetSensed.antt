-- What the gaps that a join told have made of the sense.
use Rattle.std.specs.Prelude.{◌≡◌, ℕ, ◌+◌, true, nat_le, nat_lt, List, [], ◌∷◌, map, length, slice_get, Some}
use Rattle.std.specs.List.{AllByRecursion, list_any}
use Rattle.std.proofs.Common.{sym, ap, ◌∙◌, subst, inl, inr, arith}
use Rattle.std.proofs.lemmas.Bool.{or_cases, and_parts, leb-true, ltb-true}
use Rattle.lt_face.specs.Lists.{IsIn, AnyByRecursion}
use Rattle.lt_face.specs.State.{State}
use Rattle.lt_face.specs.declared.key.Gap.{Gap}
use Rattle.lt_query.specs.declared.plans.Plan.{Plan}
use Rattle.lt_query.specs.Holding.{atoms_at_level}
use Rattle.lt_sense.specs.Kept.{Sense}
use Rattle.lt_sense.specs.Sense.{IsTight}
use Rattle.lt_leap.specs.Common.{has_key}
use Rattle.lt_leap.specs.Places.{Told, AreToldMoves}
use Rattle.lt_leap.specs.Search.{IsGapOf, lies_in}
use Rattle.lt_join.specs.AtomIter.{AtomView, atom_keys, atom_still}
use Rattle.lt_join.specs.Explored.{IsPassed}
use Rattle.lt_join.specs.Holders.{IsWalkable}
use Rattle.lt_join.specs.Level.{AreAtomsAt, AreOpened, AreSensed}
use Rattle.lt_join.specs.Told.{TakesGap}
use Rattle.lt_join.specs.Walked.{at}
use Rattle.lt_join.proofs.MetAtoms.{some_is, map_there, holder_of}
use Rattle.lt_join.proofs.Sensed.{AreSensed-none, AreSensed-one, AreSensed-chain, opened_keys, still_passed}

module _ (plan : Plan) (state : State) (keys : List ℕ) (walkable : AllByRecursion IsWalkable plan.guides) (above atoms : List AtomView)
    (is_above : AreAtomsAt plan state keys above) (are_opened : AreOpened (atoms_at_level plan.guides (length keys)) above atoms) where
  -- a gap that was told
  told_one : (old new : Sense) (begun : ℕ) (move : ℕ × Gap) (iter : AtomView) → IsIn move.0 (atoms_at_level plan.guides (length keys)) → IsGapOf (map atom_keys atoms) move → slice_get (map atom_still atoms) move.0 ≡ Some iter
      → TakesGap old move.0 iter move.1 new → IsTight old state → AreSensed plan state keys old new move.1.lo move.1.hi begun (begun + 1)
  told_one old new begun move iter there free at_iter takes tight =
      let h = holder_of plan state keys walkable above atoms is_above are_opened move.0 there in
      let same : atom_still h.atom ≡ iter = some_is (atom_still h.atom) iter (sym (map_there atom_still atoms move.0 h.atom h.there) ∙ at_iter) in
      AreSensed-one plan state keys h.atom move.1 move.0 old new begun h.is_open
      (λ y above below. ap (λ ks. has_key ks y) (opened_keys state (length keys) (at keys) h.atom.guide h.atom.trie h.is_open.is_opened ∙ sym h.keys_are) ∙ free.1 y above below)
      (subst (λ (w : AtomView). TakesGap old move.0 w move.1 new) (sym same) takes) tight

  pub record AreTold (old new : Sense) (begun now : ℕ) (moves : List (ℕ × Gap)) : Type 0 where
    pub sensed : AreSensed plan state keys old new 0 0 begun now
    pub each : (k : ℕ) → list_any (lies_in k) moves ≡ true → AnyByRecursion (IsPassed new (length keys) (at keys) k) plan.guides

  told_all : (old new : Sense) (begun now : ℕ) (moves : List (ℕ × Gap)) → now ≡ begun + length moves → IsTight old state → Told TakesGap (map atom_still atoms) old moves new
      → AllByRecursion (λ move. IsIn move.0 (atoms_at_level plan.guides (length keys)) × IsGapOf (map atom_keys atoms) move) moves → AreTold old new begun now moves
  told_all old new begun now [] counted tight told gaps =
      rw (told, (let e : now ≡ begun = omega arith in e)) (record { sensed = AreSensed-none plan state keys old 0 0 begun (omega arith) tight; each = λ k h. cc })
  told_all old new begun now (move ∷ moves) counted tight told gaps =
      let mid = told.2 in
      let one = told_one old mid begun move told.0 gaps.0.0 gaps.0.1 told.1 told.3 tight in
      let rest = told_all mid new (begun + 1) now moves (omega arith) one.tight told.4 gaps.1 in
      record {
        sensed = AreSensed-chain plan state keys old mid new 0 0 0 0 begun (begun + 1) now
            (record { grows = one.grows; tight = one.tight; passed = λ k le lt. absurd (omega arith); under = one.under; few = one.few; hits = one.hits; rises = one.rises }) rest.sensed (omega arith);
        each = λ k h. elim (or_cases (lies_in k move) (list_any (lies_in k) moves) h) [
          | inl here ↦
              let both = and_parts (nat_le move.1.lo k) (nat_lt k move.1.hi) here in
              still_passed mid new rest.sensed.grows (length keys) (at keys) k plan.guides (one.passed k (leb-true move.1.lo k both.0) (ltb-true k move.1.hi both.1))
          | inr later ↦ rest.each k later
        ];
      }

  -- moves whose gaps were told
  pub sensed_met : (from to : List ℕ) (old new : Sense) (start stop begun now : ℕ) → AreToldMoves TakesGap (map atom_still atoms) (map atom_keys atoms) (atoms_at_level plan.guides (length keys)) from to old new start stop begun now → IsTight old state
      → AreSensed plan state keys old new start stop begun now
  sensed_met from to old new start stop begun now made tight =
      let all = told_all old new begun now made.moves made.counted tight made.told made.gaps in
      let sensed = all.sensed in
      record {
        grows = sensed.grows;
        tight = sensed.tight;
        passed = λ k le lt. all.each k (made.covers k le lt);
        under = sensed.under;
        few = sensed.few;
        hits = sensed.hits;
        rises = sensed.rises;
      }
