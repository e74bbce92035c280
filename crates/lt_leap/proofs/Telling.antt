-- Moves whose gaps are told, one after another.
use Rattle.std.proofs.Common.{◌≡◌, ℕ, ◌+◌, ◌<◌, ◌≤◌, Bool, true, false, List, [], ◌∷◌, ◌++◌, length, set, Some, refl, subst, inl, inr, arith, slice_get, ◌||◌}
use Rattle.std.specs.List.{list_any}
use Rattle.std.proofs.lemmas.Bool.{cases_lt}
use Rattle.std.proofs.lemmas.Bool.Decides.{nat_tests}
use Rattle.std.proofs.lemmas.Grind.{common_steps}
use Rattle.lt_face.specs.declared.key.Gap.{Gap}
use Rattle.lt_face.specs.Lists.{IsIn}
use Rattle.lt_leap.specs.Moves.{IsMove}
use Rattle.lt_leap.specs.Places.{Told, AreToldMoves}
use Rattle.lt_leap.specs.Search.{lies_in, IsGapOf}
use Rattle.lt_leap.proofs.Gaps.{any_left, any_last, each_last}
use Rattle.lt_leap.proofs.Leading.{leads-more}

module _ {P I : Type 0} (takes : P → ℕ → I → Gap → P → Type 0) (iters : List I) where
  -- one more is told
  told-more : (old mid new : P) (moves : List (ℕ × Gap)) (move : ℕ × Gap) (iter : I) → Told takes iters old moves mid → slice_get iters move.0 ≡ Some iter → takes mid move.0 iter move.1 new
      → Told takes iters old (moves ++ move ∷ []) new
  told-more old mid new [] move iter told at one = (iter, at, new, subst (λ (p : P). takes p move.0 iter move.1 new) told one, refl)
  told-more old mid new (first ∷ moves) move iter told at one =
      (told.0, told.1, told.2, told.3, told-more told.2 mid new moves move iter told.4 at one)

  pub moves-none : (lists : List (List ℕ)) (places heres : List ℕ) (p : P) (start now : ℕ) → AreToldMoves takes iters lists places heres heres p p start start now now
  moves-none lists places heres p start now = record { moves = []; leads = refl; counted = omega arith; told = refl; gaps = tt; covers = λ k le lt. absurd (omega arith) }

  module _ (lists : List (List ℕ)) (places : List ℕ) (i : ℕ) (iter : I) (gap : Gap) (at : slice_get iters i ≡ Some iter) (here : IsIn i places) (none : IsGapOf lists (i, gap)) where
    -- a last move
    pub moves-more : (from to : List ℕ) (old mid new : P) (start stop begun now : ℕ) → AreToldMoves takes iters lists places from to old mid start stop begun now
        → IsMove lists to (i, gap) → gap.lo ≡ stop → takes mid i iter gap new → AreToldMoves takes iters lists places from (set to i gap.hi) old new start gap.hi begun (now + 1)
    moves-more from to old mid new start stop begun now made is lo one = record {
      moves = made.moves ++ (i, gap) ∷ [];
      leads = leads-more lists from to made.moves (i, gap) made.leads is;
      counted = (let counted = made.counted in let long : length (made.moves ++ (i, gap) ∷ []) ≡ length made.moves + 1 = grind (arith, common_steps) in omega arith);
      told = told-more old mid new made.moves (i, gap) iter made.told at one;
      gaps = each_last (λ move. IsIn move.0 places × IsGapOf lists move) made.moves (i, gap) made.gaps (here, none);
      covers = λ k le lt. elim (cases_lt k stop) [
        | inl early ↦ any_left k made.moves ((i, gap) ∷ []) (made.covers k le early)
        | inr late ↦ any_last k made.moves (i, gap) (let a : gap.lo ≤ k = omega arith in let b : k < gap.hi = omega arith in let e : lies_in k (i, gap) ≡ true = grind (arith, nat_tests) in e)
      ];
    }

    -- a first move, and then the others
    pub moves-first : (from to : List ℕ) (old mid new : P) (start stop begun now : ℕ) → IsMove lists from (i, gap) → gap.lo ≡ start → takes old i iter gap mid
        → AreToldMoves takes iters lists places (set from i gap.hi) to mid new gap.hi stop (begun + 1) now → AreToldMoves takes iters lists places from to old new start stop begun now
    moves-first from to old mid new start stop begun now is lo one made = record {
      moves = (i, gap) ∷ made.moves;
      leads = (is, made.leads);
      counted = (let counted = made.counted in omega arith);
      told = (iter, at, mid, one, made.told);
      gaps = ((here, none), made.gaps);
      covers = λ k le lt. elim (cases_lt k gap.hi) [
        | inl early ↦ (let a : gap.lo ≤ k = omega arith in let e : lies_in k (i, gap) ≡ true = grind (arith, nat_tests) in rw e refl)
        | inr late ↦ or_right (lies_in k (i, gap)) (list_any (lies_in k) made.moves) (made.covers k late lt)
      ];
    }
      where
        or_right : (s t : Bool) → t ≡ true → (s || t) ≡ true
        or_right true t h = refl
        or_right false t h = h
