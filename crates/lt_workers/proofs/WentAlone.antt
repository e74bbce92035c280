-- What one worker alone does before others are called.
use Rattle.std.proofs.Common.{◌≡◌, ◌≢◌, ℕ, ◌<◌, List, [], ◌∷◌, ◌++◌, None, ⊎_elim, refl, sym, ap, ◌∙◌, subst, arith, append_assoc}
use mathlib.Core.Logic.{dite}
use native.Mathlib.Decide.{ℕ_discrete}
use Rattle.std.proofs.lemmas.List.Elements.{All-append}
use Rattle.lt_net.specs.Net.{Net, State}
use Rattle.lt_net.specs.Alone.{IsUnclaimed}
use Rattle.lt_turn.specs.Journal.{GoesOn}
use Rattle.lt_turn.proofs.Journals.{goes_same, goes_more}
use Rattle.lt_workers.specs.Seen.{Stand, IsMove}
use Rattle.lt_workers.specs.Alone.{WentAlone}

all_unclaimed : (s t : State) → ((v : ℕ) → v ≢ 0 → t.claim v ≡ s.claim v) → t.claim 0 ≡ None → ((v : ℕ) → v ≢ 0 → s.claim v ≡ None) → IsUnclaimed t
all_unclaimed s t others mine free v = dite (ℕ_discrete v 0) (λ same. ap t.claim same ∙ mine) (λ other. others v other ∙ free v other)

goes_then : (workers : ℕ) (a b c : List (ℕ × ℕ)) → GoesOn workers a b → GoesOn workers b c → GoesOn workers a c
goes_then workers a b c x y = (x.0 ++ y.0, y.1 ∙ (ap (λ (l : List (ℕ × ℕ)). l ++ y.0) x.1 ∙ append_assoc a x.0 y.0), All-append (λ (e : ℕ × ℕ). e.0 < workers) x.0 y.0 x.2 y.2)

module _ {B : Type 0} (net_of : B → Net) where
  -- one call of worker 0
  move_later : (old new : Stand B) → IsMove net_of 0 old new → GoesOn 1 old.pairs new.pairs
  move_later old new moved = ⊎_elim
      (λ (e : new.pairs ≡ old.pairs). subst (λ (l : List (ℕ × ℕ)). GoesOn 1 old.pairs l) (sym e) (goes_same 1 old.pairs))
      (λ (t : (code : ℕ) × (new.pairs ≡ old.pairs ++ (0, code) ∷ [])). subst (λ (l : List (ℕ × ℕ)). GoesOn 1 old.pairs l) (sym t.1) (goes_more 1 old.pairs old.pairs (0, t.0) (omega arith) (goes_same 1 old.pairs)))
      moved.grew

  -- nothing was done
  pub went_nowhere : (old new : Stand B) → IsMove net_of 0 old new → IsUnclaimed new.state → WentAlone net_of old new
  went_nowhere old new moved free = record { basis = moved.basis; free = free; later = move_later old new moved; standing = λ is. moved.after }

  pub went_still : (old : Stand B) → IsUnclaimed old.state → WentAlone net_of old old
  went_still old free = record { basis = refl; free = free; later = goes_same 1 old.pairs; standing = λ is. is }

  -- the claim of worker 0, the only one, ended
  pub went_to_end : (old new : Stand B) → IsMove net_of 0 old new → new.state.claim 0 ≡ None → ((v : ℕ) → v ≢ 0 → old.state.claim v ≡ None) → WentAlone net_of old new
  went_to_end old new moved mine free = went_nowhere old new moved (all_unclaimed old.state new.state moved.others mine free)

  pub went_then : (old mid new : Stand B) → WentAlone net_of old mid → WentAlone net_of mid new → WentAlone net_of old new
  went_then old mid new first second = record {
    basis = second.basis ∙ first.basis;
    free = second.free;
    later = goes_then 1 old.pairs mid.pairs new.pairs first.later second.later;
    standing = λ is. second.standing (first.standing is);
  }

  -- and so it went before the claim
  pub went_from_claim : (old mid new : Stand B) → IsMove net_of 0 old mid → WentAlone net_of mid new → WentAlone net_of old new
  went_from_claim old mid new moved went = record {
    basis = went.basis ∙ moved.basis;
    free = went.free;
    later = goes_then 1 old.pairs mid.pairs new.pairs (move_later old mid moved) went.later;
    standing = λ is. went.standing moved.after;
  }

  -- after an answer without a job no claim stands, as none stood before
  pub still_unclaimed : (old new : Stand B) → IsMove net_of 0 old new → new.state.claim 0 ≡ None → IsUnclaimed old.state → IsUnclaimed new.state
  still_unclaimed old new moved mine free = all_unclaimed old.state new.state moved.others mine (λ v other. free v)
