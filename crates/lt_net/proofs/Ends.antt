-- A run as its claim and its end.
use Rattle.std.proofs.Common.{◌≡◌, ◌≢◌, ℕ, length, Some, refl, sym, ap, ◌∙◌}
use Rattle.lt_net.specs.declared.job.JobState.{JobState}
use Rattle.lt_net.specs.declared.job.JobState.TheVariants.{Clean, Pending, Running, Dirty}
use Rattle.std.specs.Prelude.{if◌then◌else◌}
use Rattle.lt_net.specs.Net.{Net, State, Claim, is_pending, claimed, finished, abandoned}
use Rattle.lt_net.proofs.Kept.{update_same}
use Rattle.lt_net.specs.Alone.{IsUnclaimed, claim_for, ran, run_if_pending, run_events}
use Rattle.lt_net.proofs.Runs.{cleared}

some_is : (c d : Claim) → Some c ≡ Some d → c ≡ d
some_is c d e = cc

module _ (net : Net) (s : State) (j : ℕ) where
  -- what the worker holds is the claim that the run makes
  pub claim_is : (c : Claim) → (claimed net s 0 j).claim 0 ≡ Some c → c ≡ claim_for net s j
  claim_is c held = some_is c (claim_for net s j) (sym held ∙ update_same s.claim 0 (Some (claim_for net s j)))

  -- the claim, and its finish
  pub finished_is : (c : Claim) → s.status j ≡ Pending → (claimed net s 0 j).claim 0 ≡ Some c → finished net (claimed net s 0 j) 0 c ≡ run_if_pending net s j
  finished_is c pending held =
      let runs : run_if_pending net s j ≡ ran net s j = rw pending in
      ap (finished net (claimed net s 0 j) 0) (claim_is c held) ∙ sym runs

  -- a job that isn't Pending is left
  pub left_is : s.status j ≢ Pending → s ≡ run_if_pending net s j
  left_is h = by_state (s.status j) refl
    where
      by_state : (st : JobState) → s.status j ≡ st → s ≡ (if is_pending st then ran net s j else s)
      by_state Clean e = refl
      by_state Pending e = absurd (h e)
      by_state Running e = refl
      by_state Dirty e = refl

  -- two entries for a job that is Pending
  pub two_events : s.status j ≡ Pending → length (run_events net s j) ≡ 2
  two_events pending = rw pending

  -- after the end no claim stands
  pub finished_free : IsUnclaimed s → (c : Claim) → IsUnclaimed (finished net (claimed net s 0 j) 0 c)
  finished_free free c = cleared s (claim_for net s j) free

  pub abandoned_free : IsUnclaimed s → (c : Claim) → IsUnclaimed (abandoned (claimed net s 0 j) 0 c)
  abandoned_free free c = cleared s (claim_for net s j) free
