-- Running one job of a line, as the worker alone does it.
use Rattle.std.proofs.Common.{◌≡◌, ℕ, Some, List, sym, ap, ◌∙◌}
use Rattle.lt_model.specs.declared.mark.Mark.{Mark}
use Rattle.lt_net.specs.Alone.{IsUnclaimed, run_if_pending}
use Rattle.lt_net.specs.Line.{line_net}
use Rattle.lt_net.specs.Net.{Claim, Net, State, abandoned, claimed, finished}
use Rattle.lt_circuit.specs.Line.{LineView, line_state}
use Rattle.lt_circuit.specs.LineClaiming.{IsLineClaimed}
use Rattle.lt_circuit.specs.Job.{JobView}
use Rattle.lt_circuit.specs.LineJob.{claim_of_line_job}
use Rattle.lt_circuit.specs.Row.{sizes}
use Rattle.lt_circuit.proofs.OneJob.{drop_free, run_free, run_is}

module _ {W T : Type 0} (does_of : W → ℕ → List Mark → List Mark) (old mid : LineView W T) (job : JobView W T) (code : ℕ) (claim : IsLineClaimed (does_of old.work) old mid 0 job)
    (is : (claim_of_line_job job).job ≡ code) where
  abbrev net : Net
  net = line_net (does_of old.work) (sizes old.row)

  begun : line_state mid ≡ claimed net (line_state old) 0 code
  begun = claim.stepped ∙ ap (claimed net (line_state old) 0) is

  module _ (after : State) (k : Claim) (k_is : k ≡ claim_of_line_job job) (ended : after ≡ finished (line_net (does_of mid.work) (sizes mid.row)) (line_state mid) 0 k) where
    ended_is : after ≡ finished net (line_state mid) 0 k
    ended_is = ended ∙ (λ i. finished (line_net (does_of (claim.work i)) (claim.leaves i)) (line_state mid) 0 k)

    pub line_ran : after ≡ run_if_pending net (line_state old) code
    line_ran = run_is net (line_state old) (line_state mid) code begun after k ended_is (sym (ap (line_state old).status is) ∙ claim.pending) (claim.held ∙ ap Some (sym k_is))

    pub line_ran_free : IsUnclaimed (line_state old) → IsUnclaimed after
    line_ran_free = run_free net (line_state old) (line_state mid) code begun after k ended_is

  pub line_given_up : (after : State) (k : Claim) → after ≡ abandoned (line_state mid) 0 k → IsUnclaimed (line_state old) → IsUnclaimed after
  line_given_up = drop_free net (line_state old) (line_state mid) code begun
