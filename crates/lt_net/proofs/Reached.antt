-- From a state that legal events lead to, in which no claim stands.
use Rattle.std.proofs.Common.{◌≡◌, ℕ, zero, suc, ◌+◌, ◌-◌, ◌*◌, ◌<◌, ◌≤◌, List, length, Some, refl, ap, ◌∙◌, arith}
use Rattle.lt_model.specs.declared.mark.Mark.{Mark}
use Rattle.lt_net.specs.declared.job.JobState.TheVariants.{Clean}
use Rattle.lt_net.specs.declared.job.JobName.TheVariants.{Leaf}
use Rattle.lt_net.specs.Net.{Event, State, replay, opening, IsSettled}
use Rattle.lt_net.specs.Tree.{tree_of}
use Rattle.lt_net.specs.Codes.{code_of}
use Rattle.lt_net.proofs.Kept.{opening_kept, replay_kept}
use Rattle.lt_net.specs.Alone.{net_over, IsAlone, IsUnclaimed, IsSwept, run_all, all_events, sweep_jobs, sweep, chosen, round, round_events, rounds, rounds_events, settled_alone, alone_events}
use Rattle.lt_net.proofs.Runs.{all_replay, replay_append}
use Rattle.lt_net.proofs.Spans.{rank_in}
use Rattle.lt_net.proofs.Ranks.{ready_none}
use Rattle.lt_net.proofs.Sweeps.{is_net, is_ranked, sweep_alone, sweep_settles_inner, all_ready}
use Rattle.lt_net.proofs.Rounds.{round_alone, rounds_alone, rounds_raise, rounds_settle}
use Rattle.lt_net.proofs.Counts.{alone_length}

module _ (effect : ℕ → List Mark → List Mark) (n : ℕ) where
  pub round_replay : (s : State) → IsAlone (net_over effect n) s → replay (net_over effect n) (Some s) (round_events (net_over effect n) n s) ≡ Some (round (net_over effect n) n s)
  round_replay s a =
      let swept = sweep (net_over effect n) n s in
      replay_append (net_over effect n) (all_events (net_over effect n) s (sweep_jobs n)) (all_events (net_over effect n) swept (chosen n swept)) (Some s)
      ∙ ap (λ o. replay (net_over effect n) o (all_events (net_over effect n) swept (chosen n swept))) (all_replay (net_over effect n) (is_net effect n) (sweep_jobs n) s a)
      ∙ all_replay (net_over effect n) (is_net effect n) (chosen n swept) swept (sweep_alone effect n s a)

  pub rounds_replay : (r : ℕ) (s : State) → IsAlone (net_over effect n) s → replay (net_over effect n) (Some s) (rounds_events (net_over effect n) n r s) ≡ Some (rounds (net_over effect n) n r s)
  rounds_replay zero s a = refl
  rounds_replay (suc r) s a =
      let next = round (net_over effect n) n s in
      replay_append (net_over effect n) (round_events (net_over effect n) n s) (rounds_events (net_over effect n) n r next) (Some s)
      ∙ ap (λ o. replay (net_over effect n) o (rounds_events (net_over effect n) n r next)) (round_replay s a)
      ∙ rounds_replay r next (round_alone effect n s a)

  pub alone_replay : (s : State) → IsAlone (net_over effect n) s → replay (net_over effect n) (Some s) (alone_events (net_over effect n) n s) ≡ Some (settled_alone (net_over effect n) n s)
  alone_replay s a =
      let last = rounds (net_over effect n) n n s in
      replay_append (net_over effect n) (rounds_events (net_over effect n) n n s) (all_events (net_over effect n) last (sweep_jobs n)) (Some s)
      ∙ ap (λ o. replay (net_over effect n) o (all_events (net_over effect n) last (sweep_jobs n))) (rounds_replay n s a)
      ∙ all_replay (net_over effect n) (is_net effect n) (sweep_jobs n) last (rounds_alone effect n n s a)

module _ (effect : ℕ → List Mark → List Mark) (n : ℕ) (events : List Event) (s : State)
    (h : replay (net_over effect n) (Some (opening (net_over effect n))) events ≡ Some s) (free : IsUnclaimed s) where
  pub reached_alone : IsAlone (net_over effect n) s
  reached_alone = record {
    kept = replay_kept (net_over effect n) (is_net effect n) events (opening (net_over effect n)) s (opening_kept (net_over effect n) (is_net effect n)) h;
    free = free;
  }

  pub reached_sweep : IsSwept (sweep (net_over effect n) n s)
  reached_sweep = sweep_settles_inner effect n s reached_alone

  pub reached_leaves : (k i : ℕ) (jobs : List ℕ) → i < k → (run_all (net_over effect n) (rounds (net_over effect n) n k s) jobs).status (code_of (Leaf i)) ≡ Clean
  reached_leaves k i jobs lt =
      let last = rounds (net_over effect n) n k s in
      let ready = rounds_raise effect n k 0 k s (omega arith) reached_alone (ready_none (net_over effect n) (rank_in (tree_of n)) s) in
      (all_ready (net_over effect n) (is_net effect n) (rank_in (tree_of n)) (is_ranked effect n) k jobs last (rounds_alone effect n k s reached_alone) ready).clean i lt

  pub reached_legal : replay (net_over effect n) (Some s) (alone_events (net_over effect n) n s) ≡ Some (settled_alone (net_over effect n) n s)
  reached_legal = alone_replay effect n s reached_alone

  pub reached_settled : IsSettled (settled_alone (net_over effect n) n s)
  reached_settled = rounds_settle effect n s reached_alone

  pub reached_few : length (alone_events (net_over effect n) n s) ≤ 2 * ((n + 1) * 2 * (n - 1) + n)
  reached_few = alone_length effect n s reached_alone
