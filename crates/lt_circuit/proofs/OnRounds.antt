-- On the way through the rounds, and what the last sweep leaves.
use Rattle.std.proofs.Common.{◌≡◌, ℕ, suc, ◌+◌, ◌-◌, ◌*◌, ◌≤◌, List, length, length-append, refl, sym, ap, ◌∙◌, subst, arith}
use Rattle.lt_net.specs.Net.{State, Event, IsSettled}
use Rattle.lt_net.specs.Alone.{IsUnclaimed, IsAlone, run_all, all_events, sweep_jobs, round, round_events, rounds, rounds_events, settled_alone, alone_events}
use Rattle.lt_circuit.specs.Shape.{Shape, shape_net, IsLaterBy}
use Rattle.lt_net.specs.Net.{replay, opening}
use Rattle.std.proofs.Common.{Some}
use Rattle.lt_net.proofs.Counts.{alone_length}
use Rattle.lt_net.proofs.Rounds.{rounds_settle}
use Rattle.lt_net.proofs.Reached.{reached_alone}
use Rattle.lt_circuit.proofs.OnWay.{later_same, later_then}

-- the bound on the events of n rounds and a sweep
abbrev pub most : ℕ → ℕ
most n = 2 * ((n + 1) * 2 * (n - 1) + n)

alone_whole : {W : Type 0} (shape : Shape W) (s : State) (n : ℕ) → length (alone_events (shape_net shape) n s)
    ≡ length (rounds_events (shape_net shape) n n s) + length (all_events (shape_net shape) (rounds (shape_net shape) n n s) (sweep_jobs n))
alone_whole shape s n = length-append (rounds_events (shape_net shape) n n s) (all_events (shape_net shape) (rounds (shape_net shape) n n s) (sweep_jobs n))

alone_within : {W : Type 0} (shape : Shape W) (s : State) (n : ℕ) → n ≡ shape.leaves → IsAlone (shape_net shape) s → length (alone_events (shape_net shape) n s) ≤ most shape.leaves
alone_within shape s n same a = subst (λ m. length (alone_events (shape_net shape) m s) ≤ most shape.leaves) (sym same) (alone_length shape.effect shape.leaves s a)

rounds_within : {W : Type 0} (shape : Shape W) (s : State) (n : ℕ) → n ≡ shape.leaves → IsAlone (shape_net shape) s → length (rounds_events (shape_net shape) n n s) ≤ most shape.leaves
rounds_within shape s n same a = omega (arith, alone_whole shape s n, alone_within shape s n same a)

-- From (shape0, s0, journal0) on through the n rounds: at (sh, s, j) this many are left. No claim stands.
pub record IsOnRounds {W : Type 0} (shape0 : Shape W) (s0 : State) (journal0 : List Event) (n : ℕ) (sh : Shape W) (s : State) (j : List Event) (left : ℕ) : Type 0 where
  pub ran : rounds (shape_net shape0) n left s ≡ rounds (shape_net shape0) n n s0
  pub free : IsUnclaimed s
  pub shape : sh ≡ shape0
  pub later : IsLaterBy 0 journal0 j
  pub few : length j + length (rounds_events (shape_net shape0) n left s) ≤ length journal0 + length (rounds_events (shape_net shape0) n n s0)

pub rounds_start : {W : Type 0} (sh : Shape W) (s : State) (j : List Event) (n left : ℕ) → left ≡ n → IsUnclaimed s → IsOnRounds sh s j n sh s j left
rounds_start sh s j n left e free = record {
  ran = ap (λ k. rounds (shape_net sh) n k s) e;
  free = free;
  shape = refl;
  later = later_same j;
  few = let same : length (rounds_events (shape_net sh) n left s) ≡ length (rounds_events (shape_net sh) n n s) = ap (λ k. length (rounds_events (shape_net sh) n k s)) e in omega (arith, same);
}

module _ {W : Type 0} {shape0 : Shape W} {s0 : State} {journal0 : List Event} {n : ℕ} {sh : Shape W} {s : State} {j : List Event} {left : ℕ} (rest : ℕ)
    (h : IsOnRounds shape0 s0 journal0 n sh s j left) (e : left ≡ suc rest) where
  more_few : (k : ℕ) → k ≤ length j + length (round_events (shape_net sh) n s) → k ≤ length j + length (round_events (shape_net shape0) n s)
  more_few k f = subst (λ x. k ≤ length j + length (round_events (shape_net x) n s)) h.shape f

  round_first : length (rounds_events (shape_net shape0) n left s) ≡ length (round_events (shape_net shape0) n s) + length (rounds_events (shape_net shape0) n rest (round (shape_net shape0) n s))
  round_first =
      ap (λ k. length (rounds_events (shape_net shape0) n k s)) e
      ∙ length-append (round_events (shape_net shape0) n s) (rounds_events (shape_net shape0) n rest (round (shape_net shape0) n s))

  -- one more round
  pub rounds_next : (sh' : Shape W) (s' : State) (j' : List Event) → s' ≡ round (shape_net sh) n s → IsUnclaimed s' → sh' ≡ sh → IsLaterBy 0 j j'
      → length j' ≤ length j + length (round_events (shape_net sh) n s) → IsOnRounds shape0 s0 journal0 n sh' s' j' rest
  rounds_next sh' s' j' ran free shape later few =
      let step : s' ≡ round (shape_net shape0) n s = ran ∙ ap (λ x. round (shape_net x) n s) h.shape in
      let here : length (rounds_events (shape_net shape0) n rest s') ≡ length (rounds_events (shape_net shape0) n rest (round (shape_net shape0) n s)) =
      ap (λ (t : State). length (rounds_events (shape_net shape0) n rest t)) step in
      record {
        ran = ap (rounds (shape_net shape0) n rest) step ∙ sym (ap (λ k. rounds (shape_net shape0) n k s) e) ∙ h.ran;
        free = free;
        shape = shape ∙ h.shape;
        later = later_then journal0 j j' h.later later;
        few = omega (arith, more_few (length j') few, h.few, round_first, here);
      }

  -- whatever came of it
  pub round_within : n ≡ shape0.leaves → IsAlone (shape_net shape0) s0 → (k : ℕ) → k ≤ length j + length (round_events (shape_net sh) n s)
      → k ≤ length journal0 + most shape0.leaves
  round_within same a k few = omega (arith, more_few k few, h.few, round_first, rounds_within shape0 s0 n same a)

module _ {W : Type 0} {shape0 : Shape W} {s0 : State} {journal0 : List Event} {n : ℕ} {sh : Shape W} {s : State} {j : List Event} {left : ℕ}
    (h : IsOnRounds shape0 s0 journal0 n sh s j left) (e : left ≡ 0) (same : n ≡ shape0.leaves) where
  all_rounds : s ≡ rounds (shape_net shape0) n n s0
  all_rounds = sym (ap (λ k. rounds (shape_net shape0) n k s) e) ∙ h.ran

  -- the last sweep
  pub settled_from : (s' : State) → s' ≡ run_all (shape_net sh) s (sweep_jobs n) → s' ≡ settled_alone (shape_net shape0) shape0.leaves s0
  settled_from s' ran =
      ran ∙ ap (λ x. run_all (shape_net x) s (sweep_jobs n)) h.shape ∙ ap (λ (t : State). run_all (shape_net shape0) t (sweep_jobs n)) all_rounds
      ∙ ap (λ m. settled_alone (shape_net shape0) m s0) same

  pub sweep_within : IsAlone (shape_net shape0) s0 → (k : ℕ) → k ≤ length j + length (all_events (shape_net sh) s (sweep_jobs n)) → k ≤ length journal0 + most shape0.leaves
  sweep_within a k few =
      let none : length (rounds_events (shape_net shape0) n left s) ≡ 0 = ap (λ m. length (rounds_events (shape_net shape0) n m s)) e in
      let here : length (all_events (shape_net sh) s (sweep_jobs n)) ≡ length (all_events (shape_net shape0) (rounds (shape_net shape0) n n s0) (sweep_jobs n)) =
      ap (λ x. length (all_events (shape_net x) s (sweep_jobs n))) h.shape ∙ ap (λ (t : State). length (all_events (shape_net shape0) t (sweep_jobs n))) all_rounds in
      omega (arith, few, h.few, none, here, alone_whole shape0 s0 n, alone_within shape0 s0 n same a)

pub settled_is : {W : Type 0} (shape : Shape W) (s t : State) → IsAlone (shape_net shape) s → t ≡ settled_alone (shape_net shape) shape.leaves s → IsSettled t
settled_is shape s t a e = subst IsSettled (sym e) (rounds_settle shape.effect shape.leaves s a)

pub alone_from : {W : Type 0} (shape : Shape W) (journal : List Event) (s : State) → replay (shape_net shape) (Some (opening (shape_net shape))) journal ≡ Some s → IsUnclaimed s → IsAlone (shape_net shape) s
alone_from shape journal s known free = reached_alone shape.effect shape.leaves journal s known free
