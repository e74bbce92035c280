-- On the way through the segments of a line.
use Rattle.std.proofs.Common.{◌≡◌, ℕ, zero, suc, ◌+◌, ◌*◌, ◌-◌, ◌≤◌, inl, inr, List, [], ◌∷◌, ◌++◌, length, Some, append_assoc, sym, ap, ◌∙◌, subst, arith}
use Rattle.std.specs.Prelude.{if◌then◌else◌}
use Rattle.std.proofs.lemmas.Bool.Decides.{eqb_tells}
use Rattle.std.proofs.lemmas.List.{append-nil}
use Rattle.lt_net.specs.Alone.{IsAlone, IsUnclaimed, all_events, run_all, sweep_jobs}
use Rattle.lt_net.specs.Line.{AreSizes, hands_on, size_in}
use Rattle.lt_net.specs.LineAlone.{in_segment, line_bound, line_jobs, round_jobs, rounds_jobs, segment_jobs}
use Rattle.lt_net.specs.Net.{Event, IsSettled, Net, State, opening, replay}
use Rattle.lt_net.proofs.LineSettles.{line_few, line_settled, reached_line}
use Rattle.lt_circuit.specs.LineShape.{LineShape, line_shape_net}
use Rattle.lt_circuit.specs.Shape.{IsLaterBy}
use Rattle.lt_circuit.proofs.OnWay.{IsOnWay, way_longer, way_more, way_within}

-- so many rounds over segment k, a last sweep, and its Pass
abbrev pub still_to_do : Net → (n k rounds : ℕ) → State → List ℕ
still_to_do net n k rounds st = (rounds_jobs net n k rounds st ++ in_segment k (sweep_jobs n)) ++ (2048 * k + 2047) ∷ []

-- ---- one more round

module _ {W : Type 0} {shape0 sh : LineShape W} {s0 s : State} {journal0 j : List Event} {all : List ℕ} (n k left rest : ℕ) (e : left ≡ suc rest)
    (h : IsOnWay line_shape_net shape0 s0 journal0 all sh s j (still_to_do (line_shape_net shape0) n k left s)) where
  abbrev behind : List ℕ
  behind = still_to_do (line_shape_net shape0) n k rest (run_all (line_shape_net shape0) s (round_jobs (line_shape_net shape0) n k s))

  split : still_to_do (line_shape_net shape0) n k left s ≡ round_jobs (line_shape_net sh) n k s ++ behind
  split =
      let net = line_shape_net shape0 in
      let round = round_jobs net n k s in
      let rounds = rounds_jobs net n k rest (run_all net s round) in
      ap (λ r. still_to_do net n k r s) e
      ∙ ap (λ (l : List ℕ). l ++ (2048 * k + 2047) ∷ []) (append_assoc round rounds (in_segment k (sweep_jobs n)))
      ∙ append_assoc round (rounds ++ in_segment k (sweep_jobs n)) ((2048 * k + 2047) ∷ [])
      ∙ ap (λ x. round_jobs (line_shape_net x) n k s ++ behind) (sym h.shape)

  pub round_next : {sh' : LineShape W} {s' : State} {j' : List Event} → s' ≡ run_all (line_shape_net sh) s (round_jobs (line_shape_net sh) n k s) → IsUnclaimed s' → sh' ≡ sh → IsLaterBy 0 j j'
      → length j' ≤ length j + length (all_events (line_shape_net sh) s (round_jobs (line_shape_net sh) n k s))
      → IsOnWay line_shape_net shape0 s0 journal0 all sh' s' j' (still_to_do (line_shape_net shape0) n k rest s')
  round_next {sh'} {s'} {j'} ran free shape later few =
      let step : s' ≡ run_all (line_shape_net shape0) s (round_jobs (line_shape_net shape0) n k s) =
      ran ∙ ap (λ x. run_all (line_shape_net x) s (round_jobs (line_shape_net x) n k s)) h.shape in
      subst (λ t. IsOnWay line_shape_net shape0 s0 journal0 all sh' s' j' (still_to_do (line_shape_net shape0) n k rest t)) (sym step)
      (way_more (round_jobs (line_shape_net sh) n k s) behind h split ran free shape later few)

  -- whatever came of it
  pub round_few : (q : ℕ) → q ≤ length j + length (all_events (line_shape_net sh) s (round_jobs (line_shape_net sh) n k s)) → q ≤ length journal0 + length (all_events (line_shape_net shape0) s0 all)
  round_few q few = way_within (round_jobs (line_shape_net sh) n k s) behind h split q few

-- after the rounds
pub rounds_over : {W : Type 0} {shape0 sh : LineShape W} {s0 s : State} {journal0 j : List Event} {all : List ℕ} (n k left : ℕ) → left ≡ 0
    → IsOnWay line_shape_net shape0 s0 journal0 all sh s j (still_to_do (line_shape_net shape0) n k left s)
    → IsOnWay line_shape_net shape0 s0 journal0 all sh s j (in_segment k (sweep_jobs n) ++ (2048 * k + 2047) ∷ [])
rounds_over {shape0 = shape0} {sh} {s0} {s} {journal0} {j} {all} n k left e h =
    subst (λ r. IsOnWay line_shape_net shape0 s0 journal0 all sh s j (still_to_do (line_shape_net shape0) n k r s)) e h

-- ---- one more segment

module _ {W : Type 0} {shape0 sh : LineShape W} {s0 s : State} {journal0 j : List Event} (k leaves : ℕ)
    (h : IsOnWay line_shape_net shape0 s0 journal0 (line_jobs (line_shape_net shape0) shape0.sizes k s0) sh s j []) (same : leaves ≡ size_in sh.sizes k) where
  abbrev next : List ℕ
  next = segment_jobs (line_shape_net shape0) (size_in shape0.sizes k) k (run_all (line_shape_net shape0) s0 (line_jobs (line_shape_net shape0) shape0.sizes k s0))

  next_is : next ≡ segment_jobs (line_shape_net sh) leaves k s ++ []
  next_is =
      (λ i. segment_jobs (line_shape_net (sym h.shape i)) (size_in (sym h.shape i).sizes k) k (sym h.ran i))
      ∙ ap (λ n. segment_jobs (line_shape_net sh) n k s) (sym same)
      ∙ sym (append-nil (segment_jobs (line_shape_net sh) leaves k s))

  pub segment_next : {sh' : LineShape W} {s' : State} {j' : List Event} → s' ≡ run_all (line_shape_net sh) s (segment_jobs (line_shape_net sh) leaves k s) → IsUnclaimed s' → sh' ≡ sh → IsLaterBy 0 j j'
      → length j' ≤ length j + length (all_events (line_shape_net sh) s (segment_jobs (line_shape_net sh) leaves k s))
      → IsOnWay line_shape_net shape0 s0 journal0 (line_jobs (line_shape_net shape0) shape0.sizes (suc k) s0) sh' s' j' []
  segment_next ran free shape later few = way_more (segment_jobs (line_shape_net sh) leaves k s) [] (way_longer next h) next_is ran free shape later few

  pub segment_few : (q : ℕ) → q ≤ length j + length (all_events (line_shape_net sh) s (segment_jobs (line_shape_net sh) leaves k s))
      → q ≤ length journal0 + length (all_events (line_shape_net shape0) s0 (line_jobs (line_shape_net shape0) shape0.sizes (suc k) s0))
  segment_few q few = way_within (segment_jobs (line_shape_net sh) leaves k s) [] (way_longer next h) next_is q few

-- ---- how many events these are

more_is_more : (a b c : ℕ) → a ≤ a + b + c
more_is_more a b c = omega arith

at_most : (a b c : ℕ) → a ≤ b → b ≤ c → a ≤ c
at_most a b c x y = omega (arith, x, y)

pub bound_rises : (sizes : List ℕ) (k m : ℕ) → k ≤ m → line_bound sizes k ≤ line_bound sizes m
bound_rises sizes k zero le = let e : k ≡ 0 = omega (arith, le) in subst (λ n. line_bound sizes n ≤ 0) (sym e) (omega arith)
bound_rises sizes k (suc m) le = elim (eqb_tells k (suc m)) [
  | inl e ↦ subst (λ n. line_bound sizes k ≤ line_bound sizes n) e.1 (omega arith)
  | inr e ↦
      at_most (line_bound sizes k) (line_bound sizes m) (line_bound sizes (suc m)) (bound_rises sizes k m (omega (arith, le, e.1)))
      (more_is_more (line_bound sizes m) (2 * ((size_in sizes m + 1) * 2 * (size_in sizes m - 1) + size_in sizes m)) (if hands_on sizes m then 2 else 0))
]

module _ {W : Type 0} (shape : LineShape W) (small : AreSizes shape.sizes) (events : List Event) (s : State)
    (known : replay (line_shape_net shape) (Some (opening (line_shape_net shape))) events ≡ Some s) (free : IsUnclaimed s) where
  alone : IsAlone (line_shape_net shape) s
  alone = reached_line shape.effect shape.sizes small events s known free

  pub within_bound : (k m a q : ℕ) → k ≤ m → q ≤ a + length (all_events (line_shape_net shape) s (line_jobs (line_shape_net shape) shape.sizes k s)) → q ≤ a + line_bound shape.sizes m
  within_bound k m a q le few =
      let here = line_few shape.effect shape.sizes small s alone k in
      let rises = bound_rises shape.sizes k m le in
      omega (arith, few, here, rises)

  pub is_settled : (t : State) → t ≡ run_all (line_shape_net shape) s (line_jobs (line_shape_net shape) shape.sizes (length shape.sizes) s) → IsSettled t
  is_settled t e = subst IsSettled (sym e) (line_settled shape.effect shape.sizes small s alone)
