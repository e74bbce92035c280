-- One worker settles a line, segment after segment.
use Rattle.std.proofs.Common.{◌≡◌, ℕ, zero, suc, ◌+◌, ◌-◌, ◌*◌, ◌/◌, ◌%◌, ◌<◌, ◌≤◌, inl, inr, Bool, true, false, List, [], ◌∷◌, ◌++◌, map, length, Option, Some, None, refl, sym, ap, ◌∙◌, subst, arith}
use Rattle.std.specs.Prelude.{if◌then◌else◌, ◌==◌}
use Rattle.std.specs.List.{AllByRecursion}
use Rattle.std.proofs.Math.ListN.{get_or-eq_default}
use Rattle.std.proofs.lemmas.Bool.Decides.{eqb_tells}
use Rattle.std.proofs.lemmas.List.{length-append}
use Rattle.lt_model.specs.declared.mark.Mark.{Mark}
use Rattle.lt_net.specs.declared.job.JobState.TheVariants.{Clean}
use Rattle.lt_net.specs.Net.{Correction, Effect, Event, Net, State, has_cell, opening, replay, IsSettled}
use Rattle.lt_net.specs.Tree.{inputs_of, tree_of}
use Rattle.lt_net.specs.Codes.{job_of}
use Rattle.lt_net.specs.Line.{AreSizes, Own, Pass, effect_in, hands_on, line_code, line_inputs, line_job, line_net, line_outputs, placed, size_in}
use Rattle.lt_net.specs.Alone.{IsAlone, IsUnclaimed, all_events, alone_events, chosen, corrects_up, leaf_jobs, lowest_pending, merges_down, net_over, round, round_events, rounds, rounds_events, run_all, run_events, run_if_pending, settled_alone, sweep, sweep_jobs}
use Rattle.lt_net.specs.LineAlone.{in_segment, line_bound, line_jobs, round_jobs, rounds_jobs, segment_jobs, tree_in}
use Rattle.lt_net.proofs.Counts.{alone_length, events_append, no_events, run_length}
use Rattle.lt_net.proofs.Inside.{none_reads}
use Rattle.lt_net.proofs.LineRuns.{low_status, runs_are, runs_long, tree_alone}
use Rattle.lt_net.proofs.Lines.{feeds, line_is_net, line_kept}
use Rattle.lt_net.proofs.Placed.{code_back, pass_at, segment_at, segment_of}
use Rattle.lt_net.proofs.Rounds.{IsLowest, lowest_is, rounds_settle}
use Rattle.lt_net.proofs.Runs.{IsUnread, all_alone, all_replay, run_alone, run_append, run_clean, run_keeps}
use Rattle.lt_net.proofs.Shape.{lt_false, lt_tells}

-- ---- the places of a tree's jobs

abbrev AreLow : List ℕ → Type 0
AreLow places = AllByRecursion (λ j. j < 2047) places

both_all : (P : ℕ → Type 0) (xs ys : List ℕ) → AllByRecursion P xs → AllByRecursion P ys → AllByRecursion P (xs ++ ys)
both_all P [] ys a b = b
both_all P (x ∷ xs) ys a b = (a.0, both_all P xs ys a.1 b)

low_merges : (k : ℕ) → k ≤ 511 → AreLow (merges_down k)
low_merges zero h = tt
low_merges (suc k) h = (omega (arith, h), low_merges k (omega (arith, h)))

low_corrects : (v count : ℕ) → v + count ≤ 511 → AreLow (corrects_up v count)
low_corrects v zero h = tt
low_corrects v (suc count) h = (omega (arith, h), low_corrects (suc v) count (omega (arith, h)))

low_sweep : (n : ℕ) → n ≤ 256 → AreLow (sweep_jobs n)
low_sweep n h = both_all (λ j. j < 2047) (merges_down (2 * n - 1)) (corrects_up 0 (2 * n - 1)) (low_merges (2 * n - 1) (omega (arith, h))) (low_corrects 0 (2 * n - 1) (omega (arith, h)))

low_chosen : (n : ℕ) (s : State) → n ≤ 256 → AreLow (chosen n s)
low_chosen n s h = by_choice (lowest_pending s 0 n) (lowest_is s 0 n n (omega arith))
  where
    by_choice : (o : Option ℕ) → IsLowest s 0 n o → AreLow (leaf_jobs o)
    by_choice None low = tt
    by_choice (Some m) low = (omega (arith, low.1, h), tt)

-- ---- jobs of segment k and behind it

abbrev AreFrom : ℕ → List ℕ → Type 0
AreFrom k jobs = AllByRecursion (λ j. 2048 * k ≤ j) jobs

from_segment : (k : ℕ) (places : List ℕ) → AreFrom k (in_segment k places)
from_segment k [] = tt
from_segment k (j ∷ js) = (omega arith, from_segment k js)

-- each code of the segments below k is Clean
abbrev IsBehind : ℕ → State → Type 0
IsBehind k st = (code : ℕ) → code < 2048 * k → st.status code ≡ Clean

module _ (effect : ℕ → List Mark → List Mark) (sizes : List ℕ) (small : AreSizes sizes) where
  abbrev line : Net
  line = line_net effect sizes

  module _ (k : ℕ) where
    abbrev n : ℕ
    n = size_in sizes k

    abbrev tree : Net
    tree = net_over (effect_in effect k) n

    few : n ≤ 256
    few = small.few k

    -- ---- as in a circuit

    module _ (st : State) where
      abbrev swept : State
      swept = run_all line st (in_segment k (sweep_jobs n))

      swept_is : tree_in k swept ≡ sweep tree n (tree_in k st)
      swept_is = runs_are effect sizes small k (sweep_jobs n) (low_sweep n few) st

      round_is : tree_in k (run_all line st (round_jobs line n k st)) ≡ round tree n (tree_in k st)
      round_is =
          ap (tree_in k) (run_append line (in_segment k (sweep_jobs n)) (in_segment k (chosen n (tree_in k swept))) st)
          ∙ runs_are effect sizes small k (chosen n (tree_in k swept)) (low_chosen n (tree_in k swept) few) swept
          ∙ ap (λ s. run_all tree s (chosen n s)) swept_is

      round_long : length (all_events line st (round_jobs line n k st)) ≡ length (round_events tree n (tree_in k st))
      round_long =
          let first = runs_long effect sizes small k (sweep_jobs n) (low_sweep n few) st in
          let second = runs_long effect sizes small k (chosen n (tree_in k swept)) (low_chosen n (tree_in k swept) few) swept ∙ ap (λ s. length (all_events tree s (chosen n s))) swept_is in
          events_append line (in_segment k (sweep_jobs n)) (in_segment k (chosen n (tree_in k swept))) st
          ∙ (λ t. first t + second t)
          ∙ sym (length-append (all_events tree (tree_in k st) (sweep_jobs n)) (all_events tree (sweep tree n (tree_in k st)) (chosen n (sweep tree n (tree_in k st)))))

    rounds_is : (r : ℕ) (st : State) → tree_in k (run_all line st (rounds_jobs line n k r st)) ≡ rounds tree n r (tree_in k st)
    rounds_is zero st = refl
    rounds_is (suc r) st =
        let next = run_all line st (round_jobs line n k st) in
        ap (tree_in k) (run_append line (round_jobs line n k st) (rounds_jobs line n k r next) st) ∙ rounds_is r next ∙ ap (rounds tree n r) (round_is st)

    rounds_long : (r : ℕ) (st : State) → length (all_events line st (rounds_jobs line n k r st)) ≡ length (rounds_events tree n r (tree_in k st))
    rounds_long zero st = refl
    rounds_long (suc r) st =
        let next = run_all line st (round_jobs line n k st) in
        let first = round_long st in
        let rest = rounds_long r next ∙ ap (λ s. length (rounds_events tree n r s)) (round_is st) in
        events_append line (round_jobs line n k st) (rounds_jobs line n k r next) st
        ∙ (λ t. first t + rest t)
        ∙ sym (length-append (round_events tree n (tree_in k st)) (rounds_events tree n r (round tree n (tree_in k st))))

    from_rounds : (r : ℕ) (st : State) → AreFrom k (rounds_jobs line n k r st)
    from_rounds zero st = tt
    from_rounds (suc r) st =
        let next = run_all line st (round_jobs line n k st) in
        both_all (λ j. 2048 * k ≤ j) (round_jobs line n k st) (rounds_jobs line n k r next)
        (both_all (λ j. 2048 * k ≤ j) (in_segment k (sweep_jobs n)) (in_segment k (chosen n (tree_in k (swept st)))) (from_segment k (sweep_jobs n)) (from_segment k (chosen n (tree_in k (swept st)))))
        (from_rounds r next)

    module _ (st : State) where
      abbrev inner_jobs : List ℕ
      inner_jobs = rounds_jobs line n k n st ++ in_segment k (sweep_jobs n)

      inner_is : tree_in k (run_all line st inner_jobs) ≡ settled_alone tree n (tree_in k st)
      inner_is =
          ap (tree_in k) (run_append line (rounds_jobs line n k n st) (in_segment k (sweep_jobs n)) st)
          ∙ runs_are effect sizes small k (sweep_jobs n) (low_sweep n few) (run_all line st (rounds_jobs line n k n st))
          ∙ ap (λ s. run_all tree s (sweep_jobs n)) (rounds_is n st)

      inner_long : length (all_events line st inner_jobs) ≡ length (alone_events tree n (tree_in k st))
      inner_long =
          let done = run_all line st (rounds_jobs line n k n st) in
          let first = rounds_long n st in
          let last = runs_long effect sizes small k (sweep_jobs n) (low_sweep n few) done ∙ ap (λ s. length (all_events tree s (sweep_jobs n))) (rounds_is n st) in
          events_append line (rounds_jobs line n k n st) (in_segment k (sweep_jobs n)) st
          ∙ (λ t. first t + last t)
          ∙ sym (length-append (rounds_events tree n n (tree_in k st)) (all_events tree (rounds tree n n (tree_in k st)) (sweep_jobs n)))

      from_inner : AreFrom k inner_jobs
      from_inner = both_all (λ j. 2048 * k ≤ j) (rounds_jobs line n k n st) (in_segment k (sweep_jobs n)) (from_rounds n st) (from_segment k (sweep_jobs n))

  -- ---- what is behind stays

  -- no job reads what one behind its segment gives, nor what its segment's Pass gives
  unread : (j i : ℕ) → 2048 * (i / 2048) + 2048 ≤ j + 1 → IsUnread line j i
  unread j i h x e = by_case (has_cell x (line_outputs sizes (line_job j))) refl
    where
      by_case : (b : Bool) → has_cell x (line_outputs sizes (line_job j)) ≡ b → b ≡ false
      by_case true f =
          let fed = feeds sizes small (line_job i) (line_job j) x e f in
          let from : line_code (line_job j) ≡ j = code_back j in
          let at : segment_of (line_job i) ≡ i / 2048 = segment_at (i / 2048) (i % 2048) in
          absurd (omega (arith, fed, from, at, h))
      by_case false f = refl

  keeps_behind : (k : ℕ) (jobs : List ℕ) → AreFrom k jobs → (st : State) → IsAlone line st → IsBehind k st → IsBehind k (run_all line st jobs)
  keeps_behind k [] from st a h = h
  keeps_behind k (j ∷ js) from st a h =
      keeps_behind k js from.1 (run_if_pending line st j) (run_alone line (line_is_net sizes small effect) st a j)
      (λ code lt. run_keeps line (line_is_net sizes small effect) st a j code (unread j code (let g = from.0 in omega (arith, lt, g))) (h code lt))

  -- ---- a segment and its Pass

  module _ (k : ℕ) (st : State) (a : IsAlone line st) where
    abbrev inner : State
    inner = run_all line st (inner_jobs k st)

    inner_alone : IsAlone line inner
    inner_alone = all_alone line (line_is_net sizes small effect) (inner_jobs k st) st a

    tree_clean : (j : ℕ) → j < 2047 → inner.status (2048 * k + j) ≡ Clean
    tree_clean j h =
        let tell : (tree_in k inner).status j ≡ Clean =
        ap (λ (s : State). s.status j) (inner_is k st) ∙ rounds_settle (effect_in effect k) (size_in sizes k) (tree_in k st) (tree_alone effect sizes small k st a) j in
        sym (low_status effect sizes small k inner j h) ∙ tell

    inner_clean : IsBehind k st → (code : ℕ) → code < 2048 * k + 2047 → inner.status code ≡ Clean
    inner_clean h code lt = elim (lt_tells code (2048 * k)) [
      | inl g ↦ keeps_behind k (inner_jobs k st) (from_inner k st) st a h code g.1
      | inr g ↦
          let at : 2048 * k + (code - 2048 * k) ≡ code = omega (arith, g.1) in
          ap inner.status (sym at) ∙ tree_clean (code - 2048 * k) (omega (arith, lt, g.1))
    ]

    abbrev passed : State
    passed = run_if_pending line inner (2048 * k + 2047)

    passed_is : run_all line st (segment_jobs line (size_in sizes k) k st) ≡ passed
    passed_is = run_append line (inner_jobs k st) ((2048 * k + 2047) ∷ []) st

    passed_clean : IsBehind k st → IsBehind (suc k) passed
    passed_clean h code lt = elim (eqb_tells code (2048 * k + 2047)) [
      | inl g ↦
          ap passed.status g.1
          ∙ run_clean line (line_is_net sizes small effect) inner inner_alone (2048 * k + 2047) (unread (2048 * k + 2047) (2048 * k + 2047) (omega arith))
      | inr g ↦
          run_keeps line (line_is_net sizes small effect) inner inner_alone (2048 * k + 2047) code (unread (2048 * k + 2047) code (omega (arith, lt)))
          (inner_clean h code (omega (arith, lt, g.1)))
    ]

    -- a Pass that isn't there takes no events
    pass_few : (b : Bool) → hands_on sizes k ≡ b → length (run_events line inner (2048 * k + 2047)) ≤ (if b then 2 else 0)
    pass_few true e = run_length line inner (2048 * k + 2047)
    pass_few false e =
        let none : line_inputs sizes (line_job (2048 * k + 2047)) ≡ [] =
        ap (line_inputs sizes) (pass_at k) ∙ ap (λ b. if b then placed k (Correction 0) ∷ placed k (Effect 0) ∷ [] else []) e in
        let zero_long = no_events line inner (2048 * k + 2047) (inner_alone.kept.idle (2048 * k + 2047) none) in
        omega (arith, zero_long)

    segment_few : length (all_events line st (segment_jobs line (size_in sizes k) k st))
        ≤ 2 * ((size_in sizes k + 1) * 2 * (size_in sizes k - 1) + size_in sizes k) + (if hands_on sizes k then 2 else 0)
    segment_few =
        let whole = events_append line (inner_jobs k st) ((2048 * k + 2047) ∷ []) st in
        let last = length-append (run_events line inner (2048 * k + 2047)) [] in
        let one = pass_few (hands_on sizes k) refl in
        let long = inner_long k st in
        let bound = alone_length (effect_in effect k) (size_in sizes k) (tree_in k st) (tree_alone effect sizes small k st a) in
        omega (arith, whole, last, one, long, bound)

  -- ---- the line

  module _ (st : State) (a : IsAlone line st) where
    sofar : (k : ℕ) → IsAlone line (run_all line st (line_jobs line sizes k st))
    sofar k = all_alone line (line_is_net sizes small effect) (line_jobs line sizes k st) st a

    line_clean : (k : ℕ) → IsBehind k (run_all line st (line_jobs line sizes k st))
    line_clean zero = λ code lt. absurd (omega (arith, lt))
    line_clean (suc k) =
        let before = run_all line st (line_jobs line sizes k st) in
        subst (IsBehind (suc k)) (sym (run_append line (line_jobs line sizes k st) (segment_jobs line (size_in sizes k) k before) st ∙ passed_is k before (sofar k)))
        (passed_clean k before (sofar k) (line_clean k))

    -- a code behind the last segment is no job's
    none_behind : (code : ℕ) → length sizes ≤ code / 2048 → line_inputs sizes (line_job code) ≡ []
    none_behind code out = by_place (code % 2048 == 2047)
      where
        size : size_in sizes (code / 2048) ≡ 0
        size = get_or-eq_default sizes 0 out

        last : hands_on sizes (code / 2048) ≡ false
        last = lt_false (code / 2048 + 1) (length sizes) (omega (arith, out))

        by_place : (b : Bool) → line_inputs sizes (if b then Pass (code / 2048) else Own (code / 2048) (job_of (code % 2048))) ≡ []
        by_place true = ap (λ b. if b then placed (code / 2048) (Correction 0) ∷ placed (code / 2048) (Effect 0) ∷ [] else []) last
        by_place false = ap (λ m. map (placed (code / 2048)) (inputs_of (tree_of m) (job_of (code % 2048)))) size ∙ ap (map (placed (code / 2048))) (none_reads (job_of (code % 2048)))

    pub line_settled : IsSettled (run_all line st (line_jobs line sizes (length sizes) st))
    line_settled code = elim (lt_tells code (2048 * length sizes)) [
      | inl h ↦ line_clean (length sizes) code h.1
      | inr h ↦ (sofar (length sizes)).kept.idle code (none_behind code (omega (arith, h.1)))
    ]

    pub line_few : (k : ℕ) → length (all_events line st (line_jobs line sizes k st)) ≤ line_bound sizes k
    line_few zero = omega arith
    line_few (suc k) =
        let before = run_all line st (line_jobs line sizes k st) in
        let whole = events_append line (line_jobs line sizes k st) (segment_jobs line (size_in sizes k) k before) st in
        let first = line_few k in
        let last = segment_few k before (sofar k) in
        omega (arith, whole, first, last)

    pub line_legal : replay line (Some st) (all_events line st (line_jobs line sizes (length sizes) st)) ≡ Some (run_all line st (line_jobs line sizes (length sizes) st))
    line_legal = all_replay line (line_is_net sizes small effect) (line_jobs line sizes (length sizes) st) st a

  module _ (events : List Event) (st : State) (h : replay line (Some (opening line)) events ≡ Some st) (free : IsUnclaimed st) where
    pub reached_line : IsAlone line st
    reached_line = record { kept = line_kept sizes small effect events st h; free = free }
