-- What a worker alone does on a line: it goes over the segments in order, each as over a circuit, and then does its Pass.
use Rattle.std.specs.Prelude.{ℕ, zero, suc, ◌+◌, ◌-◌, ◌*◌, if◌then◌else◌, List, [], ◌∷◌, ◌++◌, map, None, nat_lt}
use Rattle.lt_net.specs.declared.job.JobState.TheVariants.{Clean}
use Rattle.lt_net.specs.Net.{Net, State}
use Rattle.lt_net.specs.Line.{hands_on, placed, size_in}
use Rattle.lt_net.specs.Alone.{run_all, sweep_jobs, chosen}

-- the jobs of segment k with these places
abbrev pub in_segment : ℕ → List ℕ → List ℕ
in_segment k places = map (λ place. 2048 * k + place) places

-- the segment's tree alone, as a circuit's state without claims: behind its places there are no jobs
abbrev pub tree_in : ℕ → State → State
tree_in k st = record {
  value = λ x. st.value (placed k x);
  status = λ place. if nat_lt place 2047 then st.status (2048 * k + place) else Clean;
  done = λ place. st.done (2048 * k + place);
  claim = λ w. None;
}

-- a sweep over a segment of n leaves, then its lowest leaf that is Pending
abbrev pub round_jobs : Net → (n k : ℕ) → State → List ℕ
round_jobs net n k st = in_segment k (sweep_jobs n) ++ in_segment k (chosen n (tree_in k (run_all net st (in_segment k (sweep_jobs n)))))

abbrev pub rounds_jobs : Net → (n k r : ℕ) → State → List ℕ
rounds_jobs net n k zero st = []
rounds_jobs net n k (suc r) st = round_jobs net n k st ++ rounds_jobs net n k r (run_all net st (round_jobs net n k st))

-- n rounds and a last sweep, then the Pass
abbrev pub segment_jobs : Net → (n k : ℕ) → State → List ℕ
segment_jobs net n k st = (rounds_jobs net n k n st ++ in_segment k (sweep_jobs n)) ++ (2048 * k + 2047) ∷ []

-- the jobs of the first k segments, in the order in which each is run where it is then Pending
abbrev pub line_jobs : Net → List ℕ → ℕ → State → List ℕ
line_jobs net sizes zero st = []
line_jobs net sizes (suc k) st = line_jobs net sizes k st ++ segment_jobs net (size_in sizes k) k (run_all net st (line_jobs net sizes k st))

-- how many events these are at most: as many as in a circuit, and two more for a Pass
abbrev pub line_bound : List ℕ → ℕ → ℕ
line_bound sizes zero = 0
line_bound sizes (suc k) = line_bound sizes k + 2 * ((size_in sizes k + 1) * 2 * (size_in sizes k - 1) + size_in sizes k) + (if hands_on sizes k then 2 else 0)
