-- What a worker alone does: it runs jobs that are Pending, one at a time, in sweeps and rounds.
use Rattle.std.specs.Prelude.{◌≡◌, ℕ, zero, suc, ◌+◌, true, false, if◌then◌else◌, List, [], ◌∷◌, ◌++◌, Option, Some, None}
use Rattle.lt_model.specs.declared.mark.Mark.{Mark}
use Rattle.lt_net.specs.declared.job.JobState.TheVariants.{Clean}
use Rattle.lt_net.specs.declared.job.JobName.TheVariants.{Leaf, Merge, Correct}
use Rattle.lt_net.specs.Kept.{IsKept}
use Rattle.lt_net.specs.Net.{Net, State, Claim, Event, Claims, Finishes, is_pending, read, claimed, finished}
use Rattle.lt_net.specs.Tree.{Tree, right_in, circuit_net, tree_of}
use Rattle.lt_net.specs.Codes.{code_of, nodes_over}

-- the net of a circuit over n leaves
abbrev pub net_over : (ℕ → List Mark → List Mark) → ℕ → Net
net_over effect n = circuit_net effect (tree_of n)

-- no claim stands
abbrev pub IsUnclaimed : State → Type 0
IsUnclaimed s = (w : ℕ) → s.claim w ≡ None

-- what holds of a state before and after each run
pub record IsAlone (net : Net) (s : State) : Type 0 where
  pub kept : IsKept net s
  pub free : IsUnclaimed s

-- no job but a leaf's is Pending, Running or Dirty
pub record IsSwept (s : State) : Type 0 where
  pub merges : (v : ℕ) → s.status (code_of (Merge v)) ≡ Clean
  pub corrects : (v : ℕ) → s.status (code_of (Correct v)) ≡ Clean

abbrev pub claim_for : Net → State → ℕ → Claim
claim_for net s j = record { job = j; inputs = read s.value (net.inputs j); prior = s.done j }

-- worker 0 claims the job and finishes it
abbrev pub ran : Net → State → ℕ → State
ran net s j = finished net (claimed net s 0 j) 0 (claim_for net s j)

-- the job is run where it is Pending
abbrev pub run_if_pending : Net → State → ℕ → State
run_if_pending net s j = if is_pending (s.status j) then ran net s j else s

abbrev pub run_events : Net → State → ℕ → List Event
run_events net s j = if is_pending (s.status j) then Claims 0 j ∷ Finishes 0 j ∷ [] else []

-- the jobs, each run where it is then Pending
abbrev pub run_all : Net → State → List ℕ → State
run_all net s [] = s
run_all net s (j ∷ jobs) = run_all net (run_if_pending net s j) jobs

abbrev pub all_events : Net → State → List ℕ → List Event
all_events net s [] = []
all_events net s (j ∷ jobs) = run_events net s j ++ all_events net (run_if_pending net s j) jobs

-- the Merges of the nodes below k, bottom up
abbrev pub merges_down : ℕ → List ℕ
merges_down zero = []
merges_down (suc k) = code_of (Merge k) ∷ merges_down k

-- the Corrects of so many nodes from v on, top down
abbrev pub corrects_up : (v count : ℕ) → List ℕ
corrects_up v zero = []
corrects_up v (suc count) = code_of (Correct v) ∷ corrects_up (suc v) count

abbrev pub sweep_jobs : ℕ → List ℕ
sweep_jobs n = merges_down (nodes_over n) ++ corrects_up 0 (nodes_over n)

-- the Merges bottom up, then the Corrects top down
abbrev pub sweep : Net → ℕ → State → State
sweep net n s = run_all net s (sweep_jobs n)

-- the lowest of so many leaves from i on whose job is Pending
abbrev pub lowest_pending : State → (i count : ℕ) → Option ℕ
lowest_pending s i zero = None
lowest_pending s i (suc count) = elim (is_pending (s.status (code_of (Leaf i)))) [ true ↦ Some i | false ↦ lowest_pending s (suc i) count ]

abbrev pub leaf_jobs : Option ℕ → List ℕ
leaf_jobs None = []
leaf_jobs (Some i) = code_of (Leaf i) ∷ []

-- what a round does after its sweep: the lowest leaf that is Pending
abbrev pub chosen : ℕ → State → List ℕ
chosen n s = leaf_jobs (lowest_pending s 0 n)

-- a sweep, then the lowest Pending leaf
abbrev pub round : Net → ℕ → State → State
round net n s = run_all net (sweep net n s) (chosen n (sweep net n s))

abbrev pub round_events : Net → ℕ → State → List Event
round_events net n s = all_events net s (sweep_jobs n) ++ all_events net (sweep net n s) (chosen n (sweep net n s))

abbrev pub rounds : Net → ℕ → ℕ → State → State
rounds net n zero s = s
rounds net n (suc r) s = rounds net n r (round net n s)

abbrev pub rounds_events : Net → ℕ → ℕ → State → List Event
rounds_events net n zero s = []
rounds_events net n (suc r) s = round_events net n s ++ rounds_events net n r (round net n s)

-- n rounds and a last sweep
abbrev pub settled_alone : Net → ℕ → State → State
settled_alone net n s = sweep net n (rounds net n n s)

abbrev pub alone_events : Net → ℕ → State → List Event
alone_events net n s = rounds_events net n n s ++ all_events net (rounds net n n s) (sweep_jobs n)

-- ---- how many jobs there are to be run

abbrev pub one_if : Option ℕ → ℕ
one_if None = 0
one_if (Some right) = 1

-- how many of the nodes below k are inner ones
abbrev pub inner_below : Option Tree → ℕ → ℕ
inner_below t zero = 0
inner_below t (suc k) = inner_below t k + one_if (right_in t k)
