-- What a contract sees of a job that a worker holds.
use Rattle.std.specs.Prelude.{◌≡◌, ℕ, List, [], ◌∷◌, Option, Some, None, slice_set as set, slice_index_or, option_map}
use Rattle.lt_model.specs.declared.mark.Mark.{Mark}
use Rattle.lt_circuit.specs.declared.task.Prior.{Prior}
use Rattle.lt_circuit.specs.declared.task.Task.{Task}
use Rattle.lt_circuit.specs.declared.task.Task.TheVariants.{Leaf as LeafTask, Merge as MergeTask, Correct as CorrectTask, Pass as PassTask}
use Rattle.lt_circuit.specs.declared.task.Done.{Done}
use Rattle.lt_circuit.specs.declared.task.Done.TheVariants.{Leaf as LeafDone, Merge as MergeDone, Correct as CorrectDone, Pass as PassDone}
use Rattle.lt_net.specs.declared.job.JobName.{JobName}
use Rattle.lt_net.specs.declared.job.JobName.TheVariants.{Leaf, Merge, Correct, Pass}
use Rattle.lt_model.specs.Marks.{and_then}
use Rattle.lt_circuit.specs.declared.cells.Inputs.{Inputs}
use Rattle.lt_circuit.specs.Board.{inputs_list}
use Rattle.lt_net.specs.Net.{Claim, first_of, second_of}
use Rattle.lt_net.specs.Codes.{code_of}

abbrev pub task_name : {T : Type 0} → Task T → JobName
task_name (LeafTask leaf correction prior) = Leaf leaf
task_name (MergeTask node left right) = Merge node
task_name (CorrectTask node correction left) = Correct node
task_name (PassTask segment correction effect) = Pass segment

abbrev pub task_inputs : {T : Type 0} → Task T → List (List Mark)
task_inputs (LeafTask leaf correction prior) = correction ∷ []
task_inputs (MergeTask node left right) = left ∷ right ∷ []
task_inputs (CorrectTask node correction left) = correction ∷ left ∷ []
task_inputs (PassTask segment correction effect) = correction ∷ effect ∷ []

abbrev pub prior_correction : {T : Type 0} → Option (Prior T) → Option (List Mark)
prior_correction None = None
prior_correction (Some p) = Some p.correction

abbrev pub task_prior : {T : Type 0} → Task T → Option (Prior T)
task_prior (LeafTask leaf correction prior) = prior
task_prior (MergeTask node left right) = None
task_prior (CorrectTask node correction left) = None
task_prior (PassTask segment correction effect) = None

-- how many inputs a job has
abbrev pub arity : JobName → ℕ
arity (Leaf leaf) = 1
arity (Merge node) = 2
arity (Correct node) = 2
arity (Pass segment) = 2

-- the task of a job on its inputs, with a leaf's tally out of its place
abbrev pub task_from : {T : Type 0} → JobName → Inputs → List (Option (Prior T)) → Task T
task_from (Leaf leaf) inputs tallies = LeafTask leaf (first_of (inputs_list inputs)) (slice_index_or tallies leaf None)
task_from (Merge node) inputs tallies = MergeTask node (first_of (inputs_list inputs)) (second_of (inputs_list inputs))
task_from (Correct node) inputs tallies = CorrectTask node (first_of (inputs_list inputs)) (second_of (inputs_list inputs))
task_from (Pass segment) inputs tallies = PassTask segment (first_of (inputs_list inputs)) (second_of (inputs_list inputs))

-- the tally that a claim of the job takes
abbrev pub prior_of : {T : Type 0} → JobName → List (Option (Prior T)) → Option (Prior T)
prior_of (Leaf leaf) tallies = slice_index_or tallies leaf None
prior_of (Merge node) tallies = None
prior_of (Correct node) tallies = None
prior_of (Pass segment) tallies = None

-- the tallies without the one that a claim of the job takes
abbrev pub tallies_left : {T : Type 0} → JobName → List (Option (Prior T)) → List (Option (Prior T))
tallies_left (Leaf leaf) tallies = set tallies leaf None
tallies_left (Merge node) tallies = tallies
tallies_left (Correct node) tallies = tallies
tallies_left (Pass segment) tallies = tallies

-- the tallies with the one that the job took put back
abbrev pub tallies_back : {T : Type 0} → Task T → List (Option (Prior T)) → List (Option (Prior T))
tallies_back (LeafTask leaf correction prior) tallies = set tallies leaf prior
tallies_back (MergeTask node left right) tallies = tallies
tallies_back (CorrectTask node correction left) tallies = tallies
tallies_back (PassTask segment correction effect) tallies = tallies

pub record JobView (W T : Type 0) : Type 0 where
  pub work : W
  pub task : Task T

abbrev pub name_of_job : {W T : Type 0} → JobView W T → JobName
name_of_job j = task_name j.task

-- how many moves the task takes at most, where it is told: a leaf's as its work tells, the others' none
abbrev pub task_bound : {T : Type 0} → (Option T → ℕ → List Mark → Option ℕ) → Task T → Option ℕ
task_bound bound (LeafTask leaf correction prior) = bound (option_map (λ p. p.tally) prior) leaf correction
task_bound bound (MergeTask node left right) = Some 0
task_bound bound (CorrectTask node correction left) = Some 0
task_bound bound (PassTask segment correction effect) = Some 0

-- the claim that the job is of
abbrev pub claim_of_job : {W T : Type 0} → JobView W T → Claim
claim_of_job j = record { job = code_of (task_name j.task); inputs = task_inputs j.task; prior = prior_correction (task_prior j.task) }

abbrev pub IsPrior : {T : Type 0} → (T → ℕ → List Mark → Type 0) → (List Mark → Type 0) → ℕ → Option (Prior T) → Type 0
IsPrior stands_for fits leaf None = Unit {0}
IsPrior stands_for fits leaf (Some p) = fits p.correction × stands_for p.tally leaf p.correction

-- The job's inputs fit. A leaf's job is of a leaf of the work, and its prior tally stands for that leaf.
abbrev pub IsTask : {T : Type 0} → (T → ℕ → List Mark → Type 0) → (List Mark → Type 0) → (ℕ → Type 0) → Task T → Type 0
IsTask stands_for fits has (LeafTask leaf correction prior) = has leaf × fits correction × IsPrior stands_for fits leaf prior
IsTask stands_for fits has (MergeTask node left right) = fits left × fits right
IsTask stands_for fits has (CorrectTask node correction left) = fits correction × fits left
IsTask stands_for fits has (PassTask segment correction effect) = fits correction × fits effect

-- ---- what was done

abbrev pub done_name : {T : Type 0} → Done T → JobName
done_name (LeafDone leaf tally kept prior effect) = Leaf leaf
done_name (MergeDone node left right effect) = Merge node
done_name (CorrectDone node correction left to_right) = Correct node
done_name (PassDone segment correction effect next) = Pass segment

abbrev pub done_inputs : {T : Type 0} → Done T → List (List Mark)
done_inputs (LeafDone leaf tally kept prior effect) = tally.correction ∷ []
done_inputs (MergeDone node left right effect) = left ∷ right ∷ []
done_inputs (CorrectDone node correction left to_right) = correction ∷ left ∷ []
done_inputs (PassDone segment correction effect next) = correction ∷ effect ∷ []

abbrev pub done_prior : {T : Type 0} → Done T → Option (List Mark)
done_prior (LeafDone leaf tally kept prior effect) = prior_correction prior
done_prior (MergeDone node left right effect) = None
done_prior (CorrectDone node correction left to_right) = None
done_prior (PassDone segment correction effect next) = None

pub record OutputView (W T : Type 0) : Type 0 where
  pub work : W
  pub did : Done T

abbrev pub name_of_output : {W T : Type 0} → OutputView W T → JobName
name_of_output o = done_name o.did

-- the claim that the output is of
abbrev pub claim_of_output : {W T : Type 0} → OutputView W T → Claim
claim_of_output o = record { job = code_of (done_name o.did); inputs = done_inputs o.did; prior = done_prior o.did }

-- the tallies with the one that a leaf's job made
abbrev pub tallies_done : {T : Type 0} → Done T → List (Option (Prior T)) → List (Option (Prior T))
tallies_done (LeafDone leaf tally kept prior effect) tallies = set tallies leaf (Some tally)
tallies_done (MergeDone node left right effect) tallies = tallies
tallies_done (CorrectDone node correction left to_right) tallies = tallies
tallies_done (PassDone segment correction effect next) tallies = tallies

-- What was given is the job's function of the inputs: a Pass gives all that the leaves up to its segment's last one do.
abbrev pub Gave : {T : Type 0} → (ℕ → List Mark → List Mark) → Done T → Type 0
Gave does (LeafDone leaf tally kept prior effect) = (kept ≡ tally.correction) × (effect ≡ does leaf tally.correction)
Gave does (MergeDone node left right effect) = effect ≡ and_then left right
Gave does (CorrectDone node correction left to_right) = to_right ≡ and_then correction left
Gave does (PassDone segment correction effect next) = next ≡ and_then correction effect

-- A leaf's new tally stands for the leaf on the inputs.
abbrev pub HasTally : {T : Type 0} → (T → ℕ → List Mark → Type 0) → (List Mark → Type 0) → Done T → Type 0
HasTally stands_for fits (LeafDone leaf tally kept prior effect) = fits tally.correction × stands_for tally.tally leaf tally.correction
HasTally stands_for fits (MergeDone node left right effect) = Unit {0}
HasTally stands_for fits (CorrectDone node correction left to_right) = Unit {0}
HasTally stands_for fits (PassDone segment correction effect next) = Unit {0}

-- The output is the job's function of its inputs, and a leaf's tally stands for the leaf on them.
pub record IsOutput {T : Type 0} (does : ℕ → List Mark → List Mark) (stands_for : T → ℕ → List Mark → Type 0) (fits : List Mark → Type 0) (did : Done T) : Type 0 where
  pub gave : Gave does did
  pub has_tally : HasTally stands_for fits did
