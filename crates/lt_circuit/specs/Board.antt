-- What the tables of a board say of a circuit's state.
use Rattle.std.specs.Prelude.{◌≡◌, ℕ, ◌≤◌, if◌then◌else◌, List, [], ◌∷◌, Option, Some, None, length, slice_index_or, slice_set, max, zero, suc, ◌+◌, ◌++◌, nat_lt}
use Rattle.std.specs.Option.{option_map}
use Rattle.lt_face.specs.Limits.{most_programs, most_workers}
use Rattle.lt_model.specs.declared.mark.Mark.{Mark}
use Rattle.lt_net.specs.declared.job.JobState.{JobState}
use Rattle.lt_net.specs.declared.job.JobState.TheVariants.{Clean, Pending}
use Rattle.lt_circuit.specs.declared.cells.Node.{Node}
use Rattle.lt_circuit.specs.declared.cells.Inputs.{Inputs}
use Rattle.lt_circuit.specs.declared.cells.Inputs.TheVariants.{One, Two}
use Rattle.lt_circuit.specs.declared.cells.Held.{Held}
use Rattle.lt_net.specs.Net.{Cell, Correction, Effect, Claim, State, woken}
use Rattle.lt_net.specs.Codes.{code_of, job_of, nodes_over, codes_over}
use Rattle.lt_net.specs.declared.job.JobName.{JobName}
use Rattle.lt_net.specs.declared.job.JobName.TheVariants.{Leaf, Merge, Correct, Pass}

abbrev pub inputs_list : Inputs → List (List Mark)
inputs_list (One a) = a ∷ []
inputs_list (Two a b) = a ∷ b ∷ []

abbrev pub claim_from : Held → Claim
claim_from h = record { job = code_of h.job; inputs = inputs_list h.inputs; prior = h.prior }

abbrev pub bare_node : Node
bare_node = record { correction = []; effect = [] }

abbrev pub value_in : List Node → Cell → List Mark
value_in nodes (Correction v) = (slice_index_or nodes v bare_node).correction
value_in nodes (Effect v) = (slice_index_or nodes v bare_node).effect

-- what the leaf of a leaf's job last finished with
abbrev pub done_of : List (Option (List Mark)) → JobName → Option (List Mark)
done_of done (Leaf i) = slice_index_or done i None
done_of done (Merge v) = None
done_of done (Correct v) = None
done_of done (Pass s) = None

abbrev pub done_in : List (Option (List Mark)) → ℕ → Option (List Mark)
done_in done j = done_of done (job_of j)

abbrev pub board_state : List Node → List JobState → List (Option (List Mark)) → List (Option Held) → State
board_state nodes states done claims = record {
  value = value_in nodes;
  status = λ j. slice_index_or states j Clean;
  done = done_in done;
  claim = λ w. option_map claim_from (slice_index_or claims w None);
}

-- what a contract sees of a board: its tables
pub record BoardView : Type 0 where
  pub leaves : ℕ
  pub nodes : List Node
  pub states : List JobState
  pub done : List (Option (List Mark))
  pub claims : List (Option Held)

-- the state that the tables stand for
abbrev pub state_of : BoardView → State
state_of b = board_state b.nodes b.states b.done b.claims

pub record IsBoard (leaves : ℕ) (nodes : List Node) (states : List JobState) (done : List (Option (List Mark))) (claims : List (Option Held)) : Type 0 where
  pub small : leaves ≤ most_programs
  pub nodes_there : length nodes ≡ max (nodes_over leaves) 1
  pub states_there : length states ≡ codes_over leaves
  pub done_there : length done ≡ leaves
  pub claims_there : length claims ≡ most_workers

-- the table with the job's state woken
abbrev pub waked : BoardView → ℕ → BoardView
waked b job = record b { states = slice_set b.states job (woken (slice_index_or b.states job Clean)) }

abbrev pub waked_all : BoardView → List ℕ → BoardView
waked_all b [] = b
waked_all b (job ∷ jobs) = waked_all (waked b job) jobs

-- how many claims stand
abbrev pub standing : {X : Type 0} → List (Option X) → ℕ
standing [] = 0
standing (None ∷ xs) = standing xs
standing (Some x ∷ xs) = standing xs + 1

abbrev pub one_if : {X : Type 0} → Option X → ℕ
one_if None = 0
one_if (Some x) = 1

-- f at the numbers below n, in order
abbrev pub table : {X : Type 0} → (ℕ → X) → ℕ → List X
table f zero = []
table f (suc n) = table f n ++ f n ∷ []

-- at the opening a leaf's job is Pending
abbrev pub first_state_of : ℕ → JobName → JobState
first_state_of leaves (Leaf i) = if nat_lt i leaves then Pending else Clean
first_state_of leaves (Merge v) = Clean
first_state_of leaves (Correct v) = Clean
first_state_of leaves (Pass s) = Clean

abbrev pub first_state : (leaves job : ℕ) → JobState
first_state leaves job = first_state_of leaves (job_of job)
