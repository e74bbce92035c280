-- A net of jobs over cells that hold marks, its state, and its events. No tree is in it.
use Rattle.std.specs.Prelude.{◌≡◌, ℕ, Bool, true, false, if◌then◌else◌, List, [], ◌∷◌, map, Option, Some, None, ◌==◌, ◌&&◌, ◌||◌}
use Rattle.lt_model.specs.declared.mark.Mark.{Mark}
use Rattle.lt_net.specs.Same.{same_marks}
use Rattle.lt_net.specs.declared.job.JobState.{JobState}
use Rattle.lt_net.specs.declared.job.JobState.TheVariants.{Clean, Pending, Running, Dirty}

-- what a job reads and writes: each node has a correction and an effect
pub data Cell : Type 0 where
  Correction : (node : ℕ) → Cell
  Effect : (node : ℕ) → Cell

abbrev pub same_cell : Cell → Cell → Bool
same_cell (Correction v) (Correction w) = v == w
same_cell (Effect v) (Effect w) = v == w
same_cell (Correction v) (Effect w) = false
same_cell (Effect v) (Correction w) = false

-- one of the cells is this one
abbrev pub has_cell : Cell → List Cell → Bool
has_cell c [] = false
has_cell c (d ∷ ds) = same_cell c d || has_cell c ds

-- Jobs go by their codes. A code that is no job has no inputs and no outputs.
pub record Net : Type 0 where
  pub inputs : ℕ → List Cell
  pub outputs : ℕ → List Cell
  pub gives : ℕ → List (List Mark) → Cell → List Mark  -- what the job, on these inputs, gives an output
  pub starts : ℕ → Bool  -- the job is Pending at the opening
  pub is_leaf : ℕ → Bool  -- it keeps the correction that it last finished with

-- a worker's claim, with the inputs that stood when it was made, and for a leaf the correction of the tally that was captured
pub record Claim : Type 0 where
  pub job : ℕ
  pub inputs : List (List Mark)
  pub prior : Option (List Mark)

pub record State : Type 0 where
  pub value : Cell → List Mark
  pub status : ℕ → JobState
  pub done : ℕ → Option (List Mark)  -- per leaf job: the correction that it last finished with
  pub claim : ℕ → Option Claim  -- per worker

-- f, but v at k
abbrev pub update : {X : Type 0} → (ℕ → X) → ℕ → X → ℕ → X
update f k v x = if x == k then v else f x

abbrev pub read : (Cell → List Mark) → List Cell → List (List Mark)
read value cells = map value cells

abbrev pub first_of : List (List Mark) → List Mark
first_of [] = []
first_of (x ∷ xs) = x

abbrev pub second_of : List (List Mark) → List Mark
second_of [] = []
second_of (x ∷ xs) = first_of xs

-- the same marks stand at each of the cells
abbrev pub same_at : (Cell → List Mark) → (Cell → List Mark) → List Cell → Bool
same_at f g [] = true
same_at f g (c ∷ cs) = same_marks (f c) (g c) && same_at f g cs

-- a job one of whose inputs has changed
abbrev pub woken : JobState → JobState
woken Clean = Pending
woken Pending = Pending
woken Running = Dirty
woken Dirty = Dirty

-- a job whose claim is finished
abbrev pub ended : JobState → JobState
ended Clean = Clean
ended Pending = Pending
ended Running = Clean
ended Dirty = Pending

abbrev pub is_held : JobState → Bool
is_held Clean = false
is_held Pending = false
is_held Running = true
is_held Dirty = true

abbrev pub is_pending : JobState → Bool
is_pending Clean = false
is_pending Pending = true
is_pending Running = false
is_pending Dirty = false

abbrev pub is_clean : JobState → Bool
is_clean Clean = true
is_clean Pending = false
is_clean Running = false
is_clean Dirty = false

-- the cells after the claimed job's outputs are stored
abbrev pub value_after : Net → State → Claim → Cell → List Mark
value_after net s c x = if has_cell x (net.outputs c.job) then net.gives c.job c.inputs x else s.value x

abbrev pub status_ended : State → Claim → ℕ → JobState
status_ended s c = update s.status c.job (ended (s.status c.job))

abbrev pub claimed : Net → State → ℕ → ℕ → State
claimed net s worker job = record s {
  status = update s.status job Running;
  claim = update s.claim worker (Some (record { job = job; inputs = read s.value (net.inputs job); prior = s.done job }));
}

abbrev pub finished : Net → State → ℕ → Claim → State
finished net s worker c = record {
  value = value_after net s c;
  status = λ j. if same_at s.value (value_after net s c) (net.inputs j) then status_ended s c j else woken (status_ended s c j);
  done = if net.is_leaf c.job then update s.done c.job (Some (first_of c.inputs)) else s.done;
  claim = update s.claim worker None;
}

abbrev pub abandoned : State → ℕ → Claim → State
abandoned s worker c = record s { status = update s.status c.job Pending; claim = update s.claim worker None }

pub data Event : Type 0 where
  Claims : (worker job : ℕ) → Event
  Finishes : (worker job : ℕ) → Event
  Abandons : (worker job : ℕ) → Event

-- the claim, where it is of this job
abbrev pub claim_of : Option Claim → ℕ → Option Claim
claim_of None job = None
claim_of (Some c) job = if c.job == job then Some c else None

-- what the event leaves, or None where it isn't legal
abbrev pub claim_step : Net → State → ℕ → ℕ → Option Claim → Option State
claim_step net s worker job None = if is_pending (s.status job) then Some (claimed net s worker job) else None
claim_step net s worker job (Some c) = None

abbrev pub finish_step : Net → State → ℕ → Option Claim → Option State
finish_step net s worker None = None
finish_step net s worker (Some c) = Some (finished net s worker c)

abbrev pub abandon_step : State → ℕ → Option Claim → Option State
abandon_step s worker None = None
abandon_step s worker (Some c) = Some (abandoned s worker c)

abbrev pub step : Net → State → Event → Option State
step net s (Claims worker job) = claim_step net s worker job (s.claim worker)
step net s (Finishes worker job) = finish_step net s worker (claim_of (s.claim worker) job)
step net s (Abandons worker job) = abandon_step s worker (claim_of (s.claim worker) job)

-- the fold of the events. None where one of them isn't legal
abbrev pub replay : Net → Option State → List Event → Option State
replay net None es = None
replay net (Some s) [] = Some s
replay net (Some s) (e ∷ es) = replay net (step net s e) es

abbrev pub opening : Net → State
opening net = record {
  value = λ x. [];
  status = λ j. if net.starts j then Pending else Clean;
  done = λ j. None;
  claim = λ w. None;
}

-- the events are legal from the opening, and lead to the state
abbrev pub IsReached : Net → List Event → State → Type 0
IsReached net events s = replay net (Some (opening net)) events ≡ Some s

-- no job is Pending, Running or Dirty
abbrev pub IsSettled : State → Type 0
IsSettled s = (j : ℕ) → s.status j ≡ Clean
