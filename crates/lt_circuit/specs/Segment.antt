-- A segment of a line: the tables of its tree, and the Pass behind it.
use Rattle.std.specs.Prelude.{◌≢◌, ◌<◌, ◌≤◌, ℕ, Bool, false, if◌then◌else◌, ◌==◌, List, Option}
use Rattle.lt_net.specs.declared.job.JobState.{JobState}
use Rattle.lt_net.specs.declared.job.JobState.TheVariants.{Clean, Pending, Running, Dirty}
use Rattle.lt_net.specs.Net.{Cell, Correction, State, Claim, same_at, update, woken}
use Rattle.lt_model.specs.declared.mark.Mark.{Mark}
use Rattle.lt_net.specs.Row.{pass_inputs}
use Rattle.lt_circuit.specs.Board.{BoardView, standing, state_of}
use Rattle.lt_circuit.specs.Store.{with_value}

-- a tree's state with that of its Pass, whose place is behind the tree's jobs
abbrev pub passing : State → JobState → State
passing s p = record s { status = λ c. if c == 2047 then p else s.status c }

-- what a contract sees of a segment. `on` says that another stands behind it
pub record SegmentView : Type 0 where
  pub board : BoardView
  pub pass : JobState
  pub on : Bool

abbrev pub segment_state : SegmentView → State
segment_state v = passing (state_of v.board) v.pass

-- a Pass is to be done at the opening, where there is one
abbrev pub first_pass : Bool → JobState
first_pass on = if on then Pending else Clean

-- the worker's claim is another
abbrev pub with_claim : State → ℕ → Option Claim → State
with_claim s w o = record s { claim = update s.claim w o }

-- what the Pass waits for once these marks stand at a cell
abbrev pub pass_stored : State → JobState → Bool → Cell → List Mark → JobState
pass_stored s p on x m = if same_at s.value (with_value s.value x m) (pass_inputs on) then p else woken p

-- once the root has this correction
abbrev pub pass_given : State → JobState → Bool → List Mark → JobState
pass_given s p on m = pass_stored s p on (Correction 0) m

-- there is a Pass, and it reads the node's effect
abbrev pub is_read : Bool → ℕ → Bool
is_read on node = if on then node == 0 else false

-- what a Pass waits for, where there is one, after a cell that it reads has changed or not
abbrev pub after_change : JobState → (on changed : Bool) → JobState
after_change p on changed = if on then (if changed then woken p else p) else p

-- how many claims a Pass has
abbrev pub pass_claims : JobState → ℕ
pass_claims Clean = 0
pass_claims Pending = 0
pass_claims Running = 1
pass_claims Dirty = 1

-- no job of the tree is Pending, and no claim stands but the Pass's
pub record IsStill (v : SegmentView) : Type 0 where
  pub none : (place : ℕ) → place < 2047 → (state_of v.board).status place ≢ Pending
  pub alone : standing v.board.claims ≤ pass_claims v.pass
