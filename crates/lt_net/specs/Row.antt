-- A line's state as the row of its segments' states: the tables of each segment stand for themselves.
use Rattle.std.specs.Prelude.{◌≡◌, ◌≢◌, ℕ, zero, suc, ◌*◌, ◌+◌, ◌/◌, ◌%◌, ◌<◌, Bool, false, if◌then◌else◌, List, [], ◌∷◌, Option, Some, None, ◌==◌}
use Rattle.lt_model.specs.declared.mark.Mark.{Mark}
use Rattle.lt_model.specs.Marks.{and_then}
use Rattle.lt_net.specs.Net.{Cell, Correction, Effect, Net, State, Claim, first_of, second_of, same_cell, same_at, woken, update, status_ended}
use Rattle.lt_net.specs.Tree.{circuit_net, tree_of}
use Rattle.lt_net.specs.Line.{effect_in, hands_on, size_in}

-- what a Pass reads, where there is one
abbrev pub pass_inputs : Bool → List Cell
pass_inputs on = if on then Correction 0 ∷ Effect 0 ∷ [] else []

-- A tree over n leaves with one job more, that reads the root's cells and writes none of the tree's: the Pass to the next segment.
abbrev pub passing_net : (ℕ → List Mark → List Mark) → ℕ → Bool → Net
passing_net effect n on = record {
  inputs = λ c. if c == 2047 then pass_inputs on else (circuit_net effect (tree_of n)).inputs c;
  outputs = λ c. if c == 2047 then [] else (circuit_net effect (tree_of n)).outputs c;
  gives = (circuit_net effect (tree_of n)).gives;
  starts = λ c. if c == 2047 then on else (circuit_net effect (tree_of n)).starts c;
  is_leaf = λ c. if c == 2047 then false else (circuit_net effect (tree_of n)).is_leaf c;
}

abbrev pub segment_net : (ℕ → List Mark → List Mark) → List ℕ → ℕ → Net
segment_net effect sizes s = passing_net (effect_in effect s) (size_in sizes s) (hands_on sizes s)

-- the segment that a cell is of, and the cell in its tree
abbrev pub segment_in : Cell → ℕ
segment_in (Correction u) = u / 512
segment_in (Effect u) = u / 512

abbrev pub cell_in : Cell → Cell
cell_in (Correction u) = Correction (u % 512)
cell_in (Effect u) = Effect (u % 512)

-- a segment's claim, as the line's
abbrev pub lifted : ℕ → Claim → Claim
lifted s c = record { job = 2048 * s + c.job; inputs = c.inputs; prior = c.prior }

abbrev pub claim_or : ℕ → Option Claim → Option Claim → Option Claim
claim_or s None other = other
claim_or s (Some c) other = Some (lifted s c)

-- the worker's claim in one of the first segments
abbrev pub row_claim : ℕ → (ℕ → State) → ℕ → Option Claim
row_claim zero parts w = None
row_claim (suc s) parts w = claim_or s ((parts s).claim w) (row_claim s parts w)

abbrev pub row_state : ℕ → (ℕ → State) → State
row_state count parts = record {
  value = λ x. (parts (segment_in x)).value (cell_in x);
  status = λ code. (parts (code / 2048)).status (code % 2048);
  done = λ code. (parts (code / 2048)).done (code % 2048);
  claim = row_claim count parts;
}

-- the next segment's root is given its correction: whoever reads it is woken
abbrev pub given_root : Net → State → List Mark → State
given_root net s m = record s {
  value = λ y. if same_cell y (Correction 0) then m else s.value y;
  status = λ c. if same_at s.value (λ y. if same_cell y (Correction 0) then m else s.value y) (net.inputs c) then s.status c else woken (s.status c);
}

-- a claim ends and writes nothing in its segment
abbrev pub pass_closed : State → ℕ → Claim → State
pass_closed s w c = record s { status = status_ended s c; claim = update s.claim w None }

-- no other segment has a claim of the worker
abbrev pub HasNoOther : ℕ → (ℕ → State) → (s w : ℕ) → Type 0
HasNoOther count parts s w = (r : ℕ) → r < count → r ≢ s → (parts r).claim w ≡ None

-- the Pass of segment s is finished: its claim ends, and the next segment's root has what it gives
abbrev pub with_pass : (ℕ → List Mark → List Mark) → List ℕ → (ℕ → State) → (s w : ℕ) → Claim → ℕ → State
with_pass effect sizes parts s w c =
    update (update parts s (pass_closed (parts s) w c)) (s + 1)
    (given_root (segment_net effect sizes (s + 1)) (parts (s + 1)) (and_then (first_of c.inputs) (second_of c.inputs)))

-- the segment's state is another
abbrev pub with_part : (ℕ → State) → ℕ → State → ℕ → State
with_part parts s t = update parts s t
