-- The segments of a line in their order, as the line's state.
use Rattle.std.specs.Prelude.{◌≡◌, ◌≢◌, ℕ, zero, suc, ◌+◌, ◌<◌, ◌≤◌, Bool, false, List, [], Option, map, length, slice_index_or, slice_set}
use Rattle.lt_face.specs.Limits.{most_programs}
use Rattle.lt_net.specs.declared.job.JobState.TheVariants.{Clean}
use Rattle.lt_model.specs.declared.mark.Mark.{Mark}
use Rattle.lt_net.specs.Net.{State, opening}
use Rattle.lt_net.specs.Line.{hands_on, size_in}
use Rattle.lt_net.specs.Row.{passing_net, row_state}
use Rattle.lt_circuit.specs.declared.cells.Held.{Held}
use Rattle.lt_circuit.specs.Board.{standing}
use Rattle.lt_circuit.specs.Segment.{SegmentView, segment_state, IsStill}

-- what stands for a segment behind the last
abbrev pub no_segment : SegmentView
no_segment = record { board = record { leaves = 0; nodes = []; states = []; done = []; claims = [] }; pass = Clean; on = false }

abbrev pub segment_at : List SegmentView → ℕ → SegmentView
segment_at segments s = slice_index_or segments s no_segment

abbrev pub parts : List SegmentView → ℕ → State
parts segments s = segment_state (segment_at segments s)

abbrev pub sizes : List SegmentView → List ℕ
sizes segments = map (λ (v : SegmentView). v.board.leaves) segments

-- the line's state
abbrev pub row_of : List SegmentView → State
row_of segments = row_state (length segments) (parts segments)

-- how many claims stand in the first segments
abbrev pub standing_below : List SegmentView → ℕ → ℕ
standing_below segments zero = 0
standing_below segments (suc s) = standing_below segments s + standing (segment_at segments s).board.claims

-- how many stand in all of them
abbrev pub standing_in : List SegmentView → ℕ
standing_in segments = standing_below segments (length segments)

-- in segment s the worker's claim is another, and no other claim is
pub record HasChangedClaim (s worker : ℕ) (claim : Option Held) (old new : List SegmentView) : Type 0 where
  pub long : length new ≡ length old
  pub here : (segment_at new s).board.claims ≡ slice_set (segment_at old s).board.claims worker claim
  pub others : (r : ℕ) → r ≢ s → (segment_at new r).board.claims ≡ (segment_at old r).board.claims

-- how many segments there are at most
abbrev pub most_segments : ℕ
most_segments = 8

pub record IsRow (segments : List SegmentView) : Type 0 where
  pub short : length segments ≤ most_segments
  pub few : (s : ℕ) → (segment_at segments s).board.leaves ≤ most_programs
  pub on : (s : ℕ) → (segment_at segments s).on ≡ hands_on (sizes segments) s

-- the segment is at its opening, over n leaves
pub record IsOpening (v : SegmentView) (n : ℕ) (on : Bool) : Type 0 where
  pub size : v.board.leaves ≡ n
  pub hands : v.on ≡ on
  pub free : standing v.board.claims ≡ 0
  pub state : (effect : ℕ → List Mark → List Mark) → segment_state v ≡ opening (passing_net effect n on)

-- so are the first segments of a row over so many leaves each
pub record AreOpening (segments : List SegmentView) (leaves : List ℕ) (count : ℕ) : Type 0 where
  pub long : length segments ≡ count
  pub each : (s : ℕ) → s < count → IsOpening (segment_at segments s) (size_in leaves s) (hands_on leaves s)

-- the front goes past the segment: it is still, and the Pass before it is Clean
pub record IsPassable (segments : List SegmentView) (s : ℕ) : Type 0 where
  pub still : IsStill (segment_at segments s)
  pub passed : (r : ℕ) → r + 1 ≡ s → (segment_at segments r).pass ≡ Clean
