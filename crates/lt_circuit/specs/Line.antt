-- What a contract sees of a line, and what holds of each.
use Rattle.std.specs.Prelude.{◌≡◌, ℕ, ◌+◌, ◌*◌, ◌/◌, ◌%◌, ◌≤◌, ◌<◌, List, map, Option, Some, length}
use Rattle.lt_model.specs.declared.mark.Mark.{Mark}
use Rattle.lt_net.specs.declared.job.JobName.{JobName}
use Rattle.lt_net.specs.declared.job.JobName.TheVariants.{Leaf, Merge, Correct, Pass}
use Rattle.lt_net.specs.Net.{Claim, Event, State, replay, opening}
use Rattle.lt_net.specs.Line.{AreSizes, LineJob, Own, Pass as PassOf, line_net, size_in}
use Rattle.lt_net.specs.Row.{HasNoOther}
use Rattle.lt_circuit.specs.declared.line.LineEntry.{LineEntry}
use Rattle.lt_circuit.specs.declared.task.Prior.{Prior}
use Rattle.lt_net.specs.Codes.{with_kind}
use Rattle.lt_circuit.specs.Entry.{event_on, kind_code}
use Rattle.lt_circuit.specs.Circuit.{AreTallies}
use Rattle.lt_circuit.specs.Segment.{SegmentView}
use Rattle.lt_circuit.specs.Row.{parts, row_of, sizes, standing_in}

-- The code of a job by its number over all segments: leaf i of segment s is leaf 256 * s + i of the work, node v of its tree is node
-- 512 * s + v, and its Pass is that of segment s.
abbrev pub number_code : JobName → ℕ
number_code (Leaf i) = 2048 * (i / 256) + 3 * (i % 256)
number_code (Merge v) = 2048 * (v / 512) + (3 * (v % 512) + 1)
number_code (Correct v) = 2048 * (v / 512) + (3 * (v % 512) + 2)
number_code (Pass s) = 2048 * s + 2047

-- the code of a leaf's job in a line
abbrev pub leaf_place : ℕ → ℕ
leaf_place i = number_code (Leaf i)

-- The tallies are per leaf of the work. While a worker holds the leaf's job, the leaf's tally is with it.
pub record LineView (W T : Type 0) : Type 0 where
  pub work : W
  pub row : List SegmentView
  pub journal : List LineEntry
  pub tallies : List (Option (Prior T))

abbrev pub line_state : {W T : Type 0} → LineView W T → State
line_state l = row_of l.row

-- the event that the entry tells
abbrev pub line_event : LineEntry → Event
line_event e = event_on e.event e.worker e.job

-- three times the job's code, with what is done as its kind
abbrev pub line_entry_code : LineEntry → ℕ
line_entry_code e = with_kind e.job (kind_code e.event)

-- the line is the replay of its journal. `does` is what the work's leaves do
abbrev pub IsLineReplay : (ℕ → List Mark → List Mark) → List SegmentView → List LineEntry → Type 0
IsLineReplay does row journal =
    replay (line_net does (sizes row)) (Some (opening (line_net does (sizes row)))) (map line_event journal) ≡ Some (row_of row)

-- What holds of a line's fields.
pub record IsLine {T : Type 0} (does : ℕ → List Mark → List Mark) (stands_for : T → ℕ → List Mark → Type 0) (fits : List Mark → Type 0) (has : ℕ → Type 0)
    (row : List SegmentView) (journal : List LineEntry) (tallies : List (Option (Prior T))) (used capacity : ℕ) : Type 0 where
  pub replayed : IsLineReplay does row journal
  pub small : AreSizes (sizes row)
  pub leaves_there : (s i : ℕ) → i < size_in (sizes row) s → has (256 * s + i)
  pub tallies_long : (s i : ℕ) → i < size_in (sizes row) s → 256 * s + i < length tallies
  pub are_tallies : AreTallies leaf_place stands_for fits (row_of row) tallies
  -- a worker holds a job in one segment at most
  pub single : (w s : ℕ) (c : Claim) → s < length row → (parts row s).claim w ≡ Some c → HasNoOther (length row) (parts row) s w
  pub placed : (w s : ℕ) (c : Claim) → s < length row → (parts row s).claim w ≡ Some c → c.job < 2048
  -- the journal has room for the end of each claim
  pub room : used + standing_in row ≤ capacity

-- ---- a job by its number: the segment that it is of, and the job in that segment

abbrev pub number_segment : JobName → ℕ
number_segment (Leaf i) = i / 256
number_segment (Merge v) = v / 512
number_segment (Correct v) = v / 512
number_segment (Pass s) = s

abbrev pub number_within : JobName → JobName
number_within (Leaf i) = Leaf (i % 256)
number_within (Merge v) = Merge (v % 512)
number_within (Correct v) = Correct (v % 512)
number_within (Pass s) = Pass 0

-- the number of a job of segment s
abbrev pub numbered : (s : ℕ) → JobName → JobName
numbered s (Leaf i) = Leaf (256 * s + i)
numbered s (Merge v) = Merge (512 * s + v)
numbered s (Correct v) = Correct (512 * s + v)
numbered s (Pass r) = Pass s

abbrev pub line_name : LineJob → JobName
line_name (Own s name) = numbered s name
line_name (PassOf s) = Pass s
