-- A row of segments, each a tree over its own leaves, that start together. Between two of them a Pass hands on what all leaves
-- before the second one do.
use Rattle.std.specs.Prelude.{◌≡◌, ℕ, zero, suc, ◌*◌, ◌+◌, ◌-◌, ◌/◌, ◌%◌, ◌<◌, ◌≤◌, Bool, false, if◌then◌else◌, List, [], ◌∷◌, map, length, slice_index_or, Some, None, ◌==◌, nat_lt}
use Rattle.lt_model.specs.declared.mark.Mark.{Mark}
use Rattle.lt_model.specs.Marks.{AreMarks, and_then}
use Rattle.lt_net.specs.declared.job.JobName.{JobName}
use Rattle.lt_net.specs.declared.job.JobName.TheVariants.{Leaf}
use Rattle.lt_net.specs.declared.job.JobState.TheVariants.{Clean}
use Rattle.lt_net.specs.Net.{Cell, Correction, Effect, Net, State, first_of, second_of}
use Rattle.lt_net.specs.Tree.{tree_of, inputs_of, outputs_of, gives_of, is_leaf_job, leaf_value, then_all}
use Rattle.lt_net.specs.Codes.{code_of, job_of}

-- how many leaves the segment has
abbrev pub size_in : List ℕ → ℕ → ℕ
size_in sizes s = slice_index_or sizes s 0

-- each segment's jobs have codes of its own
pub record AreSizes (sizes : List ℕ) : Type 0 where
  pub few : (s : ℕ) → size_in sizes s ≤ 256

-- ---- places: the numbers of segment s begin at s times so many

-- the cell of a segment's tree
abbrev pub placed : ℕ → Cell → Cell
placed s (Correction v) = Correction (512 * s + v)
placed s (Effect v) = Effect (512 * s + v)

abbrev pub unplaced : ℕ → Cell → Cell
unplaced s (Correction u) = Correction (u - 512 * s)
unplaced s (Effect u) = Effect (u - 512 * s)

-- a job of a segment's tree, or the one that hands on to the next segment
pub data LineJob : Type 0 where
  Own : (segment : ℕ) → (name : JobName) → LineJob
  Pass : (segment : ℕ) → LineJob

abbrev pub line_code : LineJob → ℕ
line_code (Own s name) = 2048 * s + code_of name
line_code (Pass s) = 2048 * s + 2047

abbrev pub job_at : (segment place : ℕ) → LineJob
job_at s place = if place == 2047 then Pass s else Own s (job_of place)

abbrev pub line_job : ℕ → LineJob
line_job code = job_at (code / 2048) (code % 2048)

-- what the leaves of a segment do
abbrev pub effect_in : (ℕ → List Mark → List Mark) → ℕ → ℕ → List Mark → List Mark
effect_in effect s i = effect (256 * s + i)

-- ---- the jobs

-- another segment stands behind this one
abbrev pub hands_on : List ℕ → ℕ → Bool
hands_on sizes s = nat_lt (s + 1) (length sizes)

abbrev pub line_inputs : List ℕ → LineJob → List Cell
line_inputs sizes (Own s name) = map (placed s) (inputs_of (tree_of (size_in sizes s)) name)
line_inputs sizes (Pass s) = if hands_on sizes s then placed s (Correction 0) ∷ placed s (Effect 0) ∷ [] else []

abbrev pub line_outputs : List ℕ → LineJob → List Cell
line_outputs sizes (Own s name) = map (placed s) (outputs_of (tree_of (size_in sizes s)) name)
line_outputs sizes (Pass s) = if hands_on sizes s then placed (s + 1) (Correction 0) ∷ [] else []

abbrev pub line_gives : (ℕ → List Mark → List Mark) → LineJob → List (List Mark) → Cell → List Mark
line_gives effect (Own s name) inputs x = gives_of (effect_in effect s) name inputs (unplaced s x)
line_gives effect (Pass s) inputs x = and_then (first_of inputs) (second_of inputs)

-- the leaves' jobs and the Passes are to be done at the opening
abbrev pub line_starts : List ℕ → LineJob → Bool
line_starts sizes (Own s name) = is_leaf_job (tree_of (size_in sizes s)) name
line_starts sizes (Pass s) = hands_on sizes s

abbrev pub line_leaf : List ℕ → LineJob → Bool
line_leaf sizes (Own s name) = is_leaf_job (tree_of (size_in sizes s)) name
line_leaf sizes (Pass s) = false

abbrev pub line_net : (ℕ → List Mark → List Mark) → List ℕ → Net
line_net effect sizes = record {
  inputs = λ code. line_inputs sizes (line_job code);
  outputs = λ code. line_outputs sizes (line_job code);
  gives = λ code. line_gives effect (line_job code);
  starts = λ code. line_starts sizes (line_job code);
  is_leaf = λ code. line_leaf sizes (line_job code);
}

-- ---- serial running

-- the segment's tree alone, as a circuit's state without claims
abbrev pub part : ℕ → State → State
part s st = record {
  value = λ x. st.value (placed s x);
  status = λ place. st.status (2048 * s + place);
  done = λ place. st.done (2048 * s + place);
  claim = λ w. None;
}

-- the effects of all leaves of the segments before s, one after another
abbrev pub before_segment : List ℕ → State → ℕ → List Mark
before_segment sizes st zero = []
before_segment sizes st (suc s) = then_all (leaf_value (size_in sizes s) (part s st)) (before_segment sizes st s) (size_in sizes s)

-- Each leaf did what it does on `start` and the effects of the leaves before it, and last finished with just that correction. The
-- root's effect is that of all.
pub record IsSerialFrom (effect : ℕ → List Mark → List Mark) (start : List Mark) (n : ℕ) (s : State) : Type 0 where
  pub did : (i : ℕ) → i < n → leaf_value n s i ≡ effect i (then_all (leaf_value n s) start i)
  pub stands_for : (i : ℕ) → i < n → s.done (code_of (Leaf i)) ≡ Some (then_all (leaf_value n s) start i)
  pub whole : s.value (Effect 0) ≡ then_all (leaf_value n s) [] n

-- the leaves of the segments below f, over all segments, one after another
abbrev pub IsSerialBelow : (ℕ → List Mark → List Mark) → List ℕ → ℕ → State → Type 0
IsSerialBelow effect sizes f st =
    (s : ℕ) → s < f → IsSerialFrom (effect_in effect s) (before_segment sizes st s) (size_in sizes s) (part s st)

-- what a leaf of the line does on marks is marks
abbrev pub GiveMarksIn : (ℕ → List Mark → List Mark) → List ℕ → Type 0
GiveMarksIn effect sizes = (s i : ℕ) (c : List Mark) → i < size_in sizes s → AreMarks c → AreMarks (effect_in effect s i c)

-- ---- the front

-- no job of the segments below f, and no Pass between two of them, is Pending, Running or Dirty
abbrev pub IsPast : ℕ → State → Type 0
IsPast f st = (code : ℕ) → code + 1 < 2048 * f → st.status code ≡ Clean

-- the greatest such f
pub record IsFront (sizes : List ℕ) (f : ℕ) (st : State) : Type 0 where
  pub within : f ≤ length sizes
  pub past : IsPast f st
  pub greatest : (g : ℕ) → g ≤ length sizes → IsPast g st → g ≤ f

-- what stands of the segments below f is the same in both
pub record IsSameBelow (sizes : List ℕ) (f : ℕ) (s t : State) : Type 0 where
  pub effects : (k i : ℕ) → k < f → i < size_in sizes k → leaf_value (size_in sizes k) (part k t) i ≡ leaf_value (size_in sizes k) (part k s) i
  pub roots : (k : ℕ) → k < f → t.value (placed k (Effect 0)) ≡ s.value (placed k (Effect 0))
  pub tallies : (k i : ℕ) → k < f → i < size_in sizes k → t.done (line_code (Own k (Leaf i))) ≡ s.done (line_code (Own k (Leaf i)))
