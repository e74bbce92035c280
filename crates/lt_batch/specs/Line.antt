-- Batches one after another, each on the state that those before it left.
use Rattle.std.specs.Prelude.{◌≡◌, ℕ, ◌/◌, ◌%◌, ◌≤◌, List, [], ◌∷◌, ◌++◌, map, take, length, slice_index_or}
use Rattle.std.specs.Arc.{arc_value}
use Rattle.std.specs.Global.{Vec}
use Rattle.std.specs.declared.sync.Arc.{Arc}
use Rattle.lt_face.specs.State.{State}
use Rattle.lt_model.specs.declared.normal.Stmt.{Stmt}
use Rattle.lt_model.specs.declared.reply.Reply.{Reply}
use Rattle.lt_model.specs.Marks.{Marks, laid}
use Rattle.lt_net.specs.Tree.{then_all}
use Rattle.lt_batch.specs.Batch.{serial_replies, serial_effects, serial_state, does_at}

-- the programs of each batch
abbrev pub programs_of : {Z : Type 0} → List (Vec (Arc (List Stmt) Z)) → List (List (List Stmt))
programs_of batches = map (λ batch. map arc_value batch.items) batches

-- batch s, and no program past the last
abbrev pub batch_at : List (List (List Stmt)) → ℕ → List (List Stmt)
batch_at batches s = slice_index_or batches s []

-- what each program answered, batch after batch
abbrev pub line_replies : List (List (List Stmt)) → State → List (List Reply)
line_replies [] state = []
line_replies (batch ∷ batches) state = serial_replies batch state ∷ line_replies batches (serial_state batch state)

-- and what each wrote
abbrev pub line_effects : List (List (List Stmt)) → State → List (List Marks)
line_effects [] state = []
line_effects (batch ∷ batches) state = serial_effects batch state ∷ line_effects batches (serial_state batch state)

-- these marks one after another, as one list
abbrev pub whole_effect : List Marks → Marks
whole_effect effects = then_all (λ i. slice_index_or effects i []) [] (length effects)

-- what each batch wrote in all
abbrev pub line_marks : List (List (List Stmt)) → State → List Marks
line_marks batches state = map whole_effect (line_effects batches state)

-- the state that each batch left
abbrev pub line_states : List (List (List Stmt)) → State → List State
line_states [] state = []
line_states (batch ∷ batches) state = serial_state batch state ∷ line_states batches (serial_state batch state)

-- the state that they all left
abbrev pub last_state : List (List (List Stmt)) → State → State
last_state [] state = state
last_state (batch ∷ batches) state = last_state batches (serial_state batch state)

-- the state that the first s batches left
abbrev pub state_before : List (List (List Stmt)) → State → ℕ → State
state_before batches state s = last_state (take s batches) state

-- the states that marks lead to, each list laid on what the one before it left
abbrev pub states_by : State → List Marks → List State
states_by state [] = []
states_by state (marks ∷ more) = laid state marks ∷ states_by (laid state marks) more

-- leaf 256 * s + i is program i of batch s: what it writes where the correction is laid on the snapshot
abbrev pub line_does : List (List (List Stmt)) → State → ℕ → Marks → Marks
line_does batches snapshot leaf correction = does_at (batch_at batches (leaf / 256)) snapshot (leaf % 256) correction

-- a first part of these lists was given, each in its place
abbrev pub HasGivenFront : (old new marks : List Marks) → Type 0
HasGivenFront old new marks = (k : ℕ) × (k ≤ length marks) × (new ≡ old ++ take k marks)
