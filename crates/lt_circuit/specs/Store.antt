-- A finish in steps: the claim ends, each output is stored, and a leaf keeps its correction.
use Rattle.std.specs.Prelude.{ℕ, ◌+◌, Bool, false, if◌then◌else◌, List, [], ◌∷◌, Option, Some, None, ◌==◌, ◌||◌}
use Rattle.lt_model.specs.declared.mark.Mark.{Mark}
use Rattle.lt_net.specs.Net.{Cell, Correction, Effect, Net, State, Claim, same_cell, same_at, woken, update, status_ended}
use Rattle.lt_net.specs.Tree.{Tree, right_of, parent_of, leaf_at}
use Rattle.lt_net.specs.Codes.{code_of}
use Rattle.lt_net.specs.declared.job.JobName.TheVariants.{Leaf, Merge, Correct}

abbrev pub closed : State → ℕ → Claim → State
closed s worker c = record s { status = status_ended s c; claim = update s.claim worker None }

abbrev pub with_value : (Cell → List Mark) → Cell → List Mark → Cell → List Mark
with_value value x m y = if same_cell y x then m else value y

-- m stands at x, and each job one of whose inputs has changed is woken
abbrev pub stored : Net → State → Cell → List Mark → State
stored net s x m = record s {
  value = with_value s.value x m;
  status = λ j. if same_at s.value (with_value s.value x m) (net.inputs j) then s.status j else woken (s.status j);
}

abbrev pub kept_leaf : State → ℕ → List Mark → State
kept_leaf s job m = record s { done = update s.done job (Some m) }

-- a correction is read by the inner node's Correct, or by the leaf's job
abbrev pub correction_readers : Option ℕ → (leaf node : ℕ) → List ℕ
correction_readers None leaf node = code_of (Leaf leaf) ∷ []
correction_readers (Some right) leaf node = code_of (Correct node) ∷ []

-- the codes of the jobs that read a cell
abbrev pub readers_of : Tree → Cell → List ℕ
readers_of t (Effect u) =
    if u == 0 then [] else code_of (Merge (parent_of t u)) ∷ (if u == parent_of t u + 1 then code_of (Correct (parent_of t u)) ∷ [] else [])
readers_of t (Correction u) = correction_readers (right_of t u) (leaf_at t u) u

abbrev pub has_code : ℕ → List ℕ → Bool
has_code j [] = false
has_code j (k ∷ ks) = (j == k) || has_code j ks
