-- The codes of jobs.
use Rattle.std.specs.Prelude.{ℕ, ◌*◌, ◌+◌, ◌-◌, ◌/◌, ◌%◌, ◌==◌, if◌then◌else◌}
use Rattle.lt_net.specs.declared.job.JobName.{JobName}
use Rattle.lt_net.specs.declared.job.JobName.TheVariants.{Leaf, Merge, Correct, Pass}

-- a number with one of three kinds, 0, 1 or 2, as one number
abbrev pub with_kind : (number kind : ℕ) → ℕ
with_kind number kind = 3 * number + kind

abbrev pub code_of : JobName → ℕ
code_of (Leaf i) = 3 * i
code_of (Merge v) = 3 * v + 1
code_of (Correct v) = 3 * v + 2
code_of (Pass s) = 2047

-- the job is one of a tree: its code names it
abbrev pub IsOfTree : JobName → Type 0
IsOfTree (Leaf i) = Unit {0}
IsOfTree (Merge v) = Unit {0}
IsOfTree (Correct v) = Unit {0}
IsOfTree (Pass s) = ⊥

abbrev pub job_of : ℕ → JobName
job_of code = if code % 3 == 0 then Leaf (code / 3) else (if code % 3 == 1 then Merge (code / 3) else Correct (code / 3))

-- how many nodes a tree over n leaves has
abbrev pub nodes_over : ℕ → ℕ
nodes_over n = 2 * n - 1

-- how many codes they have. The code of each job of the tree is below that
abbrev pub codes_over : ℕ → ℕ
codes_over n = 3 * nodes_over n
