-- What the codes of jobs tell.
use Rattle.std.proofs.Common.{◌≡◌, ◌≢◌, ℕ, ◌/◌, ◌%◌, ◌<◌, inl, inr, true, false, sym, ap, ◌∙◌, arith}
use Rattle.std.specs.Prelude.{◌==◌}
use Rattle.std.proofs.lemmas.Bool.Decides.{eqb_tells, nat_tests}
use Rattle.lt_net.specs.declared.job.JobName.{JobName}
use Rattle.lt_net.specs.declared.job.JobName.TheVariants.{Leaf, Merge, Correct, Pass}
use Rattle.lt_net.specs.Codes.{with_kind, code_of, job_of, IsOfTree, nodes_over, codes_over}
use Rattle.lt_net.proofs.Shape.{eq_false}

-- the kind is the rest, and the number the third
pub kind_back : (number kind : ℕ) → kind < 3 → with_kind number kind % 3 ≡ kind
kind_back number kind h = omega (arith, h)

pub number_back : (number kind : ℕ) → kind < 3 → with_kind number kind / 3 ≡ number
number_back number kind h = omega (arith, h)

-- ---- a code names one job, and a job has one code

pub job_of-code : (name : JobName) → IsOfTree name → job_of (code_of name) ≡ name
job_of-code (Leaf i) own =
    let a : (code_of (Leaf i) % 3 == 0) ≡ true = grind (arith, nat_tests) in
    let b : code_of (Leaf i) / 3 ≡ i = omega arith in
    rw (a, b)
job_of-code (Merge v) own =
    let a : (code_of (Merge v) % 3 == 0) ≡ false = eq_false (code_of (Merge v) % 3) 0 (omega arith) in
    let b : (code_of (Merge v) % 3 == 1) ≡ true = grind (arith, nat_tests) in
    let c : code_of (Merge v) / 3 ≡ v = omega arith in
    rw (a, b, c)
job_of-code (Correct v) own =
    let a : (code_of (Correct v) % 3 == 0) ≡ false = eq_false (code_of (Correct v) % 3) 0 (omega arith) in
    let b : (code_of (Correct v) % 3 == 1) ≡ false = eq_false (code_of (Correct v) % 3) 1 (omega arith) in
    let c : code_of (Correct v) / 3 ≡ v = omega arith in
    rw (a, b, c)
job_of-code (Pass s) own = absurd own

-- what a code names is a job of a tree
pub is_of_tree : (code : ℕ) → IsOfTree (job_of code)
is_of_tree code = elim (eqb_tells (code % 3) 0) [
  | inl h ↦ rw h.0 tt
  | inr h ↦ elim (eqb_tells (code % 3) 1) [
    | inl g ↦ rw (h.0, g.0) tt
    | inr g ↦ rw (h.0, g.0) tt
  ]
]

pub code_of-job : (code : ℕ) → code_of (job_of code) ≡ code
code_of-job code = elim (eqb_tells (code % 3) 0) [
  | inl h ↦ rw h.0 (omega arith)
  | inr h ↦ elim (eqb_tells (code % 3) 1) [
    | inl g ↦ rw (h.0, g.0) (omega arith)
    | inr g ↦ rw (h.0, g.0) (omega arith)
  ]
]

pub same_job : (a b : JobName) → IsOfTree a → IsOfTree b → code_of a ≡ code_of b → a ≡ b
same_job a b own other e = sym (job_of-code a own) ∙ ap job_of e ∙ job_of-code b other

pub same_code : (j k : ℕ) → job_of j ≡ job_of k → j ≡ k
same_code j k e = sym (code_of-job j) ∙ ap code_of e ∙ code_of-job k

pub same_leaf : (i l : ℕ) → code_of (Leaf i) ≡ code_of (Leaf l) → i ≡ l
same_leaf i l e = omega (arith, e)

pub merge_no_leaf : (v i : ℕ) → code_of (Merge v) ≢ code_of (Leaf i)
merge_no_leaf v i e = omega (arith, e)

pub correct_no_leaf : (v i : ℕ) → code_of (Correct v) ≢ code_of (Leaf i)
correct_no_leaf v i e = omega (arith, e)

pub pass_no_leaf : (s i : ℕ) → code_of (Pass s) ≢ code_of (Leaf i)
pass_no_leaf s i e = omega (arith, e)

-- ---- how large codes are

-- the leaf or the node of a job, and no place of a tree of a Pass
abbrev pub place_of : JobName → ℕ
place_of (Leaf i) = i
place_of (Merge v) = v
place_of (Correct v) = v
place_of (Pass s) = 2047

pub code_within : (n : ℕ) (name : JobName) → place_of name < nodes_over n → code_of name < codes_over n
code_within n (Leaf i) h = omega (arith, h)
code_within n (Merge v) h = omega (arith, h)
code_within n (Correct v) h = omega (arith, h)
code_within n (Pass s) h = omega (arith, h)
