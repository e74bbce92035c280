-- The jobs of a line by their numbers over all segments.
use Rattle.std.proofs.Common.{◌≡◌, ◌≢◌, ℕ, ◌+◌, ◌*◌, ◌/◌, ◌%◌, ◌<◌, ◌≤◌, Bool, true, false, List, [], ◌∷◌, map, length, refl, sym, ap, ◌∙◌, arith}
use Rattle.std.specs.Prelude.{if◌then◌else◌}
use Rattle.lt_model.specs.declared.mark.Mark.{Mark}
use Rattle.lt_net.specs.declared.job.JobName.{JobName}
use Rattle.lt_net.specs.declared.job.JobName.TheVariants.{Leaf, Merge, Correct, Pass}
use Rattle.lt_net.specs.Codes.{code_of, IsOfTree}
use Rattle.lt_net.specs.Line.{LineJob, Own, Pass as PassOf, hands_on, line_code, line_inputs, line_job, placed, size_in}
use Rattle.lt_net.specs.Net.{Cell, Correction, Effect, read}
use Rattle.lt_net.specs.Tree.{inputs_of, tree_of}
use Rattle.lt_net.proofs.Inside.{correct_inside, leaf_inside, merge_inside}
use Rattle.lt_net.proofs.Placed.{code_back, own_back, read_placed}
use Rattle.lt_circuit.specs.Job.{arity}
use Rattle.lt_circuit.specs.Line.{line_name, number_code, number_segment, number_within, numbered}
use Rattle.lt_circuit.proofs.Tallies.{AreCodes}
use Rattle.lt_circuit.proofs.Tasks.{inputs_long}

pub number_codes : AreCodes number_code
number_codes = record {
  leaf = λ i l e. omega (arith, e);
  merge = λ v i e. omega (arith, e);
  correct = λ v i e. omega (arith, e);
  pass = λ s i e. omega (arith, e);
}

-- a job but a Pass, by its number, is one of its segment's tree
pub own_of : (name : JobName) → IsOfTree name → line_job (number_code name) ≡ Own (number_segment name) (number_within name)
own_of (Leaf i) own = own_back (i / 256) (Leaf (i % 256)) tt (omega arith)
own_of (Merge v) own = own_back (v / 512) (Merge (v % 512)) tt (omega arith)
own_of (Correct v) own = own_back (v / 512) (Correct (v % 512)) tt (omega arith)
own_of (Pass s) own = absurd own

pub code_is : (name : JobName) → number_code name ≡ 2048 * number_segment name + code_of (number_within name)
code_is (Leaf i) = refl
code_is (Merge v) = refl
code_is (Correct v) = refl
code_is (Pass s) = refl

pub segment_is : (name : JobName) → number_code name / 2048 ≡ number_segment name
segment_is (Leaf i) = omega arith
segment_is (Merge v) = omega arith
segment_is (Correct v) = omega arith
segment_is (Pass s) = omega arith

-- ---- the numbers of a segment's jobs

-- the node or leaf isn't one of the next segment
abbrev pub IsInside : JobName → Type 0
IsInside (Leaf i) = i < 256
IsInside (Merge v) = v < 512
IsInside (Correct v) = v < 512
IsInside (Pass s) = Unit {0}

pub inside_tree : (n : ℕ) (name : JobName) → n ≤ 256 → inputs_of (tree_of n) name ≢ [] → IsInside name
inside_tree n (Leaf i) few some = omega (arith, few, leaf_inside n i some)
inside_tree n (Merge v) few some = omega (arith, few, merge_inside n v some)
inside_tree n (Correct v) few some = omega (arith, few, correct_inside n v some)
inside_tree n (Pass s) few some = tt

pub number_of : (s : ℕ) (name : JobName) → IsInside name → number_code (numbered s name) ≡ 2048 * s + code_of name
number_of s (Leaf i) lt = omega (arith, lt)
number_of s (Merge v) lt = omega (arith, lt)
number_of s (Correct v) lt = omega (arith, lt)
number_of s (Pass r) lt = refl

pub arity_same : (s : ℕ) (name : JobName) → arity (numbered s name) ≡ arity name
arity_same s (Leaf i) = refl
arity_same s (Merge v) = refl
arity_same s (Correct v) = refl
arity_same s (Pass r) = refl

-- ---- the jobs of a line that read something

module _ (sizes : List ℕ) (small : (s : ℕ) → size_in sizes s ≤ 256) (code : ℕ) (some : line_inputs sizes (line_job code) ≢ []) where
  pub code_whole : (a : LineJob) → line_job code ≡ a → line_code a ≡ code
  code_whole a e = ap line_code (sym e) ∙ code_back code

  module _ (s : ℕ) (name : JobName) (e : line_job code ≡ Own s name) where
    pub own_some : inputs_of (tree_of (size_in sizes s)) name ≢ []
    own_some none = some (ap (line_inputs sizes) e ∙ ap (map (placed s)) none)

    pub own_inside : IsInside name
    own_inside = inside_tree (size_in sizes s) name (small s) own_some

    pub own_long : (f : Cell → List Mark) → length (read f (line_inputs sizes (Own s name))) ≡ arity (numbered s name)
    own_long f = ap length (read_placed f s (inputs_of (tree_of (size_in sizes s)) name)) ∙ inputs_long (tree_of (size_in sizes s)) name (λ y. f (placed s y)) own_some ∙ sym (arity_same s name)

  -- the code is that of the job by its number
  pub name_code : number_code (line_name (line_job code)) ≡ code
  name_code = by_job (line_job code) refl
    where
      by_job : (a : LineJob) → line_job code ≡ a → number_code (line_name a) ≡ code
      by_job (Own s name) e = number_of s name (own_inside s name e) ∙ code_whole (Own s name) e
      by_job (PassOf s) e = code_whole (PassOf s) e

  pass_long : (s : ℕ) (f : Cell → List Mark) (on : Bool) → (if on then placed s (Correction 0) ∷ placed s (Effect 0) ∷ [] else []) ≢ []
      → length (read f (if on then placed s (Correction 0) ∷ placed s (Effect 0) ∷ [] else [])) ≡ 2
  pass_long s f true there = refl
  pass_long s f false there = absurd (there refl)

  pub line_long : (f : Cell → List Mark) → length (read f (line_inputs sizes (line_job code))) ≡ arity (line_name (line_job code))
  line_long f = by_job (line_job code) refl
    where
      by_job : (a : LineJob) → line_job code ≡ a → length (read f (line_inputs sizes a)) ≡ arity (line_name a)
      by_job (Own s name) e = own_long s name e f
      by_job (PassOf s) e = pass_long s f (hands_on sizes s) (λ none. some (ap (line_inputs sizes) e ∙ none))

-- ---- a leaf of the line

module _ (sizes : List ℕ) (leaf : ℕ) (some : line_inputs sizes (line_job (number_code (Leaf leaf))) ≢ []) where
  pub leaf_below : leaf % 256 < size_in sizes (leaf / 256)
  leaf_below = leaf_inside (size_in sizes (leaf / 256)) (leaf % 256) (λ none. some (ap (line_inputs sizes) (own_of (Leaf leaf) tt) ∙ ap (map (placed (leaf / 256))) none))

pub leaf_whole : (leaf : ℕ) → 256 * (leaf / 256) + leaf % 256 ≡ leaf
leaf_whole leaf = omega arith
